use Rattle.std.proofs.Common.{arith}
use Rattle.std.proofs.lemmas.Fmt.{length-decimal-le}
use Rattle.std.proofs.lemmas.Grind.{common_steps}
use Rattle.capture_text.proofs.lines.put_in_front.Goals as goal

pub write_digits-requires : goal.write_digits-requires
write_digits-requires c = (
  omega (arith, c.requires.room, length-decimal-le 20 c.args.number (omega arith) (omega arith) c.ranges.number.fits),
  grind (arith, common_steps),
)

pub returns-clause-room : goal.returns-clause-room
returns-clause-room c =
    omega (
      arith,
      c.requires.room,
      c.write_digits.ensures.start,
      length-decimal-le 20 c.args.number (omega arith) (omega arith) c.ranges.number.fits,
    )
