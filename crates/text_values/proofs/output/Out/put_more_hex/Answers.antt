use Rattle.std.proofs.Common.{◌++◌}
use Rattle.text_values.specs.Digits.{pairs_of}
use Rattle.text_values.proofs.Written.{digits_more}
use Rattle.text_values.proofs.output.Out.put_more_hex.Goals as goal

pub loop-rest-preserved : goal.loop-rest-preserved
loop-rest-preserved g c = λ start text has.
    let before = c.loop-rest.invariant start text has in
    let piece = c.split_at.result.0.now in (
      before.0 ++ pairs_of piece,
      digits_more before.0 piece c.split_at.result.1.now c.loop-rest.rest.now _ _
          c.split_at.ensures.front c.split_at.ensures.back before.1,
      c.put_hex_piece.ensures start before.0 before.2,
    )
