use Rattle.std.proofs.Common.{refl}
use Rattle.text_values.specs.Digits.{pairs_of}
use Rattle.text_values.proofs.Written.{more_waits}
use Rattle.text_values.proofs.output.Out.put_hex_piece.Goals as goal

pub returns : goal.returns
returns g c = λ start text has.
    more_waits start text (pairs_of c.args.bytes.now) c.write_out.new.self _ refl refl c.add_hex.ensures.waits
    (c.write_out.ensures.put start text has)
