use Rattle.std.proofs.Common.{refl}
use Rattle.text_values.proofs.Written.{more_waits}
use Rattle.text_values.proofs.output.Out.put.Goals as goal

pub returns-then-bytes-room : goal.returns-then-bytes-room
returns-then-bytes-room g c = λ start text has.
    more_waits start text c.args.bytes.now c.args.self.now _ refl refl c.add.ensures.waits has
