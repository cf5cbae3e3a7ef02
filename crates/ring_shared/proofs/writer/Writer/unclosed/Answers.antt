use Rattle.std.proofs.Common.{subst}
use Rattle.ring_shared.specs.Value.{WriterValue}
use Rattle.ring_shared.specs.Calls.{IsWriter}
use Rattle.ring_shared.proofs.OpenPart.{UnclosedByFrames, unclosed_there}
use Rattle.ring_shared.proofs.writer.Writer.unclosed.Goals as goal

pub returns : goal.returns
unfolding IsWriter
returns c =
    unclosed_there c.args.self.now c.requires.writer c.unclosed.result
    (subst (λ (v : WriterValue). UnclosedByFrames v c.unclosed.result) c.self.view_is c.unclosed.ensures)
