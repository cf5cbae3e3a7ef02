use Rattle.std.proofs.Common.{ap, ◌∙◌}
use Rattle.nested_writer.specs.Stack.{opened}
use Rattle.ring_shared.specs.Value.{WriterValue}
use Rattle.ring_shared.specs.Calls.{IsWriter}
use Rattle.ring_shared.proofs.OpenPart.{opened_there}
use Rattle.ring_shared.proofs.writer.Writer.opened.Goals as goal

pub returns : goal.returns
unfolding IsWriter
returns c w =
    c.opened.ensures.begun ∙ ap (λ (v : WriterValue). opened v.frames.stack) c.self.view_is
    ∙ opened_there c.args.self.now w
