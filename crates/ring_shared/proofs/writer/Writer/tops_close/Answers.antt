use Rattle.std.proofs.Common.{ap, ◌∙◌}
use Rattle.nested_writer.specs.Calls.{tops_close}
use Rattle.ring_shared.specs.Value.{WriterValue}
use Rattle.ring_shared.specs.Calls.{IsWriter}
use Rattle.ring_shared.proofs.OpenPart.{closes_there}
use Rattle.ring_shared.proofs.writer.Writer.tops_close.Goals as goal

pub returns : goal.returns
unfolding IsWriter
returns c w =
    c.tops_close.ensures ∙ ap (λ (v : WriterValue). tops_close v.frames.stack.frames) c.self.view_is
    ∙ closes_there c.args.self.now w
