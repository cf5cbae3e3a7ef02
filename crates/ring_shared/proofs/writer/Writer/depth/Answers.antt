use Rattle.std.proofs.Common.{length, ap, ◌∙◌}
use Rattle.ring_shared.specs.Value.{WriterValue}
use Rattle.ring_shared.specs.Calls.{IsWriter}
use Rattle.ring_shared.proofs.Depths.{depth_is}
use Rattle.ring_shared.proofs.writer.Writer.depth.Goals as goal

pub returns-clause-part : goal.returns-clause-part
unfolding IsWriter
returns-clause-part c w =
    c.depth.ensures.frames ∙ ap (λ (x : WriterValue). length x.frames.stack.frames) c.self.view_is
    ∙ depth_is c.args.self.now w
