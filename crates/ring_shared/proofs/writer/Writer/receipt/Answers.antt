use Rattle.std.proofs.Common.{ap, ◌∙◌}
use Rattle.ring_steps.specs.Views.{Writing}
use Rattle.ring_shared.specs.Value.{WriterValue}
use Rattle.ring_shared.specs.Calls.{IsWriter}
use Rattle.ring_shared.specs.Receipts.{done_after}
use Rattle.ring_shared.proofs.DoneSeen.{done_of_part}
use Rattle.ring_shared.proofs.writer.Writer.receipt.Goals as goal

pub returns-clause-done : goal.returns-clause-done
unfolding IsWriter
returns-clause-done c =
    ap (done_after c.args.self.now.shape.start)
    (c.receipt.ensures.made ∙ (ap (λ (w : Writing). w.made) c.receipt.ensures.part
    ∙ ap (λ (v : WriterValue). v.part.made) c.self.view_is))
    ∙ done_of_part c.args.self.now c.requires.writer
