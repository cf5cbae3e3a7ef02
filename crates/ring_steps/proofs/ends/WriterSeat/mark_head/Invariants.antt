use Rattle.ring_steps.specs.Views.{passed}
use Rattle.ring_steps.specs.Ends.{writing_in}
use Rattle.ring_steps.specs.Linking.{LinkReported, after_lost_in}
use Rattle.ring_steps.proofs.ends.WriterSeat.mark_head.Given as goal

abbrev pub ghosts-compare_exchange_step : goal.ghosts-compare_exchange_step
ghosts-compare_exchange_step a =
    record {
      reports =
          λ before found after.
          LinkReported a.self.now.shape (writing_in a.self.now) (passed before.0)
          (after_lost_in a.self.now.shape.pages (writing_in a.self.now)) found after;
    }
