use Rattle.ring_steps.specs.Views.{passed}
use Rattle.ring_steps.specs.Ends.{writing_in}
use Rattle.ring_steps.specs.Linking.{LinkReported, noted_on_top}
use Rattle.ring_steps.proofs.ends.WriterSeat.clear_update.Given as goal

abbrev pub ghosts-compare_exchange_step : goal.ghosts-compare_exchange_step
ghosts-compare_exchange_step a =
    record {
      reports =
          λ before found after.
          LinkReported a.self.now.shape (writing_in a.self.now) (passed before.0)
          (noted_on_top (writing_in a.self.now).frames) found after;
    }
