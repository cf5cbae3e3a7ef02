use Rattle.ring_steps.specs.Views.{passed}
use Rattle.ring_steps.specs.Ends.{writing_in}
use Rattle.ring_steps.specs.Linking.{WishReported}
use Rattle.ring_steps.proofs.ends.WriterSeat.load_wish.Given as goal

abbrev pub ghosts-load_step : goal.ghosts-load_step
ghosts-load_step a =
    record {
      reports =
          λ before found after. WishReported a.self.now.shape (writing_in a.self.now) (passed before.0) found after;
    }
