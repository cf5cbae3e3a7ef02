use Rattle.std.proofs.Common.{◌≡◌}
use Rattle.ring_steps.specs.Views.{reading}
use Rattle.ring_steps.specs.Taking.{SeatReported}
use Rattle.ring_steps.proofs.ends.ReaderSeat.load_done.Given as goal

abbrev pub ghosts-load : goal.ghosts-load
ghosts-load a =
    record {
      reports =
          λ before found after.
          SeatReported a.shape (λ core. core.done ≡ found) (reading before.0).keeps_spare before after;
    }
