use Rattle.ring_steps.specs.Views.{reading}
use Rattle.ring_steps.specs.Swapping.{head_to_take, SwapReported}
use Rattle.ring_steps.proofs.ends.ReaderSeat.swap_head.Given as goal

abbrev pub ghosts-compare_exchange : goal.ghosts-compare_exchange
ghosts-compare_exchange a =
    record {
      reports =
          λ before found after.
          SwapReported a.shape before (head_to_take (reading before.0).reader.phase) found after;
    }
