use Rattle.std.proofs.Common.{false}
use Rattle.ring_steps.specs.Views.{reading}
use Rattle.ring_steps.specs.Taking.{SeatReported, IsWordInto}
use Rattle.ring_steps.proofs.ends.ReaderSeat.load_head.Given as goal

abbrev pub ghosts-load : goal.ghosts-load
ghosts-load a =
    record {
      reports =
          λ before found after.
          SeatReported a.shape (IsWordInto a.shape (reading before.0).reader.hint found) false before after;
    }
