use Rattle.std.specs.Prelude.{⊤}
use Rattle.trace_model.specs.Steps.{wishes, wished_for}
use Rattle.ring_steps.specs.Views.{reading}
use Rattle.ring_steps.specs.Seats.{ReaderReported}
use Rattle.ring_steps.proofs.ends.ReaderSeat.store_wish.Given as goal

abbrev pub ghosts-store : goal.ghosts-store
ghosts-store a =
    record {
      reports =
          λ before _ after.
          ReaderReported a.shape (λ _. ⊤) wishes (wished_for (reading before.0).reader.seen) before after;
    }
