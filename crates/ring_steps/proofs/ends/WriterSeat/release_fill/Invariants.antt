use Rattle.std.specs.Prelude.{⊤}
use Rattle.trace_model.specs.Steps.{going}
use Rattle.ring_steps.specs.Views.{passed}
use Rattle.ring_steps.specs.Seats.{WriterReported}
use Rattle.ring_steps.proofs.ends.WriterSeat.release_fill.Given as goal

abbrev pub ghosts-store : goal.ghosts-store
ghosts-store a =
    record { reports = λ before _ after. WriterReported a.shape a.given.now.now (passed before.0) (λ _. ⊤) going after }
