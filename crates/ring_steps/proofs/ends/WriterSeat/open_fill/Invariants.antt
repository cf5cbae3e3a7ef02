use Rattle.ring_steps.specs.Views.{passed}
use Rattle.ring_steps.specs.Paging.{OpenReported}
use Rattle.ring_steps.proofs.ends.WriterSeat.open_fill.Given as goal

abbrev pub ghosts-store : goal.ghosts-store
ghosts-store a = record { reports = λ before _ after. OpenReported a.shape a.given.now.now (passed before.0) after }
