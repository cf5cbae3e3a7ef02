use Rattle.std.specs.Prelude.{⊤, true}
use Rattle.ring_steps.specs.Taking.{SeatReported}
use Rattle.ring_steps.proofs.ends.ReaderSeat.store_spare_link.Given as goal

abbrev pub ghosts-store : goal.ghosts-store
ghosts-store a = record { reports = λ before _ after. SeatReported a.shape (λ _. ⊤) true before after }
