use Rattle.std.specs.Prelude.{◌≡◌, []}
use Rattle.ring_steps.specs.Views.{reads, reading}
use Rattle.ring_steps.specs.Seats.{without_slot}
use Rattle.ring_steps.proofs.ends.ReaderSeat.give_back_slot.Given as goal

abbrev pub ghosts-load : goal.ghosts-load
ghosts-load a = record { reports = λ before _ after. after ≡ (reads (without_slot (reading before.0)), []) }
