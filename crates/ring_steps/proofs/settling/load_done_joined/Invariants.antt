use Rattle.std.specs.Prelude.{◌≡◌}
use Rattle.ring_steps.specs.Views.{writing, reading}
use Rattle.ring_steps.specs.Seats.{AreParts}
use Rattle.ring_steps.proofs.settling.load_done_joined.Given as goal

abbrev pub ghosts-load : goal.ghosts-load
ghosts-load a =
    record { reports = λ before _ after. (after.0 ≡ before.0) × AreParts a.shape (writing before.0) (reading before.0) }
