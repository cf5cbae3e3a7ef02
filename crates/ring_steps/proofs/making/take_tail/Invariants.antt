use Rattle.ring_steps.specs.NewRings.{IsWholeSeat}
use Rattle.ring_steps.proofs.making.take_tail.Given as goal

abbrev pub ghosts-load : goal.ghosts-load
ghosts-load a = record { reports = λ _ _ after. IsWholeSeat a.shape after }
