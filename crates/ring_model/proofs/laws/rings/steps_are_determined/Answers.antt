use Rattle.ring_model.proofs.steps.StepsDetermined.{steps_are_determined, runs_are_determined}
use Rattle.ring_model.proofs.laws.rings.steps_are_determined.Goals as goal

pub returns : goal.returns
returns c = record { steps = steps_are_determined; runs = runs_are_determined }
