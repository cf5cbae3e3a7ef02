use Rattle.step_model.proofs.WorldsTold.{texts_are_of_worlds}
use Rattle.step_model.proofs.OneStepText.{texts_are_one}
use Rattle.step_model.proofs.laws.texts_are_one.Goals as goal

pub returns : goal.returns
returns c = record { worlds = texts_are_of_worlds; one = texts_are_one }
