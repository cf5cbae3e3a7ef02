use Rattle.ring_model.proofs.histories.StepsAppend.{steps_append, appended_is_one}
use Rattle.ring_model.proofs.laws.histories.steps_append.Goals as goal

pub returns : goal.returns
returns c = record { append = steps_append; one = appended_is_one }
