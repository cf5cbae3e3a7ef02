use Rattle.ring_model.proofs.seats.FewSteps.{few_steps}
use Rattle.ring_model.proofs.laws.ends.frames_make_few_steps.Goals as goal

pub returns : goal.returns
returns c = record { few = few_steps }
