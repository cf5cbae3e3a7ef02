use Rattle.ring_shared.proofs.FewSteps.{frames_make_few_steps}
use Rattle.ring_shared.proofs.laws.frames_make_few_steps.Goals as goal

pub returns : goal.returns
returns c = frames_make_few_steps
