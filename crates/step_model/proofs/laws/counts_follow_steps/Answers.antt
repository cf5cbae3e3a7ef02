use Rattle.step_model.proofs.CountsFollowing.{counts_follow_steps}
use Rattle.step_model.proofs.laws.counts_follow_steps.Goals as goal

pub returns : goal.returns
returns c = counts_follow_steps
