use Rattle.step_text.proofs.OneStepsOutput.{one_steps_output}
use Rattle.step_text.proofs.laws.one_output.Goals as goal

pub returns : goal.returns
returns c = one_steps_output
