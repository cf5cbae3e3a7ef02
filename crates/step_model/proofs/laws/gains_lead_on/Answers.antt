use Rattle.step_model.proofs.Gains.{gains_lead_on}
use Rattle.step_model.proofs.laws.gains_lead_on.Goals as goal

pub returns : goal.returns
returns c = gains_lead_on
