use Rattle.step_model.proofs.ChangesLead.{changes_lead_on, keys_are_all}
use Rattle.step_model.proofs.laws.changes_lead_on.Goals as goal

pub returns : goal.returns
returns c = record { steps = changes_lead_on; new = keys_are_all }
