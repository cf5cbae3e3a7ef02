use Rattle.ring_model.proofs.steps.StepsGiven.{each_event_is_a_step}
use Rattle.ring_model.proofs.laws.rings.each_event_is_a_step.Goals as goal

pub returns : goal.returns
returns c = record { steps = each_event_is_a_step }
