use Rattle.ring_model.proofs.links.Relinking.{raised_step, once_run}
use Rattle.ring_model.proofs.laws.links.links_stand_once.Goals as goal

pub returns : goal.returns
returns c = record { steps = raised_step; once = once_run }
