use Rattle.ring_model.proofs.seats.TakeEnds.{takes_lower, takes_are_near}
use Rattle.ring_model.proofs.laws.ends.takes_come_to_an_answer.Goals as goal

pub returns : goal.returns
returns c = record { steps = takes_lower; near = takes_are_near }
