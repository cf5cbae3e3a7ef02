use Rattle.ring_model.proofs.frames.StackSteps.{few_stand, only_bottom_left, closed_at_rest}
use Rattle.ring_model.proofs.laws.rings.stacks_come_to_rest.Goals as goal

pub returns : goal.returns
returns c = record { few = few_stand; bottom = only_bottom_left; at_rest = closed_at_rest }
