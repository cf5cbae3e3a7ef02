use Rattle.ring_model.proofs.seats.FrameEnds.{steps_lower, ends_lower, frames_are_near}
use Rattle.ring_model.proofs.laws.ends.frames_come_to_an_end.Goals as goal

pub returns : goal.returns
returns c = record { steps = steps_lower; ends = ends_lower; near = frames_are_near }
