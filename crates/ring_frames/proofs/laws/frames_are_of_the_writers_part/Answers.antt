use Rattle.ring_frames.proofs.Same.{same_frames}
use Rattle.ring_frames.proofs.laws.frames_are_of_the_writers_part.Goals as goal

pub returns : goal.returns
returns c = same_frames
