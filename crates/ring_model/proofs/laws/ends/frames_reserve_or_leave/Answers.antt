use Rattle.ring_model.proofs.frames.FrameOutcomes.{frames_reserve, frames_leave}
use Rattle.ring_model.proofs.laws.ends.frames_reserve_or_leave.Goals as goal

pub returns : goal.returns
returns c = record { reserve = frames_reserve; leave = frames_leave }
