use Rattle.line_model.proofs.NeedsDue.{refused_frames_need_pages}
use Rattle.line_model.proofs.SingleFrames.{single_frames_are_served}
use Rattle.line_model.proofs.laws.single_frames.single_frames_are_served.Goals as goal

pub returns : goal.returns
returns c = record { needs = refused_frames_need_pages; served = single_frames_are_served }
