use Rattle.ring_frames.proofs.NewFrames.{new_frames}
use Rattle.ring_frames.proofs.frames.Frames.new_at.Goals as goal

pub returns : goal.returns
returns c =
    new_frames c.args.pages c.args.size c.args.start _ c.in_ok-stack.ensures.blank c.in_ok-stack.ensures.stack
    c.in_ok-below.ensures.items
