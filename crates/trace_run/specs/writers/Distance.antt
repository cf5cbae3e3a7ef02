-- How far the frame on top is from being popped, the end of its record included.
use Rattle.std.specs.Prelude.{ℕ, ◌+◌, ◌*◌, List, [], ◌∷◌}
use Rattle.trace_model.specs.Frames.{Purpose, for_record, for_close, Progress, waiting, reserved, left, Frame}
use Rattle.ring_model.specs.Ranks.{frame_limit}
use Rattle.ring_shared.specs.Value.{WriterValue}
use Rattle.ring_shared.specs.Nearer.{rank_of}

-- A record frame that waits has its record to reserve, and then to end; a close frame has no record.
abbrev pub stage_of : Purpose → Progress → ℕ
stage_of (for_record moment len) waiting = 2
stage_of for_close waiting = 0
stage_of kind (reserved number) = 1
stage_of kind left = 0

abbrev pub stage_on_top : List Frame → ℕ
stage_on_top [] = 0
stage_on_top (frame ∷ below) = stage_of frame.kind frame.state

-- each call for the frame on top lowers this number, as long as the frame is on the stack
abbrev pub distance : WriterValue → ℕ
distance v = (frame_limit v.shape.pages + 1) * stage_on_top v.part.frames + rank_of v
