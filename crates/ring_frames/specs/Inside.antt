-- What holds of the fields of a writer's frames.
use Rattle.std.specs.Prelude.{◌≡◌}
use Rattle.std.specs.VecDeque.{deque_capacity}
use Rattle.trace_model.specs.declared.limits.TheConstants.{MAX_FRAMES}
use Rattle.ring_frames.specs.declared.frames.Frames.TheInside.{Inside}
use Rattle.ring_frames.specs.Value.{FramesValue}

abbrev pub frames_in : Inside → FramesValue
frames_in w = record { stack = w.stack; phase = w.phase; below = w.below.items }

-- There is room for the phases of all frames, and no other room is taken.
pub record IsInside (w : Inside) : Type 0 where
  pub frames_room : MAX_FRAMES ≡ deque_capacity w.below
