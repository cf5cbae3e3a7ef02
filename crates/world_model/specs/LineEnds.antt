-- How long a line's exchanges with a ring are.
use Rattle.std.specs.Prelude.{◌≡◌, ℕ, ◌≤◌, List, length}
use Rattle.trace_model.specs.Steps.{Exchange}
use Rattle.ring_model.specs.Reached.{IsReached}
use Rattle.ring_model.specs.Ranks.{frame_limit, reader_limit}
use Rattle.world_model.specs.Lanes.{Lane, FrameRun, ReaderRun, HasTakeAnswer}

-- a frame that is still on the stack has made at most this many steps
abbrev pub FrameRunsAreShort : Type 0
FrameRunsAreShort = (n size start depth : ℕ) (before after : Lane) (exchanges : List Exchange)
    → 1 ≤ depth
    → IsReached n size start before.core
    → FrameRun n size depth before exchanges after
    → length after.core.frames ≡ depth
    → length exchanges ≤ frame_limit n

-- a take that still goes on has made no more steps than these
abbrev pub ReaderRunsAreShort : Type 0
ReaderRunsAreShort = (n size start : ℕ) (before after : Lane) (exchanges : List Exchange)
    → IsReached n size start before.core
    → ReaderRun n size before exchanges after
    → (HasTakeAnswer exchanges → ⊥)
    → length exchanges ≤ reader_limit n
