-- What becomes of the frame on top by one of its steps, and of those below it.
use Rattle.std.specs.Prelude.{◌≡◌, ℕ, ◌⊎◌, List, ◌∷◌}
use Rattle.trace_model.specs.Frames.{Purpose, for_record, for_close, Progress, waiting, reserved, left, WriteFault}
use Rattle.trace_model.specs.Frames.{Frame}
use Rattle.trace_model.specs.Ring.{Core}
use Rattle.trace_model.specs.Steps.{steps, going, gone, reserved_as, refused, Answer, Step}
use Rattle.ring_model.specs.RingKept.{IsRingKept}

-- a frame that has a record to reserve
abbrev pub IsReserving : Purpose → Progress → Type 0
IsReserving (for_record moment len) waiting = Unit {0}
IsReserving for_close waiting = ⊥
IsReserving kind (reserved number) = ⊥
IsReserving kind left = ⊥

-- a frame that closes the tail, or one that has left
abbrev pub IsLeaving : Purpose → Progress → Type 0
IsLeaving (for_record moment len) waiting = ⊥
IsLeaving for_close waiting = Unit {0}
IsLeaving kind (reserved number) = ⊥
IsLeaving kind left = Unit {0}

-- it stays, above the same frames, perhaps refused; or it is gone, and the answer says so, or the refusal
pub data Leaving (below : List Frame) (answer : Answer) (after : List Frame) : Type 0 where
  leaves_on : (next : Frame)
      → (answer ≡ going) ⊎ ((why : WriteFault) × (answer ≡ refused why))
      → after ≡ next ∷ below
      → IsLeaving next.kind next.state
      → Leaving below answer after
  is_gone : (answer ≡ gone) ⊎ ((why : WriteFault) × (answer ≡ refused why)) → after ≡ below → Leaving below answer after

-- It goes on for the same record, above the same frames; or the record is reserved; or it is refused, and leaves.
pub data Reserving (frame : Frame) (below : List Frame) (answer : Answer) (after : List Frame) : Type 0 where
  reserves_on : (next : Frame)
      → answer ≡ going
      → after ≡ next ∷ below
      → next.kind ≡ frame.kind
      → next.state ≡ frame.state
      → Reserving frame below answer after
  has_reserved : (next : Frame) (number : ℕ)
      → answer ≡ reserved_as number
      → after ≡ next ∷ below
      → next.kind ≡ frame.kind
      → next.state ≡ reserved number
      → Reserving frame below answer after
  is_refused : (why : WriteFault)
      → answer ≡ refused why
      → Leaving below answer after
      → Reserving frame below answer after

abbrev pub FramesReserve : Type 0
FramesReserve = (n size start : ℕ) (c : Core) (frame : Frame) (below : List Frame) (answer : Answer) (after : Core)
    → IsRingKept n size start c
    → c.frames ≡ frame ∷ below
    → IsReserving frame.kind frame.state
    → Step n size c steps answer after
    → Reserving frame below answer after.frames

abbrev pub FramesLeave : Type 0
FramesLeave = (n size start : ℕ) (c : Core) (frame : Frame) (below : List Frame) (answer : Answer) (after : Core)
    → IsRingKept n size start c
    → c.frames ≡ frame ∷ below
    → IsLeaving frame.kind frame.state
    → Step n size c steps answer after
    → Leaving below answer after.frames
