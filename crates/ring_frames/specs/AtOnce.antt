-- What a record that is written at once makes of a writer's frames: the private steps by which its frame is pushed,
-- reserves and ends.
use Rattle.std.specs.Prelude.{◌≡◌, ℕ, List, [], ◌∷◌, length}
use Rattle.trace_model.specs.Words.{padded}
use Rattle.trace_model.specs.History.{reserved_records}
use Rattle.trace_model.specs.Frames as model_frames
use Rattle.trace_model.specs.Frames.{for_record, Progress, waiting, idle, Frame}
use Rattle.trace_model.specs.Ring.{Core}
use Rattle.trace_model.specs.Steps as model
use Rattle.ring_model.specs.Reached.{IsReached}
use Rattle.ring_model.specs.Seats.{IsPrivate}
use Rattle.nested_writer.specs.Stack.{next_number}
use Rattle.nested_writer.specs.AtOnce.{with_written, with_left}
use Rattle.ring_frames.specs.declared.phase.Phase.TheVariants.{Wishing}
use Rattle.ring_frames.specs.Phases.{closing_phase}
use Rattle.ring_frames.specs.Value.{FramesValue}
use Rattle.ring_frames.specs.AreFrames.{AreFrames}

-- the frame that was pushed for a record of this moment and length has left, and is at the bottom
abbrev pub with_left_frame : FramesValue → (moment len : ℕ) → FramesValue
with_left_frame v moment len = record v { stack = with_left v.stack moment len; phase = closing_phase v.stack }

-- the frame for a record of this moment and payload, which has got so far
abbrev pub frame_at : (moment : ℕ) → (payload : List ℕ) → Progress → Frame
frame_at moment payload state = record { kind = for_record moment (length payload); state = state; phase = idle }

-- In this state three private steps of the model follow one another: a frame is pushed for a record of this moment and
-- payload; its record, the next one, is reserved under this number; and it ends, with the payload and the zeros up to
-- the end of its slot. It is alone meanwhile. The frames after them are those of the last state.
pub record IsWriteAtOnce (n size start : ℕ) (c : Core) (moment : ℕ) (payload : List ℕ) (number : ℕ) (new : FramesValue)
    : Type 0 where
  pub pushed : Core
  pub reserved : Core
  pub after : Core
  pub push : model.Step n size c (model.pushes moment (length payload)) model.pushed pushed
  pub push_private : IsPrivate c (model.pushes moment (length payload))
  pub waits : pushed.frames ≡ frame_at moment payload waiting ∷ []
  pub next : number ≡ length (reserved_records c.history)
  pub reserve : model.Step n size pushed model.steps (model.reserved_as number) reserved
  pub reserve_private : IsPrivate pushed model.steps
  pub has_slot : reserved.frames ≡ frame_at moment payload (model_frames.reserved number) ∷ []
  pub end : model.Step n size reserved (model.ends (padded payload)) model.full after
  pub end_private : IsPrivate reserved (model.ends (padded payload))
  pub are : AreFrames n size start new after

-- so in each state whose frames these are, and which steps from a new ring reach
abbrev pub WritesAtOnce : FramesValue → ℕ → List ℕ → FramesValue → Type 0
WritesAtOnce old moment payload new = (n size start : ℕ) (c : Core)
    → IsReached n size start c
    → AreFrames n size start old c
    → IsWriteAtOnce n size start c moment payload (next_number old.stack) new

-- There was no frame, and there is none: the record is in the tail, and all other fills are closed.
pub record IsWrittenAlone (old : FramesValue) (moment : ℕ) (payload : List ℕ) (new : FramesValue) : Type 0 where
  pub none : old.stack.frames ≡ []
  pub stack : new.stack ≡ with_written old.stack moment payload
  pub phase : new.phase ≡ old.phase
  pub below : new.below ≡ []
  pub closed : closing_phase new.stack ≡ Wishing
