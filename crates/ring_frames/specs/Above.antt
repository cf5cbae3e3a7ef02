-- What a record that is written at once above other frames makes of a writer's frames: the private steps by which its
-- frame is pushed, reserves and ends.
use Rattle.std.specs.Prelude.{◌≡◌, ℕ, List, ◌∷◌, length}
use Rattle.trace_model.specs.Words.{padded}
use Rattle.trace_model.specs.History.{reserved_records}
use Rattle.trace_model.specs.Frames as model_frames
use Rattle.trace_model.specs.Frames.{waiting}
use Rattle.trace_model.specs.Ring.{Core}
use Rattle.trace_model.specs.Steps as model
use Rattle.ring_model.specs.Reached.{IsReached}
use Rattle.ring_model.specs.Seats.{IsPrivate}
use Rattle.nested_writer.specs.Stack.{next_number}
use Rattle.nested_writer.specs.AtOnce.{with_written}
use Rattle.ring_frames.specs.Value.{FramesValue}
use Rattle.ring_frames.specs.AreFrames.{AreFrames}
use Rattle.ring_frames.specs.AtOnce.{frame_at}

-- the frames are those of before, each in its phase, and the record is in the tail
abbrev pub with_record_above : FramesValue → (moment : ℕ) → List ℕ → FramesValue
with_record_above v moment payload = record v { stack = with_written v.stack moment payload }

-- In this state three private steps of the model follow one another: a frame is pushed for a record of this moment and
-- payload; its record, the next one, is reserved under this number; and it ends, with the payload and the zeros up to
-- the end of its slot, and is popped. The frames of before are below it meanwhile, and are left. The frames after the
-- steps are those of the last state.
pub record IsWriteAboveAtOnce (n size start : ℕ) (c : Core) (moment : ℕ) (payload : List ℕ) (number : ℕ)
    (new : FramesValue)
    : Type 0 where
  pub pushed : Core
  pub reserved : Core
  pub after : Core
  pub push : model.Step n size c (model.pushes moment (length payload)) model.pushed pushed
  pub push_private : IsPrivate c (model.pushes moment (length payload))
  pub waits : pushed.frames ≡ frame_at moment payload waiting ∷ c.frames
  pub next : number ≡ length (reserved_records c.history)
  pub reserve : model.Step n size pushed model.steps (model.reserved_as number) reserved
  pub reserve_private : IsPrivate pushed model.steps
  pub has_slot : reserved.frames ≡ frame_at moment payload (model_frames.reserved number) ∷ c.frames
  pub end : model.Step n size reserved (model.ends (padded payload)) model.pending after
  pub end_private : IsPrivate reserved (model.ends (padded payload))
  pub are_left : after.frames ≡ c.frames
  pub are : AreFrames n size start new after

-- so in each state whose frames these are, and which steps from a new ring reach
abbrev pub WritesAboveAtOnce : FramesValue → ℕ → List ℕ → FramesValue → Type 0
WritesAboveAtOnce old moment payload new = (n size start : ℕ) (c : Core)
    → IsReached n size start c
    → AreFrames n size start old c
    → IsWriteAboveAtOnce n size start c moment payload (next_number old.stack) new
