-- What a record that is written at once makes of a ring as a value: the four steps of its frame.
use Rattle.std.specs.Prelude.{◌≡◌, ℕ, ◌≤◌, List, [], ◌∷◌, length}
use Rattle.trace_model.specs.Words.{padded}
use Rattle.trace_model.specs.Frames.{Frame, waiting, left}
use Rattle.trace_model.specs.Frames as model_frames
use Rattle.trace_model.specs.History.{reserved_records}
use Rattle.trace_model.specs.Ring.{Core}
use Rattle.trace_model.specs.Steps as model
use Rattle.nested_writer.specs.AtOnce.{FitsAtOnce}
use Rattle.ring_frames.specs.AtOnce.{frame_at}
use Rattle.ring_core.specs.Value.{CoreValue}
use Rattle.ring_core.specs.IsCore.{IsCore}

-- No frame is on the stack, a record of this moment, for a payload of len bytes, may be written and has room in the
-- tail, and the reader's wish is for no fill that isn't closed.
abbrev pub MayWriteAlone : CoreValue → (moment len : ℕ) → Type 0
MayWriteAlone v moment len = FitsAtOnce v.stack moment len × (v.wish ≤ v.stack.done)

-- From this state, which has no frame, four steps of the model follow one another: a frame is pushed for a record of
-- this moment and payload; its record is reserved, under the number of records reserved before it; it ends, with the
-- payload and the zeros up to the end of its slot; and it finds no wish, and is gone. The value after them is the ring
-- in the last state.
pub record IsWriteAlone (n size start : ℕ) (c : Core) (moment : ℕ) (payload : List ℕ) (new : CoreValue) : Type 0 where
  pub none : c.frames ≡ []
  pub pushed : Core
  pub push : model.Step n size c (model.pushes moment (length payload)) model.pushed pushed
  pub waits : pushed.frames ≡ frame_at moment payload waiting ∷ []
  pub number : ℕ
  pub next : number ≡ length (reserved_records c.history)
  pub reserved : Core
  pub reserve : model.Step n size pushed model.steps (model.reserved_as number) reserved
  pub has_slot : reserved.frames ≡ frame_at moment payload (model_frames.reserved number) ∷ []
  pub ended : Core
  pub end : model.Step n size reserved (model.ends (padded payload)) model.full ended
  pub bottom : Frame
  pub stays : ended.frames ≡ bottom ∷ []
  pub has_left : bottom.state ≡ left
  pub after : Core
  pub leave : model.Step n size ended model.steps model.gone after
  pub is_gone : after.frames ≡ []
  pub is_core : IsCore n size start new after

-- so in each state that the value shows
abbrev pub WritesAlone : CoreValue → (moment : ℕ) → List ℕ → CoreValue → Type 0
WritesAlone old moment payload new = (n size start : ℕ) (c : Core)
    → IsCore n size start old c
    → IsWriteAlone n size start c moment payload new
