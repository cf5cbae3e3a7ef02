-- What a record that is written at once above other frames makes of a ring as a value: the three steps of its frame.
use Rattle.std.specs.Prelude.{◌≡◌, ◌≢◌, ℕ, List, [], ◌∷◌, length}
use Rattle.trace_model.specs.Words.{padded}
use Rattle.trace_model.specs.Frames.{waiting}
use Rattle.trace_model.specs.Frames as model_frames
use Rattle.trace_model.specs.History.{reserved_records}
use Rattle.trace_model.specs.Ring.{Core}
use Rattle.trace_model.specs.Steps as model
use Rattle.ring_frames.specs.AtOnce.{frame_at}
use Rattle.ring_core.specs.Value.{CoreValue}
use Rattle.ring_core.specs.IsCore.{IsCore}

-- From this state, which has a frame, three steps of the model follow one another: a frame is pushed for a record of
-- this moment and payload; its record is reserved, under the number of records reserved before it; and it ends, with
-- the payload and the zeros up to the end of its slot, and is popped. The frames of before are below it meanwhile, and
-- are left. The value after them is the ring in the last state.
pub record IsWriteAbove (n size start : ℕ) (c : Core) (moment : ℕ) (payload : List ℕ) (new : CoreValue) : Type 0 where
  pub some : c.frames ≢ []
  pub pushed : Core
  pub push : model.Step n size c (model.pushes moment (length payload)) model.pushed pushed
  pub waits : pushed.frames ≡ frame_at moment payload waiting ∷ c.frames
  pub number : ℕ
  pub next : number ≡ length (reserved_records c.history)
  pub reserved : Core
  pub reserve : model.Step n size pushed model.steps (model.reserved_as number) reserved
  pub has_slot : reserved.frames ≡ frame_at moment payload (model_frames.reserved number) ∷ c.frames
  pub after : Core
  pub end : model.Step n size reserved (model.ends (padded payload)) model.pending after
  pub are_left : after.frames ≡ c.frames
  pub is_core : IsCore n size start new after

-- so in each state that the value shows
abbrev pub WritesAbove : CoreValue → (moment : ℕ) → List ℕ → CoreValue → Type 0
WritesAbove old moment payload new = (n size start : ℕ) (c : Core)
    → IsCore n size start old c
    → IsWriteAbove n size start c moment payload new
