-- What a line of a script does to the ring of its CPU: the exchanges that it has with it.
-- docs/formats/program.md, "Script".
use Rattle.std.specs.Prelude.{◌≡◌, ◌≢◌, ℕ, ◌-◌, ◌<◌, ◌≤◌, ◌⊎◌, ⊤, List, [], ◌∷◌, length, drop}
use Rattle.trace_model.specs.Words.{padded}
use Rattle.trace_model.specs.Frames.{Purpose, for_record, for_close, Progress, reserved, Frame, no_frame}
use Rattle.trace_model.specs.Ring.{IsStart, Core}
use Rattle.trace_model.specs.Steps.{Event, pushes, pushes_close, steps, ends, reads, wishes, Answer, pushed, refused}
use Rattle.trace_model.specs.Steps.{reading, Step, Exchange}
use Rattle.text_model.specs.Script.{Command, begin_frame, step_frame, finish_frame, write, close, step_reader}
use Rattle.text_model.specs.Script.{take_page, wish, deliver}

-- ---- a ring and what its frames are to write

-- The ring of a CPU, and the payload of each frame on the stack, the top one's first. A close frame has an empty one.
pub record Lane : Type 0 where
  pub core : Core
  pub payloads : List (List ℕ)

-- a new ring has no frame on its stack
abbrev pub IsNewLane : ℕ → ℕ → Lane → Type 0
IsNewLane n start lane = IsStart n start lane.core × (lane.payloads ≡ [])

-- the payloads of the frames that are still on the stack, from which the top ones may be gone
abbrev pub payloads_left : List Frame → List (List ℕ) → List (List ℕ)
payloads_left frames payloads = drop (length payloads - length frames) payloads

-- the ring after a step of a frame
abbrev pub lane_behind : Lane → Core → Lane
lane_behind lane core = record { core = core; payloads = payloads_left core.frames lane.payloads }

-- the payloads of the frames on the stack, if one more was to be pushed
abbrev pub payloads_with : List ℕ → Answer → List (List ℕ) → List (List ℕ)
payloads_with payload pushed payloads = payload ∷ payloads
payloads_with payload _ payloads = payloads

-- the ring after a frame was to be pushed, with this payload
abbrev pub lane_with : Lane → List ℕ → Answer → Core → Lane
lane_with lane payload answer core = record { core = core; payloads = payloads_with payload answer lane.payloads }

-- a frame's payload has the length that it was pushed for; a close frame's is empty
abbrev pub FitsKind : Purpose → List ℕ → Type 0
FitsKind (for_record moment len) payload = length payload ≡ len
FitsKind for_close payload = payload ≡ []

-- the payloads are those of the frames, one for one
abbrev pub FitFrames : List Frame → List (List ℕ) → Type 0
FitFrames [] [] = ⊤
FitFrames [] (payload ∷ payloads) = ⊥
FitFrames (frame ∷ below) [] = ⊥
FitFrames (frame ∷ below) (payload ∷ payloads) = FitsKind frame.kind payload × FitFrames below payloads

abbrev pub HasPayloads : Lane → Type 0
HasPayloads lane = FitFrames lane.core.frames lane.payloads

-- ---- the exchanges of the frame on top

-- A step of a script's frame: it ends with its payload where its record is reserved, zeros filling the slot, and makes
-- a step of the ring where not.
abbrev pub event_in : Progress → List (List ℕ) → Event
event_in (reserved number) [] = ends (padded [])
event_in (reserved number) (payload ∷ payloads) = ends (padded payload)
event_in _ payloads = steps

abbrev pub event_on_top : List Frame → List (List ℕ) → Event
event_on_top [] payloads = steps
event_on_top (frame ∷ below) payloads = event_in frame.state payloads

-- The frame that is on top of a stack of this depth makes steps, one after the other, and none once it is gone.
abbrev pub FrameRun : (n size depth : ℕ) → Lane → List Exchange → Lane → Type 0
FrameRun n size depth before [] after = before ≡ after
FrameRun n size depth before (x ∷ exchanges) after =
    (length before.core.frames ≡ depth)
    × (x.event ≡ event_on_top before.core.frames before.payloads)
    × (core : Core)
    × Step n size before.core x.event x.answer core
    × FrameRun n size depth (lane_behind before core) exchanges after

-- it is gone
abbrev pub IsGone : (depth : ℕ) → Lane → Type 0
IsGone depth lane = length lane.core.frames < depth

-- this many steps were made, or the frame was gone before
abbrev pub IsStepped : (count depth : ℕ) → List Exchange → Lane → Type 0
IsStepped count depth exchanges after =
    (length exchanges ≤ count) × ((length exchanges ≡ count) ⊎ IsGone depth after)

-- the stack is empty, which is answered
pub record LacksFrame (n size : ℕ) (before : Lane) (exchanges : List Exchange) (after : Lane) : Type 0 where
  pub none : before.core.frames ≡ []
  pub exchanges_are : exchanges ≡ record { event = steps; answer = refused no_frame } ∷ []
  pub stays : after ≡ before

-- the frame on top makes exactly this many steps, or fewer if it is gone after them
pub data StepsFrame (n size count : ℕ) (before : Lane) (exchanges : List Exchange) (after : Lane) : Type 0 where
  lacks_to_step : LacksFrame n size before exchanges after → StepsFrame n size count before exchanges after
  steps_on : before.core.frames ≢ []
      → FrameRun n size (length before.core.frames) before exchanges after
      → IsStepped count (length before.core.frames) exchanges after
      → StepsFrame n size count before exchanges after

-- the frame on top makes steps until it is gone
pub data FinishesFrame (n size : ℕ) (before : Lane) (exchanges : List Exchange) (after : Lane) : Type 0 where
  lacks_to_finish : LacksFrame n size before exchanges after → FinishesFrame n size before exchanges after
  finishes : before.core.frames ≢ []
      → FrameRun n size (length before.core.frames) before exchanges after
      → IsGone (length before.core.frames) after
      → FinishesFrame n size before exchanges after

-- ---- a frame is pushed

-- the event of a push, with what its frame is to write: one exchange
pub record PushesFrame (n size : ℕ) (event : Event) (payload : List ℕ) (before : Lane) (x : Exchange) (after : Lane)
    : Type 0 where
  pub event_is : x.event ≡ event
  pub core : Core
  pub step : Step n size before.core event x.answer core
  pub after_is : after ≡ lane_with before payload x.answer core

-- after a push with this answer: the frame that was pushed is finished; if none was, nothing is done
abbrev pub FinishesPushed : (n size : ℕ) → Answer → Lane → List Exchange → Lane → Type 0
FinishesPushed n size pushed before exchanges after = FinishesFrame n size before exchanges after
FinishesPushed n size (refused why) before exchanges after = (exchanges ≡ []) × (after ≡ before)
FinishesPushed n size _ before exchanges after = ⊥

-- a frame is pushed and finished
pub record WritesFrame (n size : ℕ) (event : Event) (payload : List ℕ) (before : Lane) (exchanges : List Exchange)
    (after : Lane)
    : Type 0 where
  pub push : Exchange
  pub rest : List Exchange
  pub exchanges_are : exchanges ≡ push ∷ rest
  pub between : Lane
  pub pushes : PushesFrame n size event payload before push between
  pub finishes : FinishesPushed n size push.answer between rest after

-- ---- the reader

-- The reader makes steps, one after the other, while its take goes on.
abbrev pub ReaderRun : (n size : ℕ) → Lane → List Exchange → Lane → Type 0
ReaderRun n size before [] after = before ≡ after
ReaderRun n size before (x ∷ exchanges) after =
    (x.event ≡ reads)
    × (exchanges ≢ [] → x.answer ≡ reading)
    × (core : Core)
    × Step n size before.core reads x.answer core
    × ReaderRun n size (lane_behind before core) exchanges after

-- the last of these answers the take
abbrev pub HasTakeAnswer : List Exchange → Type 0
HasTakeAnswer [] = ⊥
HasTakeAnswer (x ∷ []) = x.answer ≢ reading
HasTakeAnswer (x ∷ next ∷ exchanges) = HasTakeAnswer (next ∷ exchanges)

-- this many steps were made, or the take was answered before
abbrev pub IsRead : (count : ℕ) → List Exchange → Type 0
IsRead count exchanges = (length exchanges ≤ count) × ((length exchanges ≡ count) ⊎ HasTakeAnswer exchanges)

-- the reader's wish: one exchange
pub record Wishes (n size : ℕ) (before : Lane) (exchanges : List Exchange) (after : Lane) : Type 0 where
  pub answer : Answer
  pub exchanges_are : exchanges ≡ record { event = wishes; answer = answer } ∷ []
  pub core : Core
  pub step : Step n size before.core wishes answer core
  pub after_is : after ≡ lane_behind before core

-- ---- the whole

-- What a line has with the ring of its CPU. A delivery has nothing with it.
abbrev pub LineRun : (n size : ℕ) → Command → Lane → List Exchange → Lane → Type 0
LineRun n size (begin_frame cpu moment payload) before exchanges after =
    (x : Exchange) × (exchanges ≡ x ∷ [])
    × PushesFrame n size (pushes moment (length payload)) payload before x after
LineRun n size (step_frame cpu count) before exchanges after = StepsFrame n size count before exchanges after
LineRun n size (finish_frame cpu) before exchanges after = FinishesFrame n size before exchanges after
LineRun n size (write cpu moment payload) before exchanges after =
    WritesFrame n size (pushes moment (length payload)) payload before exchanges after
LineRun n size (close cpu) before exchanges after = WritesFrame n size pushes_close [] before exchanges after
LineRun n size (step_reader cpu count) before exchanges after =
    ReaderRun n size before exchanges after × IsRead count exchanges
LineRun n size (take_page cpu) before exchanges after =
    ReaderRun n size before exchanges after × HasTakeAnswer exchanges
LineRun n size (wish cpu) before exchanges after = Wishes n size before exchanges after
LineRun n size (deliver collector cpu fill) before exchanges after = (exchanges ≡ []) × (after ≡ before)
