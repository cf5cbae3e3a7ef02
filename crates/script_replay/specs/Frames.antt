-- What steps of frames, and pushes, do to a lane as a value.
use Rattle.std.specs.Prelude.{◌≡◌, ℕ, ◌≤◌, ◌⊎◌, List, [], length}
use Rattle.trace_model.specs.Ring.{Core}
use Rattle.trace_model.specs.Steps as model
use Rattle.trace_model.specs.Steps.{Step, Exchange}
use Rattle.world_model.specs.Lanes.{Lane, lane_behind, lane_with, event_on_top, FrameRun, IsStepped, WritesFrame}
use Rattle.ring_core.specs.declared.event.Event.{Event}
use Rattle.ring_core.specs.declared.event.Event.TheVariants as event
use Rattle.ring_frames.specs.declared.answer.Answer.{Answer}
use Rattle.ring_core.specs.Value.{CoreValue}
use Rattle.ring_frames.specs.Answers.{IsAnswerOf}
use Rattle.ring_core.specs.Steps.{IsStep}
use Rattle.ring_core.specs.AtOnce.{WritesAlone}
use Rattle.ring_core.specs.Above.{WritesAbove}
use Rattle.script_replay.specs.Reports.{ReportsValue}
use Rattle.script_replay.specs.Value.{LaneValue}
use Rattle.script_replay.specs.Lanes.{IsLane, MakesExchanges}

-- ---- steps

-- the ring's frame on top makes its step, in each lane that the value is
abbrev pub AsksTop : LaneValue → Answer → CoreValue → Type 0
AsksTop old answer new = (n size start cpu : ℕ) (lane : Lane)
    → IsLane n size start cpu old lane
    → IsStep n size start lane.core (event_on_top lane.core.frames lane.payloads) answer new

-- the frame on top of this lane makes its step, and the value is the lane after it
pub record IsSteppedOnce (n size start cpu : ℕ) (lane : Lane) (answer : Answer) (new : LaneValue) : Type 0 where
  pub reported : model.Answer
  pub core : Core
  pub step : Step n size lane.core (event_on_top lane.core.frames lane.payloads) reported core
  pub reports : IsAnswerOf size answer reported
  pub is_lane : IsLane n size start cpu new (lane_behind lane core)

abbrev pub StepsOnce : LaneValue → Answer → LaneValue → Type 0
StepsOnce old answer new = (n size start cpu : ℕ) (lane : Lane)
    → IsLane n size start cpu old lane
    → IsSteppedOnce n size start cpu lane answer new

-- the frame on top makes steps until `count` are made or it is gone
abbrev pub FollowsFrame : (count : ℕ) → (n size : ℕ) → Lane → List Exchange → Lane → Type 0
FollowsFrame count n size before exchanges after =
    FrameRun n size (length before.core.frames) before exchanges after
    × IsStepped count (length before.core.frames) exchanges after

-- Part of that: `steps` steps are made by the frame on top of a stack of `depth` frames.
pub record HasMadeSteps (depth steps n size : ℕ) (before : Lane) (exchanges : List Exchange) (after : Lane)
    : Type 0 where
  pub run : FrameRun n size depth before exchanges after
  pub made : length exchanges ≡ steps
  pub few : length after.core.frames ≤ depth
  pub kept : length after.core.frames ≡ depth → after.payloads ≡ before.payloads

-- ---- pushes

-- the event pushes a frame for this payload
abbrev pub IsPushOf : Event → List ℕ → Type 0
IsPushOf (event.Push moment len) payload = length payload ≡ len
IsPushOf event.PushClose payload = payload ≡ []
IsPushOf event.Step payload = ⊥
IsPushOf event.End payload = ⊥
IsPushOf (event.Read body) payload = ⊥
IsPushOf event.Wish payload = ⊥

-- the push in the model; no other event is asked for (`IsPushOf`)
abbrev pub push_event : Event → model.Event
push_event (event.Push moment len) = model.pushes moment len
push_event event.PushClose = model.pushes_close
push_event event.Step = model.steps
push_event event.End = model.steps
push_event (event.Read body) = model.steps
push_event event.Wish = model.steps

-- a frame was to be pushed on this lane, and the value is the lane after that
pub record IsPushed (n size start cpu : ℕ) (lane : Lane) (event : model.Event) (payload : List ℕ) (answer : Answer)
    (new : LaneValue)
    : Type 0 where
  pub reported : model.Answer
  pub core : Core
  pub step : Step n size lane.core event reported core
  pub reports : IsAnswerOf size answer reported
  pub is_lane : IsLane n size start cpu new (lane_with lane payload reported core)

abbrev pub Pushes : model.Event → List ℕ → LaneValue → Answer → LaneValue → Type 0
Pushes event payload old answer new = (n size start cpu : ℕ) (lane : Lane)
    → IsLane n size start cpu old lane
    → IsPushed n size start cpu lane event payload answer new

-- a frame is pushed and finished
abbrev pub HasWritten : model.Event → List ℕ → (line cpu : ℕ) → LaneValue → ReportsValue → LaneValue → ReportsValue
    → Type 0
HasWritten event payload line cpu old old_reports new reports =
    MakesExchanges (λ n size before exchanges after. WritesFrame n size event payload before exchanges after)
    line cpu old old_reports new reports

-- so it is at once, with no other frame on the stack or above others: only the ring changes
pub record HasWrittenAtOnce (moment : ℕ) (payload : List ℕ) (old new : LaneValue) : Type 0 where
  pub core : new ≡ record old { core = new.core }
  pub writes : WritesAlone old.core moment payload new.core ⊎ WritesAbove old.core moment payload new.core
