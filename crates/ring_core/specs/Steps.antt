-- What an event makes of a ring as a value: the step of the model.
use Rattle.std.specs.Prelude.{◌≡◌, ◌≢◌, ℕ, List, length, Some}
use Rattle.trace_model.specs.Frames.{noted_fill}
use Rattle.trace_model.specs.Ring.{IsStart, Core}
use Rattle.trace_model.specs.Steps as model
use Rattle.ring_model.specs.Seats.{PhaseIsPrivate}
use Rattle.nested_writer.specs.Stack.{opened}
use Rattle.ring_frames.specs.Value.{phase_of}
use Rattle.ring_frames.specs.Answers.{IsAnswerOf, ZerosSlot}
use Rattle.ring_core.specs.declared.event.Event.{Event}
use Rattle.ring_core.specs.declared.event.Event.TheVariants.{Push, PushClose, Step, End, Read, Wish}
use Rattle.ring_frames.specs.declared.answer.Answer.{Answer}
use Rattle.ring_core.specs.Value.{CoreValue}
use Rattle.ring_core.specs.IsCore.{IsCore}
use Rattle.ring_core.specs.Answers.{event_of, StepsPayloads, StepsLens, GivesBack}

-- In this state the event has an answer and a state after it, by a step of the model. The value's answer means the
-- model's answer, and the value after it shows the model's state.
pub record IsStep (n size start : ℕ) (c : Core) (event : model.Event) (result : Answer) (new : CoreValue) : Type 0 where
  pub answer : model.Answer
  pub after : Core
  pub step : model.Step n size c event answer after
  pub reports : IsAnswerOf size result answer
  pub is_core : IsCore n size start new after

-- so in each state that the value shows
abbrev pub MakesStep : CoreValue → model.Event → Answer → CoreValue → Type 0
MakesStep old event result new = (n size start : ℕ) (c : Core)
    → IsCore n size start old c
    → IsStep n size start c event result new

-- the value is the ring in some state
abbrev pub IsSomeCore : CoreValue → Type 0
IsSomeCore v = (n size start : ℕ) × (c : Core) × IsCore n size start v c

-- so it is; opaque, so that a search doesn't look for the state: who needs it writes `unfolding`
unfoldable pub IsReachedCore : CoreValue → Type 0
IsReachedCore v = IsSomeCore v

-- the value is a new ring of n positions and pages of this size whose first fill has the number start
abbrev pub IsNewRing : (n size start : ℕ) → CoreValue → Type 0
IsNewRing n size start v = (c : Core) × IsStart n start c × IsCore n size start v c

-- another frame has begun a fill since the one on top noted what to open, and that one has no UPDATE to clear
abbrev pub IsLate : CoreValue → Type 0
IsLate v = (noted : ℕ)
    × (noted_fill (phase_of v.phase) ≡ Some noted)
    × (noted ≢ opened v.stack)
    × PhaseIsPrivate (phase_of v.phase) (opened v.stack)

-- the body that comes with a step of the reader has the ring's data size
abbrev pub HasItsSize : CoreValue → Event → Type 0
HasItsSize v (Push moment len) = Unit {0}
HasItsSize v PushClose = Unit {0}
HasItsSize v Step = Unit {0}
HasItsSize v End = Unit {0}
HasItsSize v (Read body) = length body ≡ v.stack.size
HasItsSize v Wish = Unit {0}

-- and is given back
abbrev pub GivesBodyBack : Event → Answer → Type 0
GivesBodyBack (Push moment len) answer = Unit {0}
GivesBodyBack PushClose answer = Unit {0}
GivesBodyBack Step answer = Unit {0}
GivesBodyBack End answer = Unit {0}
GivesBodyBack (Read body) answer = GivesBack body answer
GivesBodyBack Wish answer = Unit {0}

-- The event is one step of the model, whose answer is the value's. The body of a `Read` is given back but for a page;
-- payloads stay in their slots; the slot that this answer reserves holds only zeros; and it is known how long the
-- payloads are that the frames were pushed for.
pub record MakesEvent (event : Event) (old : CoreValue) (result : Answer) (new : CoreValue) : Type 0 where
  pub step : MakesStep old (event_of old event) result new
  pub given_back : GivesBodyBack event result
  pub payloads : StepsPayloads event old.stack new.stack
  pub zeros : ZerosSlot old.stack result new.stack
  pub lens : StepsLens event result old.stack new.stack

-- so is a step of the reader, which has this body; and the stack stays
pub record MakesRead (old : CoreValue) (body : List ℕ) (result : Answer) (new : CoreValue) : Type 0 where
  pub step : MakesStep old model.reads result new
  pub given_back : GivesBack body result
  pub stack : new.stack ≡ old.stack
