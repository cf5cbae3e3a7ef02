-- What an event of a ring means in the model, and what comes with its answer.
use Rattle.std.specs.Prelude.{◌≡◌, ℕ, List, ◌∷◌, Option, Some, None}
use Rattle.trace_model.specs.Steps as model
use Rattle.page_image.specs.Contents.{IsPage}
use Rattle.nested_writer.specs.Stack.{Stack}
use Rattle.nested_writer.specs.declared.fault.WriteFault.{WriteFault}
use Rattle.nested_writer.specs.declared.stack.leave.Ended.TheVariants.{Pending}
use Rattle.ring_core.specs.declared.event.Event.{Event}
use Rattle.ring_core.specs.declared.event.Event.TheVariants.{Push, PushClose, Step, End, Read, Wish}
use Rattle.ring_frames.specs.declared.answer.Answer.{Answer}
use Rattle.ring_frames.specs.declared.answer.Answer.TheVariants.{Pushed, Ended, Refused, Looking, Empty, Moving, Taken}
use Rattle.ring_frames.specs.Answers.{top_bytes, KeepsPayloads, EndsPayload}
use Rattle.ring_frames.specs.Lens.{lens, IsOneMore, KeepsLens}
use Rattle.ring_core.specs.Value.{CoreValue}

-- ---- events

-- the event of the model: the end of a frame is one with the payload that is in its slot
abbrev pub event_of : CoreValue → Event → model.Event
event_of v (Push moment len) = model.pushes moment len
event_of v PushClose = model.pushes_close
event_of v Step = model.steps
event_of v End = model.ends (top_bytes v.stack v.stack.frames)
event_of v (Read body) = model.reads
event_of v Wish = model.wishes

-- Each slot that a frame has reserved stays so, with its payload; as the frame on top ends, those of the frames below
-- do.
abbrev pub StepsPayloads : Event → Stack → Stack → Type 0
StepsPayloads (Push moment len) old new = KeepsPayloads old new
StepsPayloads PushClose old new = KeepsPayloads old new
StepsPayloads Step old new = KeepsPayloads old new
StepsPayloads End old new = EndsPayload old new
StepsPayloads (Read body) old new = KeepsPayloads old new
StepsPayloads Wish old new = KeepsPayloads old new

-- What the answer of a push says of how long the payloads are that the frames were pushed for: one of this length is on
-- top of the others; if it is refused, they are the same.
pub record PushesLens (len : Option ℕ) (result : Answer) (old new : Stack) : Type 0 where
  pub pushed : result ≡ Pushed → lens new ≡ len ∷ lens old
  pub refused : (fault : WriteFault) → result ≡ Refused fault → lens new ≡ lens old

-- and that of an end: it was on top of the others; if it is refused, they are the same.
pub record EndsLens (result : Answer) (old new : Stack) : Type 0 where
  pub pending : result ≡ Ended Pending → IsOneMore (lens old) (lens new)
  pub refused : (fault : WriteFault) → result ≡ Refused fault → lens new ≡ lens old

-- How long the payloads are that the frames were pushed for: the writers' events say it by their answer, and the reader
-- keeps them.
abbrev pub StepsLens : Event → Answer → Stack → Stack → Type 0
StepsLens (Push moment len) result old new = PushesLens (Some len) result old new
StepsLens PushClose result old new = PushesLens None result old new
StepsLens Step result old new = KeepsLens result old new
StepsLens End result old new = EndsLens result old new
StepsLens (Read body) result old new = lens new ≡ lens old
StepsLens Wish result old new = lens new ≡ lens old

-- ---- answers

-- a step of the reader gives its body back, unless a page is taken for it
abbrev pub GivesBack : List ℕ → Answer → Type 0
GivesBack body (Looking back) = back ≡ body
GivesBack body (Empty done back) = back ≡ body
GivesBack body (Moving fill back) = back ≡ body
GivesBack body (Taken page missed) = Unit {0}
GivesBack body _ = ⊥

-- a page that is taken reads as its records, and has the ring's data size
abbrev pub HasWholePage : (size : ℕ) → Answer → Type 0
HasWholePage size (Taken page missed) = IsPage page × (page.size ≡ size)
HasWholePage size _ = Unit {0}
