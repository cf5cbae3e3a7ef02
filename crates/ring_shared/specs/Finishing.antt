-- What it means that the frame on top is stepped as far as it gets by itself.
use Rattle.std.specs.Prelude.{◌≡◌, ◌⊎◌, ℕ, List, [], ◌∷◌, Option, Some, None, replicate}
use Rattle.trace_model.specs.declared.numbers.RecordNo.{RecordNo}
use Rattle.trace_model.specs.Frames.{Purpose, for_record, for_close, Progress, waiting, reserved, left, Frame}
use Rattle.trace_model.specs.Steps as model
use Rattle.ring_model.specs.FrameOutcomes.{IsReserving, IsLeaving}
use Rattle.nested_writer.specs.declared.fault.WriteFault.{WriteFault}
use Rattle.nested_writer.specs.declared.frame.Frame as stack
use Rattle.nested_writer.specs.declared.frame.Slot.{Slot}
use Rattle.nested_writer.specs.Stack.{Stack, kind_of, state_of}
use Rattle.nested_writer.specs.Calls.{LacksSlot, IsTopSlot}
use Rattle.ring_frames.specs.declared.answer.Answer.{Answer}
use Rattle.ring_frames.specs.declared.answer.Answer.TheVariants.{Pushed, Going, Reserved, Ended, Gone, Refused, Looking}
use Rattle.ring_frames.specs.declared.answer.Answer.TheVariants.{Empty, Moving, Taken, Wished}
use Rattle.ring_frames.specs.declared.phase.StepAnswer.{StepAnswer}
use Rattle.ring_frames.specs.declared.phase.StepAnswer.TheVariants as step_answer
use Rattle.ring_frames.specs.Answers.{bytes_in}
use Rattle.ring_steps.specs.declared.rule.Shape.{Shape}
use Rattle.ring_steps.specs.Views.{Writing}
use Rattle.ring_shared.specs.declared.writer.finish.Target.{Target}
use Rattle.ring_shared.specs.declared.writer.finish.Target.TheVariants as target
use Rattle.ring_shared.specs.declared.writer.finish.Finished.{Finished}
use Rattle.ring_shared.specs.declared.writer.finish.Finished.TheVariants as finished
use Rattle.ring_shared.specs.Value.{WriterValue}
use Rattle.ring_shared.specs.Calls.{IsCall}

-- ---- runs

-- the frame on top makes steps, one after the other, each of which is answered `Going`
pub data MakesSteps (shape : Shape) (before : Writing) : Writing → Type 0 where
  at_once : MakesSteps shape before before
  one_more : (between after : Writing)
      → MakesSteps shape before between
      → IsCall shape between model.steps Going after
      → MakesSteps shape before after

-- This frame's record is reserved under a number; or the frame is refused, and is gone from the stack, or a frame that
-- leaves is in its place. (That it is this frame, which has left, follows from the step in `Reserves`.)
pub data IsReservedOr (kind : Purpose) (below : List Frame) : Answer → List Frame → Type 0 where
  is_reserved : (next : Frame) (number : RecordNo) (after : List Frame)
      → after ≡ next ∷ below
      → next.kind ≡ kind
      → next.state ≡ reserved number.0
      → IsReservedOr kind below (Reserved number) after
  stays_refused : (fault : WriteFault) (next : Frame) (after : List Frame)
      → after ≡ next ∷ below
      → IsLeaving next.kind next.state
      → IsReservedOr kind below (Refused fault) after
  is_refused : (fault : WriteFault) (after : List Frame)
      → after ≡ below
      → IsReservedOr kind below (Refused fault) after

-- The frame on top, above these, makes steps until its record is reserved, or it is refused.
pub record Reserves (shape : Shape) (kind : Purpose) (below : List Frame) (before : Writing) (result : Answer)
    (after : Writing)
    : Type 0 where
  pub between : Writing
  pub goes : MakesSteps shape before between
  pub last : IsCall shape between model.steps result after
  pub ends : IsReservedOr kind below result after.frames

-- It makes steps until it is gone, and answers as the last of them; or one of them refuses it and it stays on, and it
-- answers that refusal.
pub data Leaves (shape : Shape) (below : List Frame) : Writing → Answer → Writing → Type 0 where
  is_gone : (before between after : Writing) (answer : Answer)
      → MakesSteps shape before between
      → IsCall shape between model.steps answer after
      → after.frames ≡ below
      → Leaves shape below before answer after
  was_refused : (before between next after : Writing) (frame : Frame) (fault : WriteFault) (answer : Answer)
      → MakesSteps shape before between
      → IsCall shape between model.steps (Refused fault) next
      → next.frames ≡ frame ∷ below
      → IsLeaving frame.kind frame.state
      → Leaves shape below next answer after
      → Leaves shape below before (Refused fault) after

-- It has made steps, each of which was answered `Going`, and it is on the stack and leaves; or the last of them
-- answered that it is gone.
abbrev pub Closes : Shape → List Frame → Writing → StepAnswer → Writing → Type 0
Closes shape below before step_answer.Going after =
    (frame : Frame) × (after.frames ≡ frame ∷ below) × IsLeaving frame.kind frame.state × MakesSteps shape before after
Closes shape below before step_answer.Gone after = Leaves shape below before Gone after

-- ---- the frame on top

-- A record frame is stepped until it has reserved or is refused; a close frame, or one that has left, until it is gone;
-- and one that has reserved answers its number again.
abbrev pub FinishesFrame : Shape → Purpose → Progress → List Frame → Writing → Answer → Writing → Type 0
FinishesFrame shape (for_record moment len) waiting below before result after =
    Reserves shape (for_record moment len) below before result after
FinishesFrame shape for_close waiting below before result after = Leaves shape below before result after
FinishesFrame shape kind (reserved number) below before result after = IsCall shape before model.steps result after
FinishesFrame shape kind left below before result after = Leaves shape below before result after

abbrev pub FinishesTop : Shape → List Frame → Writing → Answer → Writing → Type 0
FinishesTop shape [] before result after = IsCall shape before model.steps result after
FinishesTop shape (frame ∷ below) before result after =
    FinishesFrame shape frame.kind frame.state below before result after

-- the frame on top is stepped as far as it gets; with none, the one step is refused
abbrev pub Finishes : Shape → Writing → Answer → Writing → Type 0
Finishes shape before result after = FinishesTop shape before.frames before result after

-- ---- what is made of it

-- a record is reserved, or a frame is refused
abbrev pub IsNumberOrRefused : Answer → Type 0
IsNumberOrRefused answer =
    ((number : RecordNo) × (answer ≡ Reserved number)) ⊎ ((fault : WriteFault) × (answer ≡ Refused fault))

-- this states the answer, except for the record's number
abbrev pub IsOutcomeOf : Answer → Finished → Type 0
IsOutcomeOf answer finished.Reserved = (number : RecordNo) × (answer ≡ Reserved number)
IsOutcomeOf answer finished.Gone = answer ≡ Gone
IsOutcomeOf answer (finished.Refused fault) = answer ≡ Refused fault

-- the frame on top is stepped as far as it gets, and answers so; the number of its record is in the slot on top
abbrev pub IsFinished : WriterValue → Finished → WriterValue → Type 0
IsFinished old finished.Reserved new =
    (slot : Slot)
    × IsTopSlot new.frames.stack.frames slot
    × Finishes old.shape old.part (Reserved record { 0 = slot.number }) new.part
IsFinished old finished.Gone new = Finishes old.shape old.part Gone new.part
IsFinished old (finished.Refused fault) new = Finishes old.shape old.part (Refused fault) new.part

-- a slot that is reserved by what is made of the frame on top holds only zeros
abbrev pub ZerosFinished : Stack → Finished → Stack → Type 0
ZerosFinished old result new = (slot : Slot)
    → result ≡ finished.Reserved
    → LacksSlot old.frames
    → IsTopSlot new.frames slot
    → bytes_in new slot ≡ replicate slot.place.len 0

-- ---- what it is stepped to

abbrev pub IsTargetOf : Purpose → Progress → Target → Type 0
IsTargetOf kind state target.Record = IsReserving kind state
IsTargetOf kind state target.End = IsLeaving kind state
IsTargetOf kind state target.Step = (number : ℕ) × (state ≡ reserved number)

-- what the stack's frame on top is stepped to
abbrev pub IsTarget : Option stack.Frame → Target → Type 0
IsTarget None to = to ≡ target.Step
IsTarget (Some frame) to = IsTargetOf (kind_of frame.purpose) (state_of frame.progress) to

-- ---- refusals

-- the refusal that is met first, if this one was met before the answer
abbrev pub met_behind : Option WriteFault → Answer → Option WriteFault
met_behind (Some fault) answer = Some fault
met_behind None Pushed = None
met_behind None Going = None
met_behind None (Reserved number) = None
met_behind None (Ended ended) = None
met_behind None Gone = None
met_behind None (Refused fault) = Some fault
met_behind None (Looking body) = None
met_behind None (Empty done body) = None
met_behind None (Moving fill body) = None
met_behind None (Taken page missed) = None
met_behind None (Wished fill) = None

-- a frame that is gone answers so, or its refusal
abbrev pub IsGoneOrRefused : Answer → Type 0
IsGoneOrRefused result = (result ≡ Gone) ⊎ ((fault : WriteFault) × (result ≡ Refused fault))

-- it is answered if there is one, or else the last answer is
abbrev pub refusal_or_last : Option WriteFault → Answer → Answer
refusal_or_last None last = last
refusal_or_last (Some fault) last = Refused fault
