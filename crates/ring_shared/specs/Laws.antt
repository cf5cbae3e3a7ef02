-- The laws of a running ring's calls, as statements: each is a clause of a function of src/laws.rt. They speak of each
-- call that `IsCall` holds of: that of a `MakesSome`, and those which a record that is written whole is made of.
use Rattle.std.specs.Prelude.{◌≡◌, ℕ, List, [], ◌∷◌, ◌++◌, length, Some, None}
use Rattle.trace_model.specs.declared.numbers.RecordNo.{RecordNo}
use Rattle.trace_model.specs.History.{HistoryEvent, push, push_close, reserve, leave, reserved_records}
use Rattle.trace_model.specs.Frames.{waiting, reserved, Frame}
use Rattle.trace_model.specs.Ring.{Core}
use Rattle.trace_model.specs.Steps as model
use Rattle.ring_model.specs.Appended.{Appends}
use Rattle.nested_writer.specs.declared.fault.WriteFault.{WriteFault}
use Rattle.nested_writer.specs.declared.stack.leave.Ended.{Ended as How}
use Rattle.ring_frames.specs.declared.answer.Answer.{Answer}
use Rattle.ring_frames.specs.declared.answer.Answer.TheVariants.{Pushed, Reserved, Ended, Refused}
use Rattle.ring_frames.specs.Answers.{IsAnswerOf}
use Rattle.ring_steps.specs.declared.rule.Shape.{Shape}
use Rattle.ring_steps.specs.Views.{Writing, writing_of, writing_made}
use Rattle.ring_shared.specs.Calls.{IsCall}

-- The event appends these history events to the history of the writer's part, as the model has it for the answer: in a
-- state with that part. And it is one step more that the writer made.
pub record IsAppended (shape : Shape) (before : Writing) (event : model.Event) (result : Answer) (after : Writing)
    : Type 0 where
  pub core : Core
  pub answer : model.Answer
  pub history_events : List HistoryEvent
  pub before_is : writing_of before.made core ≡ before
  pub reports : IsAnswerOf shape.size result answer
  pub appends : Appends shape.pages core event answer history_events
  pub history_is : after.history ≡ before.history ++ history_events
  pub made_is : after.made ≡ before.made ++ writing_made record { event = event; answer = answer } after ∷ []

-- Each call appends what the model says, and nothing else.
abbrev pub CallsAppend : Type 0
CallsAppend = (shape : Shape) (before : Writing) (event : model.Event) (result : Answer) (after : Writing)
    → IsCall shape before event result after
    → IsAppended shape before event result after

-- So a frame that is pushed appends its push,
abbrev pub PushesAppend : Type 0
PushesAppend = (shape : Shape) (before : Writing) (moment len : ℕ) (after : Writing)
    → IsCall shape before (model.pushes moment len) Pushed after
    → after.history ≡ before.history ++ push moment len ∷ []

-- for a close as for a record;
abbrev pub ClosesAppend : Type 0
ClosesAppend = (shape : Shape) (before after : Writing)
    → IsCall shape before model.pushes_close Pushed after
    → after.history ≡ before.history ++ push_close ∷ []

-- one that is ended leaves with its payload;
abbrev pub EndsAppend : Type 0
EndsAppend = (shape : Shape) (before : Writing) (payload : List ℕ) (how : How) (after : Writing)
    → IsCall shape before (model.ends payload) (Ended how) after
    → after.history ≡ before.history ++ leave (Some payload) ∷ []

-- one that waits and is answered a number has reserved it, the number of records before it;
abbrev pub ReservationsAppend : Type 0
ReservationsAppend = (shape : Shape) (before : Writing) (frame : Frame) (below : List Frame) (number : RecordNo)
    (after : Writing)
    → before.frames ≡ frame ∷ below
    → frame.state ≡ waiting
    → IsCall shape before model.steps (Reserved number) after
    → (number.0 ≡ length (reserved_records before.history)) × (after.history ≡ before.history ++ reserve ∷ [])

-- one that has a number is answered it again, and appends nothing;
abbrev pub NumbersAreReportedAgain : Type 0
NumbersAreReportedAgain = (shape : Shape) (before : Writing) (frame : Frame) (below : List Frame) (number : ℕ)
    (result : Answer) (after : Writing)
    → before.frames ≡ frame ∷ below
    → frame.state ≡ reserved number
    → IsCall shape before model.steps result after
    → IsAnswerOf shape.size result (model.reserved_as number) × (after.history ≡ before.history)

-- what a refusal appends: if there is a frame whose step is refused, it leaves without a record
abbrev pub events_of_refusal : model.Event → List Frame → List HistoryEvent
events_of_refusal (model.pushes moment len) frames = []
events_of_refusal model.pushes_close frames = []
events_of_refusal model.steps [] = []
events_of_refusal model.steps (frame ∷ below) = leave None ∷ []
events_of_refusal (model.ends payload) frames = []
events_of_refusal model.reads frames = []
events_of_refusal model.wishes frames = []

-- and any other refusal appends nothing.
abbrev pub RefusalsAppend : Type 0
RefusalsAppend = (shape : Shape) (before : Writing) (event : model.Event) (fault : WriteFault) (after : Writing)
    → IsCall shape before event (Refused fault) after
    → after.history ≡ before.history ++ events_of_refusal event before.frames
