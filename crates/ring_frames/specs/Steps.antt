-- What a private step makes of a writer's frames: the step of the model, which touches no word of the ring.
use Rattle.std.specs.Prelude.{◌≡◌, ℕ, List, ◌∷◌, Some, None}
use Rattle.trace_model.specs.Frames.{Frame, noted_fill}
use Rattle.trace_model.specs.Ring.{IsStart, Core}
use Rattle.trace_model.specs.Steps as model
use Rattle.ring_model.specs.Reached.{IsReached}
use Rattle.ring_model.specs.Seats.{IsPrivate}
use Rattle.nested_writer.specs.declared.frame.Purpose.TheVariants.{Close}
use Rattle.nested_writer.specs.declared.frame.Progress.TheVariants.{Waiting}
use Rattle.nested_writer.specs.declared.frame.Frame as stack
use Rattle.ring_frames.specs.declared.phase.Phase.{Phase}
use Rattle.ring_frames.specs.declared.answer.Answer.{Answer}
use Rattle.ring_frames.specs.Value.{FramesValue, phase_of}
use Rattle.ring_frames.specs.AreFrames.{AreFrames, HasFrames}
use Rattle.ring_frames.specs.Answers.{IsAnswerOf}

-- the frames are those of some state, between two steps or during one
abbrev pub AreSomeFrames : FramesValue → Type 0
AreSomeFrames v = (n size start : ℕ) × (c : Core) × AreFrames n size start v c

-- they are those of some state that steps from a new ring reach
abbrev pub IsFrames : FramesValue → Type 0
IsFrames v = (n size start : ℕ) × (c : Core) × HasFrames n size start v c

-- they are those of a new ring of n positions and pages of this size whose first fill has the number start
abbrev pub AreNew : (n size start : ℕ) → FramesValue → Type 0
AreNew n size start v = (c : Core) → IsStart n start c → AreFrames n size start v c

-- ---- private steps

-- In this state the event has an answer and a state after it, by a step of the model that touches no word of the ring;
-- the value's answer means that of the model, and the frames after it are those of the state after it.
pub record IsPrivateStep (n size start : ℕ) (c : Core) (event : model.Event) (result : Answer) (new : FramesValue)
    : Type 0 where
  pub answer : model.Answer
  pub after : Core
  pub step : model.Step n size c event answer after
  pub private : IsPrivate c event
  pub reports : IsAnswerOf size result answer
  pub are : AreFrames n size start new after

-- so in each state whose frames these are, and which steps from a new ring reach
abbrev pub MakesPrivate : FramesValue → model.Event → Answer → FramesValue → Type 0
MakesPrivate old event result new = (n size start : ℕ) (c : Core)
    → IsReached n size start c
    → AreFrames n size start old c
    → IsPrivateStep n size start c event result new

-- ---- the frame on top

-- the frame on top continues in this phase, in any state whose frames these are
abbrev pub GoesOnIn : FramesValue → Phase → FramesValue → Type 0
GoesOnIn old phase new = (n size start : ℕ) (c : Core) (frame : Frame) (below : List Frame)
    → AreFrames n size start old c
    → c.frames ≡ frame ∷ below
    → AreFrames n size start new (model.in_phase c frame below (phase_of phase))

-- both phases are of a frame that has noted this fill
pub record IsNotedIn (old new : Phase) (noted : ℕ) : Type 0 where
  pub before : noted_fill (phase_of old) ≡ Some noted
  pub behind : noted_fill (phase_of new) ≡ Some noted

-- the frame on top begins again, in any state whose frames these are, and answers so
abbrev pub BeginsAgain : FramesValue → Answer → FramesValue → Type 0
BeginsAgain old result new = (n size start : ℕ) (c : Core) (frame : Frame) (below : List Frame)
    → AreFrames n size start old c
    → c.frames ≡ frame ∷ below
    → IsAnswerOf size result (model.begin_answer frame.kind frame.state below)
    × AreFrames n size start new (model.after_begin frame.kind frame.state c frame below)

-- the frame on top, which has no record, leaves, and answers so
abbrev pub LeavesWithout : FramesValue → Answer → FramesValue → Type 0
LeavesWithout old result new = (n size start : ℕ) (c : Core) (frame : Frame) (below : List Frame)
    → AreFrames n size start old c
    → c.frames ≡ frame ∷ below
    → IsAnswerOf size result (model.leave_answer below)
    × AreFrames n size start new (model.after_leave c frame below None)

-- a close frame is on top that noted this number of begun fills
abbrev pub IsCloseTop : FramesValue → ℕ → Type 0
IsCloseTop v noted = (below : List stack.Frame)
    × (v.stack.frames ≡ record { purpose = Close; progress = Waiting (Some noted) } ∷ below)
