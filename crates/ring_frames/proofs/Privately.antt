-- A private step that is made: the frames after it are those of the state after the step.
use Rattle.std.proofs.Common.{◌≡◌, ℕ, List, ◌∷◌, sym, subst}
use Rattle.trace_model.specs.Frames.{Frame}
use Rattle.trace_model.specs.Ring.{Core}
use Rattle.trace_model.specs.Steps as model
use Rattle.ring_model.specs.RingKept.{IsRingKept}
use Rattle.ring_model.specs.Seats.{PhaseIsPrivate, TopIsPrivate, IsPrivate}
use Rattle.ring_model.proofs.partition.RingsKept.{reached_kept}
use Rattle.ring_frames.specs.declared.answer.Answer.{Answer}
use Rattle.ring_frames.specs.Value.{FramesValue}
use Rattle.ring_frames.specs.AreFrames.{AreFrames, HasFrames}
use Rattle.ring_frames.specs.Answers.{IsAnswerOf}
use Rattle.ring_frames.specs.Steps.{IsPrivateStep}

-- what every step keeps holds of the state
pub kept_of : (n size start : ℕ) (v : FramesValue) (c : Core) → HasFrames n size start v c → IsRingKept n size start c
kept_of n size start v c core = reached_kept n size start c core.reached

pub privately : (n size start : ℕ) (new : FramesValue) (c : Core) (event : model.Event) (result : Answer)
    (answer : model.Answer) (after : Core) → model.Step n size c event answer after → IsPrivate c event
    → IsAnswerOf size result answer → AreFrames n size start new after → IsPrivateStep n size start c event result new
privately n size start new c event result answer after step own reports are = record {
  answer = answer;
  after = after;
  step = step;
  private = own;
  reports = reports;
  are = are;
}

-- a step of the frame on top is private if its phase is
pub top_is_private : (c : Core) (frame : Frame) (below : List Frame) → c.frames ≡ frame ∷ below
    → PhaseIsPrivate frame.phase c.opened → IsPrivate c model.steps
top_is_private c frame below top own = subst (λ (fs : List Frame). TopIsPrivate fs c.opened) (sym top) own
