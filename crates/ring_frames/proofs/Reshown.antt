-- Frames of a writer that are others, with their history.
use Rattle.std.proofs.Common.{◌≡◌, ℕ, List, ◌∷◌, sym, ◌∙◌}
use Rattle.trace_model.specs.History.{HistoryEvent}
use Rattle.trace_model.specs.Frames.{Frame}
use Rattle.trace_model.specs.Ring.{PageRecords, Core}
use Rattle.nested_writer.specs.Stack.{Stack, opened}
use Rattle.nested_writer.specs.IsStack.{IsStack}
use Rattle.ring_frames.specs.declared.phase.Phase.{Phase}
use Rattle.ring_frames.specs.Value.{FramesValue}
use Rattle.ring_frames.specs.AreFrames.{frames_in_phases, AreBelow, AreNotedAlike, AreFrames}

-- the frames with this stack, in these phases
abbrev pub restacked : Stack → Phase → List Phase → FramesValue
restacked stack phase below = record { stack = stack; phase = phase; below = below }

-- the state with these frames, this history and these contents of pages
abbrev pub reframed : Core → List Frame → List HistoryEvent → List PageRecords → Core
reframed c frames history held = record c { frames = frames; history = history; held = held }

-- The stack is that of the history and of the frames, over pages of the same fills.
pub record Restacks (start : ℕ) (v : FramesValue) (stack : Stack) (phase : Phase) (below : List Phase)
    (frames : List Frame) (history : List HistoryEvent) : Type 0 where
  pub pages_is : stack.pages ≡ v.stack.pages
  pub size_is : stack.size ≡ v.stack.size
  pub done_is : stack.done ≡ v.stack.done
  pub opened_is : opened stack ≡ opened v.stack
  pub stack_is : IsStack start history stack
  pub frames_are : frames ≡ frames_in_phases stack.frames (phase ∷ below)
  pub below_are : AreBelow stack.frames below
  pub noted : AreNotedAlike stack.frames (phase ∷ below)

pub reshown : (n size start : ℕ) (v : FramesValue) (c : Core) (stack : Stack) (phase : Phase) (below : List Phase)
    (frames : List Frame) (history : List HistoryEvent) (held : List PageRecords) → AreFrames n size start v c
    → Restacks start v stack phase below frames history
    → AreFrames n size start (restacked stack phase below) (reframed c frames history held)
reshown n size start v c stack phase below frames history held k r = record {
  pages_is = r.pages_is ∙ k.pages_is;
  size_is = r.size_is ∙ k.size_is;
  stack_is = r.stack_is;
  done_is = k.done_is ∙ sym r.done_is;
  opened_is = k.opened_is ∙ sym r.opened_is;
  frames_are = r.frames_are;
  below_are = r.below_are;
  noted = r.noted;
}
