-- The frames of a state are those of each other one with the same frames, history and counts.
use Rattle.std.proofs.Common.{◌≡◌, ℕ, List, sym, ◌∙◌, subst}
use Rattle.trace_model.specs.History.{HistoryEvent}
use Rattle.trace_model.specs.Ring.{Core}
use Rattle.nested_writer.specs.IsStack.{IsStack}
use Rattle.ring_frames.specs.Value.{FramesValue}
use Rattle.ring_frames.specs.AreFrames.{AreFrames}

pub same_frames : (n size start : ℕ) (v : FramesValue) (c other : Core) → AreFrames n size start v c
    → other.frames ≡ c.frames → other.history ≡ c.history → other.done ≡ c.done → other.opened ≡ c.opened
    → AreFrames n size start v other
same_frames n size start v c other are frames history done opened = record {
  pages_is = are.pages_is;
  size_is = are.size_is;
  stack_is = subst (λ (h : List HistoryEvent). IsStack start h v.stack) (sym history) are.stack_is;
  done_is = done ∙ are.done_is;
  opened_is = opened ∙ are.opened_is;
  frames_are = frames ∙ are.frames_are;
  below_are = are.below_are;
  noted = are.noted;
}
