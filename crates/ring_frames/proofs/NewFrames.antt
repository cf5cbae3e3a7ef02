-- The frames of a new ring.
use Rattle.std.proofs.Common.{◌≡◌, ℕ, ◌+◌, List, [], ◌∷◌, sym, ap, ◌∙◌, subst, arith}
use Rattle.trace_model.specs.History.{HistoryEvent}
use Rattle.nested_writer.specs.declared.frame.Frame as stack
use Rattle.nested_writer.specs.Stack.{Stack, opened, new_stack}
use Rattle.nested_writer.specs.IsStack.{IsStack}
use Rattle.ring_frames.specs.Value.{FramesValue}
use Rattle.ring_frames.specs.AreFrames.{frames_in_phases, AreBelow, AreNotedAlike}
use Rattle.ring_frames.specs.Steps.{AreNew}

pub new_frames : (n size start : ℕ) (v : FramesValue) → v.stack ≡ new_stack n size start → IsStack start [] v.stack
    → v.below ≡ [] → AreNew n size start v
new_frames n size start v is stack_is below c starts =
    let none : v.stack.frames ≡ [] = ap (λ (s : Stack). s.frames) is in record {
      pages_is = ap (λ (s : Stack). s.pages) is;
      size_is = ap (λ (s : Stack). s.size) is;
      stack_is = subst (λ (h : List HistoryEvent). IsStack start h v.stack) (sym starts.history) stack_is;
      done_is = starts.done ∙ sym (ap (λ (s : Stack). s.done) is);
      opened_is = starts.opened ∙ (let e : start + 1 ≡ start + 0 + 1 = omega arith in e) ∙ sym (ap opened is);
      frames_are = starts.frames ∙ ap (λ (fs : List stack.Frame). frames_in_phases fs (v.phase ∷ v.below)) (sym none);
      below_are = subst (λ (fs : List stack.Frame). AreBelow fs v.below) (sym none) below;
      noted = subst (λ (fs : List stack.Frame). AreNotedAlike fs (v.phase ∷ v.below)) (sym none) tt;
    }
