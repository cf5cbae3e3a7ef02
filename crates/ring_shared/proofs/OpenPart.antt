-- How many fills are begun, how many records are in no closed one, and whether the frame on top is a close, by the
-- writer's part.
use Rattle.std.proofs.Common.{◌≡◌, ℕ, List, [], ◌∷◌, refl, sym, ap, ◌∙◌, subst}
use Rattle.trace_model.specs.History.{HistoryEvent}
use Rattle.nested_writer.specs.declared.frame.Purpose.{Purpose}
use Rattle.nested_writer.specs.declared.frame.Purpose.TheVariants.{Record, Close}
use Rattle.nested_writer.specs.declared.frame.Frame as stack
use Rattle.nested_writer.specs.Stack.{kind_of, opened}
use Rattle.nested_writer.specs.Calls.{is_close, tops_close}
use Rattle.nested_writer.specs.IsStack.{IsStack}
use Rattle.nested_writer.specs.Unclosed.{AreUnclosed}
use Rattle.ring_frames.specs.declared.phase.Phase.{Phase}
use Rattle.ring_frames.specs.AreFrames.{frames_in_phases}
use Rattle.ring_steps.specs.Views.{Writing}
use Rattle.ring_shared.specs.Value.{WriterValue}
use Rattle.ring_shared.specs.Calls.{is_for_close, closes_first, AreWriterFields}
use Rattle.ring_shared.proofs.Settles.{done_there}
use Rattle.ring_shared.proofs.Targets.{frames_of}

-- what is known by the frames alone
abbrev pub UnclosedByFrames : WriterValue → ℕ → Type 0
UnclosedByFrames v count =
    (start : ℕ) (history : List HistoryEvent) → IsStack start history v.frames.stack
    → AreUnclosed start v.frames.stack.done history count

same_purpose : (purpose : Purpose) → is_close purpose ≡ is_for_close (kind_of purpose)
same_purpose (Record moment len) = refl
same_purpose Close = refl

same_top : (frames : List stack.Frame) (phase : Phase) (below : List Phase)
    → tops_close frames ≡ closes_first (frames_in_phases frames (phase ∷ below))
same_top [] phase below = refl
same_top (top ∷ frames) phase below = same_purpose top.purpose

module _ (v : WriterValue) (w : AreWriterFields v) where
  pub opened_there : opened v.frames.stack ≡ v.part.opened
  opened_there = sym w.frames_are.opened_is ∙ ap (λ (p : Writing). p.opened) w.part_is

  pub closes_there : tops_close v.frames.stack.frames ≡ closes_first v.part.frames
  closes_there = same_top v.frames.stack.frames v.frames.phase v.frames.below ∙ ap closes_first (sym (frames_of v w))

  pub unclosed_there : (count : ℕ) → UnclosedByFrames v count
      → AreUnclosed v.shape.start v.part.done v.part.history count
  unclosed_there count are =
      subst (λ (h : List HistoryEvent). AreUnclosed v.shape.start v.part.done h count)
      (ap (λ (p : Writing). p.history) w.part_is)
      (subst (λ (done : ℕ). AreUnclosed v.shape.start done w.core.history count) (sym (done_there v w))
      (are v.shape.start w.core.history w.frames_are.stack_is))
