-- One more frame is on top: the slots that the others have reserved are below it.
use Rattle.std.proofs.Common.{◌≡◌, ℕ, ◌<◌, ◌≤◌, List, [], ◌∷◌, length, ◌⊎◌, inl, inr, sym, ap, ◌∙◌, subst, arith}
use Rattle.std.specs.Prelude.{IfSome}
use Rattle.trace_model.specs.History.{reserved_records}
use Rattle.trace_model.specs.Packing.{opens_of, is_wished}
use Rattle.trace_model.specs.Frames.{reserved, number_of, Frame as ModelFrame}
use Rattle.trace_model.specs.Frames as frames_model
use Rattle.trace_model.specs.Ring.{Core}
use Rattle.nested_writer.specs.declared.frame.Slot.{Slot}
use Rattle.nested_writer.specs.declared.frame.Progress.{Progress}
use Rattle.nested_writer.specs.declared.frame.Frame.{Frame}
use Rattle.nested_writer.specs.Stack.{Stack, state_of}
use Rattle.nested_writer.specs.IsStack.{AreBefore, FramesStand}
use Rattle.ring_frames.specs.declared.phase.Phase.{Phase}
use Rattle.ring_frames.specs.Value.{FramesValue}
use Rattle.nested_writer.specs.Next.{below_top}
use Rattle.ring_frames.specs.Answers.{HoldSlot}
use Rattle.ring_frames.specs.AreFrames.{frames_in_phases, AreBelow, AreFrames}

-- ---- numbers of frames

-- one of these frames has reserved a record of this number
abbrev HasNumber : List ModelFrame → ℕ → Type 0
HasNumber [] number = ⊥
HasNumber (f ∷ frames) number = (f.state ≡ reserved number) ⊎ HasNumber frames number

held_number : (frames : List Frame) (phases : List Phase) (slot : Slot) → length frames ≤ length phases
    → HoldSlot frames slot → HasNumber (frames_in_phases frames phases) slot.number
held_number [] phases slot long none = absurd none
held_number (f ∷ frames) [] slot long held = absurd (omega (arith, long))
held_number (f ∷ frames) (phase ∷ phases) slot long (inl is) = inl (ap state_of is)
held_number (f ∷ frames) (phase ∷ phases) slot long (inr there) =
    inr (held_number frames phases slot (omega (arith, long)) there)

number_low : (number other : ℕ) (frames : List Frame) (phases : List Phase) → AreBefore number frames
    → HasNumber (frames_in_phases frames phases) other → other < number
number_low number other [] phases before none = absurd none
number_low number other (f ∷ frames) [] before none = absurd none
number_low number other (f ∷ frames) (phase ∷ phases) before (inl is) =
    subst (λ (s : frames_model.Progress). IfSome (number_of s) (λ n. n < number)) is before.0
number_low number other (f ∷ frames) (phase ∷ phases) before (inr there) =
    number_low number other frames phases before.1 there

pub enough_phases : (frames : List Frame) (phase : Phase) (below : List Phase) → AreBelow frames below
    → length frames ≤ length (phase ∷ below)
enough_phases [] phase below are = omega arith
enough_phases (top ∷ frames) phase below are = omega (arith, are)

-- ---- a frame more

same_rest : (one other : ModelFrame) (below others : List ModelFrame) → one ∷ below ≡ other ∷ others → below ≡ others
same_rest one other below others e = cc

-- a slot that one of the others had isn't that of the frame on top
pub covered_slot : (n size start : ℕ) (v w : FramesValue) (c d : Core) (next : ModelFrame) (slot : Slot)
    → AreFrames n size start v c → AreFrames n size start w d → d.frames ≡ next ∷ c.frames
    → HoldSlot v.stack.frames slot → HoldSlot w.stack.frames slot → HoldSlot (below_top w.stack.frames) slot
covered_slot n size start v w c d next slot are then above had =
    by_frames w.stack.frames then.stack_is.holds.frames_are (sym above ∙ then.frames_are)
  where
    has : HasNumber c.frames slot.number
    has = subst (λ (fs : List ModelFrame). HasNumber fs slot.number) (sym are.frames_are)
        (held_number v.stack.frames (v.phase ∷ v.below) slot
        (enough_phases v.stack.frames v.phase v.below are.below_are) had)

    s : Stack
    s = w.stack

    by_frames : (frames : List Frame)
        → FramesStand s.size s.done s.older s.tail (opens_of d.history) (reserved_records d.history)
        (is_wished d.history) frames → next ∷ c.frames ≡ frames_in_phases frames (w.phase ∷ w.below)
        → HoldSlot frames slot → HoldSlot (below_top frames) slot
    by_frames [] stand same none = none
    by_frames (top ∷ rest) stand same (inr there) = there
    by_frames (top ∷ rest) stand same (inl is) =
        let before =
        subst (λ (p : Progress). IfSome (number_of (state_of p)) (λ number. AreBefore number rest)) is stand.2 in
        let there =
        subst (λ (fs : List ModelFrame). HasNumber fs slot.number)
        (same_rest _ _ c.frames (frames_in_phases rest w.below) same) has in
        let less : slot.number < slot.number = number_low slot.number slot.number rest w.below before there in
        absurd (omega (arith, less))
