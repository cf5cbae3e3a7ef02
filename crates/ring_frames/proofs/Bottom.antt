-- The bottom frame, which has left and is alone.
use Rattle.std.proofs.Common.{◌≡◌, ◌≢◌, ℕ, List, [], ◌∷◌, length, Option, refl, ap, ◌∙◌, subst, arith}
use Rattle.trace_model.specs.Frames.{waiting, reserved, left}
use Rattle.trace_model.specs.Frames as frames_model
use Rattle.trace_model.specs.Ring.{Core}
use Rattle.ring_model.specs.KeptStack.{MayBeIn, FramesAgree}
use Rattle.ring_model.specs.RingKept.{IsRingKept}
use Rattle.nested_writer.specs.declared.frame.Purpose.{Purpose}
use Rattle.nested_writer.specs.declared.frame.Progress.{Progress}
use Rattle.nested_writer.specs.declared.frame.Progress.TheVariants.{Waiting, Through, Reserved, Left}
use Rattle.nested_writer.specs.declared.frame.Frame as stack
use Rattle.nested_writer.specs.Stack.{kind_of, state_of}
use Rattle.ring_frames.specs.declared.phase.Phase.{Phase}
use Rattle.ring_frames.specs.Value.{FramesValue, phase_of}
use Rattle.ring_frames.specs.AreFrames.{frames_in_phases, AreBelow, AreFrames}

-- only this frame, which has left, is on the stack
pub record IsAlone (v : FramesValue) (c : Core) : Type 0 where
  pub purpose : Purpose
  pub noted : Option ℕ
  pub frames_are : v.stack.frames ≡ record { purpose = purpose; progress = Left noted } ∷ []
  pub below_is : v.below ≡ []
  pub model : c.frames ≡ record { kind = kind_of purpose; state = left; phase = phase_of v.phase } ∷ []

waiting_ne_left : waiting ≢ left
waiting_ne_left e = cc

reserved_ne_left : (number : ℕ) → reserved number ≢ left
reserved_ne_left number e = cc

left_is : (progress : Progress) → state_of progress ≡ left → (noted : Option ℕ) × (progress ≡ Left noted)
left_is (Waiting noted) is = absurd (waiting_ne_left is)
left_is (Through noted) is = absurd (waiting_ne_left is)
left_is (Reserved slot) is = absurd (reserved_ne_left slot.number is)
left_is (Left noted) is = (noted, refl)

none_below : (frames : List stack.Frame) (phases : List Phase) → length phases ≡ length frames
    → frames_in_phases frames phases ≡ [] → (frames ≡ []) × (phases ≡ [])
none_below [] [] many none = (refl, refl)
none_below [] (phase ∷ phases) many none = absurd (omega arith)
none_below (f ∷ frames) [] many none = absurd (omega arith)
none_below (f ∷ frames) (phase ∷ phases) many none = let z = ap length none in absurd (omega arith)

-- a frame in this phase has left
abbrev pub OnlyOfLeft : Phase → Type 0
OnlyOfLeft phase =
    (kind : frames_model.Purpose) (state : frames_model.Progress) → MayBeIn kind state (phase_of phase) → state ≡ left

alone_in : (frames : List stack.Frame) (phase : Phase) (below : List Phase) → frames ≢ [] → AreBelow frames below
    → FramesAgree (frames_in_phases frames (phase ∷ below)) → OnlyOfLeft phase
    → (purpose : Purpose) × (noted : Option ℕ) × (frames ≡ record { purpose = purpose; progress = Left noted } ∷ [])
    × (below ≡ [])
alone_in [] phase below some many agree only = absurd (some refl)
alone_in (f ∷ frames) phase below some many agree only =
    let has_left = only (kind_of f.purpose) (state_of f.progress) agree.0 in
    let (noted, is) = left_is f.progress has_left in
    let (none, none_kept) = none_below frames below many (agree.1 has_left) in
    (f.purpose, noted, (λ i. record { purpose = f.purpose; progress = is i } ∷ none i), none_kept)

pub alone : (n size start : ℕ) (v : FramesValue) (c : Core) → AreFrames n size start v c → IsRingKept n size start c
    → v.stack.frames ≢ [] → OnlyOfLeft v.phase → IsAlone v c
alone n size start v c s k some only =
    let (purpose, noted, frames_are, below_is) =
    alone_in v.stack.frames v.phase v.below some s.below_are (subst FramesAgree s.frames_are k.stack.agree) only in
    record {
      purpose = purpose;
      noted = noted;
      frames_are = frames_are;
      below_is = below_is;
      model = s.frames_are ∙ (λ i. frames_in_phases (frames_are i) (v.phase ∷ below_is i));
    }
