-- A record frame on top that tried nothing yet, and whose record surely fits.
use Rattle.std.proofs.Common.{◌≡◌, ℕ, List, ◌∷◌, Option, Some, None, refl, ap, subst}
use Rattle.trace_model.specs.Frames.{for_record, waiting, left, noted_fill}
use Rattle.trace_model.specs.Ring.{Core}
use Rattle.ring_model.specs.KeptStack.{FramesAgree}
use Rattle.ring_model.proofs.links.FramePhases.{none_some}
use Rattle.ring_model.proofs.frames.StackSteps.{releasing_left, wishing_left}
use Rattle.nested_writer.specs.declared.frame.Purpose.TheVariants.{Record}
use Rattle.nested_writer.specs.declared.frame.Progress.TheVariants.{Waiting}
use Rattle.nested_writer.specs.declared.frame.Pushed.{Pushed}
use Rattle.nested_writer.specs.declared.frame.Frame.{Frame}
use Rattle.nested_writer.specs.PlainTop.{IsPlainTop}
use Rattle.ring_frames.specs.declared.phase.Phase.{Phase}
use Rattle.ring_frames.specs.declared.phase.Phase.TheVariants.{Idle, Looking, Claiming, LookingNext, Marking, Clearing}
use Rattle.ring_frames.specs.declared.phase.Phase.TheVariants.{Opening, Releasing, Wishing}
use Rattle.ring_frames.specs.Value.{FramesValue, phase_of}
use Rattle.ring_frames.specs.AreFrames.{frames_in_phases, AreNotedAlike, HasFrames}
use Rattle.ring_frames.proofs.Privately.{kept_of}

-- a phase in which nothing is noted, of a frame that hasn't left
idle_by : (phase : Phase) → ((o : ℕ) → noted_fill (phase_of phase) ≡ Some o → ◌≡◌ {A = Option ℕ} None (Some o))
    → (phase ≡ Releasing → ⊥) → (phase ≡ Wishing → ⊥) → phase ≡ Idle
idle_by Idle alike closes wishes = refl
idle_by (Looking noted) alike closes wishes = absurd (none_some (alike noted refl))
idle_by (Claiming noted page) alike closes wishes = absurd (none_some (alike noted refl))
idle_by (LookingNext role noted page) alike closes wishes = absurd (none_some (alike noted refl))
idle_by (Marking role noted page next) alike closes wishes = absurd (none_some (alike noted refl))
idle_by (Clearing noted page) alike closes wishes = absurd (none_some (alike noted refl))
idle_by (Opening noted page) alike closes wishes = absurd (none_some (alike noted refl))
idle_by Releasing alike closes wishes = absurd (closes refl)
idle_by Wishing alike closes wishes = absurd (wishes refl)

-- it rests
pub plain_rests : (n size start : ℕ) (v : FramesValue) (c : Core) (pushed : Pushed) → HasFrames n size start v c
    → IsPlainTop v.stack pushed → v.phase ≡ Idle
plain_rests n size start v c pushed core plain =
    let top : Frame = record { purpose = Record pushed.moment pushed.len; progress = Waiting None } in
    let frames : List Frame = top ∷ plain.below in
    let alike = (subst (λ (fs : List Frame). AreNotedAlike fs (v.phase ∷ v.below)) plain.on_top core.are.noted).0 in
    let agree : FramesAgree (frames_in_phases frames (v.phase ∷ v.below)) =
    subst (λ (fs : List Frame). FramesAgree (frames_in_phases fs (v.phase ∷ v.below))) plain.on_top
    (subst FramesAgree core.are.frames_are (kept_of n size start v c core).stack.agree) in
    idle_by v.phase alike
    (λ is.
    not_both (releasing_left (for_record pushed.moment pushed.len) waiting (phase_of v.phase) (ap phase_of is)
    agree.0))
    (λ is.
    not_both (wishing_left (for_record pushed.moment pushed.len) waiting (phase_of v.phase) (ap phase_of is)
    agree.0))
  where
    not_both : waiting ≡ left → ⊥
    not_both e = cc
