-- What may be asked of a ring with a writer's frames: the end of the frame on top with the payload that is in its slot,
-- and a step of a frame whose phase is private.
use Rattle.std.proofs.Common.{◌≡◌, ℕ, List, [], ◌∷◌, length, refl, sym, ap, ◌∙◌, subst, arith}
use Rattle.trace_model.specs.Words.{slot_len}
use Rattle.trace_model.specs.Frames.{for_record, Frame as ModelFrame}
use Rattle.trace_model.specs.Ring.{Core}
use Rattle.trace_model.specs.Steps as model
use Rattle.ring_model.specs.RingLaws.{MayAsk}
use Rattle.ring_model.specs.Seats.{PhaseIsPrivate, TopIsPrivate, IsPrivate}
use Rattle.nested_writer.specs.declared.frame.Progress.{Progress}
use Rattle.nested_writer.specs.declared.frame.Progress.TheVariants.{Waiting, Through, Reserved, Left}
use Rattle.nested_writer.specs.declared.frame.Frame.{Frame}
use Rattle.nested_writer.specs.Stack.{opened, state_of}
use Rattle.ring_frames.specs.Value.{FramesValue, phase_of}
use Rattle.ring_frames.specs.AreFrames.{frames_in_phases, AreFrames}
use Rattle.ring_frames.specs.Answers.{top_bytes}
use Rattle.ring_frames.proofs.Left.{tops_are}
use Rattle.ring_frames.proofs.Ended.{stands, fills_slot}

-- the payload in the slot of the frame on top takes exactly that slot
pub may_end : (n size start : ℕ) (v : FramesValue) (c : Core) → AreFrames n size start v c
    → MayAsk c (model.ends (top_bytes v.stack v.stack.frames))
may_end n size start v c k frame below number moment len model_is at kind = by_frames v.stack.frames refl
  where
    by_progress : (top : Frame) (rest : List Frame) → v.stack.frames ≡ top ∷ rest → (progress : Progress)
        → top.progress ≡ progress → frame.state ≡ state_of progress
        → slot_len (length (top_bytes v.stack v.stack.frames)) ≡ slot_len len
    by_progress top rest stack_is (Waiting noted) has state_is = absurd (let z : ⊥ = cc in z)
    by_progress top rest stack_is (Through noted) has state_is = absurd (let z : ⊥ = cc in z)
    by_progress top rest stack_is (Reserved slot) has state_is =
        let (frame_is, below_is, same) = tops_are v c n size start top rest frame below k stack_is model_is in
        let (moment', len', kind', lies) = stands n size start v c k top rest slot stack_is has frame below model_is in
        let kinds : for_record moment' len' ≡ for_record moment len =
        sym kind' ∙ sym (ap (λ (f : ModelFrame). f.kind) frame_is) ∙ kind in
        let lens : len' ≡ len = cc in
        fills_slot n size start v c k top rest slot stack_is has frame below model_is ∙ ap slot_len lens
    by_progress top rest stack_is (Left noted) has state_is = absurd (let z : ⊥ = cc in z)

    by_frames : (frames : List Frame) → v.stack.frames ≡ frames
        → slot_len (length (top_bytes v.stack v.stack.frames)) ≡ slot_len len
    by_frames [] none =
        let e = sym model_is ∙ k.frames_are ∙ ap (λ (fs : List Frame). frames_in_phases fs (v.phase ∷ v.below)) none in
        let z = ap (λ (fs : List ModelFrame). length fs) e in absurd (omega arith)
    by_frames (top ∷ rest) is =
        let (frame_is, below_is, same) = tops_are v c n size start top rest frame below k is model_is in
        by_progress top rest is top.progress refl (ap (λ (f : ModelFrame). f.state) frame_is)

-- a step of the frame on top is private if the phase of the frames is
pub steps_are_private : (n size start : ℕ) (v : FramesValue) (c : Core) → AreFrames n size start v c
    → PhaseIsPrivate (phase_of v.phase) (opened v.stack) → IsPrivate c model.steps
steps_are_private n size start v c k own =
    subst (λ (fs : List ModelFrame). TopIsPrivate fs c.opened) (sym k.frames_are) (by_frames v.stack.frames)
  where
    by_frames : (frames : List Frame) → TopIsPrivate (frames_in_phases frames (v.phase ∷ v.below)) c.opened
    by_frames [] = tt
    by_frames (top ∷ rest) = subst (PhaseIsPrivate (phase_of v.phase)) (sym k.opened_is) own
