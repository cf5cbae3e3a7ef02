-- What the frame on top is stepped to, by what its stack states of it.
use Rattle.std.proofs.Common.{◌≡◌, ℕ, List, [], ◌∷◌, sym, ap, ◌∙◌, subst}
use Rattle.trace_model.specs.Frames.{Purpose, for_record, for_close, waiting, reserved, left, Frame}
use Rattle.trace_model.specs.Frames as frames_model
use Rattle.trace_model.specs.Steps as model
use Rattle.ring_model.specs.FrameOutcomes.{IsReserving, IsLeaving}
use Rattle.nested_writer.specs.declared.frame.Frame as stack
use Rattle.nested_writer.specs.Stack.{kind_of, state_of}
use Rattle.nested_writer.specs.declared.frame.Progress.{Progress}
use Rattle.nested_writer.specs.declared.frame.Progress.TheVariants.{Waiting, Through, Reserved, Left}
use Rattle.nested_writer.specs.Calls.{top_of, HasNoSlot, LacksSlot}
use Rattle.ring_frames.specs.declared.answer.Answer.{Answer}
use Rattle.ring_frames.specs.declared.phase.Phase.{Phase}
use Rattle.ring_frames.specs.AreFrames.{frames_in_phases}
use Rattle.ring_steps.specs.declared.rule.Shape.{Shape}
use Rattle.ring_steps.specs.Views.{Writing}
use Rattle.ring_shared.specs.declared.writer.finish.Target.{Target}
use Rattle.ring_shared.specs.declared.writer.finish.Target.TheVariants as target
use Rattle.ring_shared.specs.Value.{WriterValue}
use Rattle.ring_shared.specs.Calls.{AreWriterFields, IsCall}
use Rattle.ring_shared.specs.Finishing.{Reserves, Leaves, FinishesFrame, FinishesTop, Finishes, IsTarget}

-- the frame on top, as the model has it
pub record IsOnTop (frames : List Frame) (state : Purpose → frames_model.Progress → Type 0) : Type 0 where
  pub frame : Frame
  pub below : List Frame
  pub top : frames ≡ frame ∷ below
  pub is : state frame.kind frame.state

pub frames_of : (v : WriterValue) → AreWriterFields v
    → v.part.frames ≡ frames_in_phases v.frames.stack.frames (v.frames.phase ∷ v.frames.below)
frames_of v w = ap (λ (p : Writing). p.frames) (sym w.part_is) ∙ w.frames_are.frames_are

on_top : (frames : List stack.Frame) (phase : Phase) (below : List Phase) (shown : List Frame) (to : Target)
    (state : Purpose → frames_model.Progress → Type 0) → shown ≡ frames_in_phases frames (phase ∷ below)
    → IsTarget (top_of frames) to → (to ≡ target.Step → ⊥)
    → ((f : stack.Frame) → IsTarget (Rattle.std.specs.Prelude.Some f) to
    → state (kind_of f.purpose) (state_of f.progress)) → IsOnTop shown state
on_top [] phase below shown to state same is other says = absurd (other is)
on_top (f ∷ frames) phase below shown to state same is other says =
    record { frame = _; below = _; top = same; is = says f is }

module _ (v : WriterValue) (w : AreWriterFields v) where
  pub reserving_on_top : IsTarget (top_of v.frames.stack.frames) target.Record → IsOnTop v.part.frames IsReserving
  reserving_on_top is =
      on_top v.frames.stack.frames v.frames.phase v.frames.below v.part.frames target.Record IsReserving (frames_of v w)
      is (λ e. cc) (λ f at. at)

  pub leaving_on_top : IsTarget (top_of v.frames.stack.frames) target.End → IsOnTop v.part.frames IsLeaving
  leaving_on_top is =
      on_top v.frames.stack.frames v.frames.phase v.frames.below v.part.frames target.End IsLeaving (frames_of v w) is
      (λ e. cc) (λ f at. at)

module _ (shape : Shape) (before : Writing) (result : Answer) (after : Writing) where
  reserving_frame : (kind : Purpose) (state : frames_model.Progress) (below : List Frame) → IsReserving kind state
      → Reserves shape kind below before result after → FinishesFrame shape kind state below before result after
  reserving_frame (for_record moment len) waiting below is r = r
  reserving_frame (for_record moment len) (reserved number) below is r = absurd is
  reserving_frame (for_record moment len) left below is r = absurd is
  reserving_frame for_close waiting below is r = absurd is
  reserving_frame for_close (reserved number) below is r = absurd is
  reserving_frame for_close left below is r = absurd is

  leaving_frame : (kind : Purpose) (state : frames_model.Progress) (below : List Frame) → IsLeaving kind state
      → Leaves shape below before result after → FinishesFrame shape kind state below before result after
  leaving_frame (for_record moment len) waiting below is l = absurd is
  leaving_frame (for_record moment len) (reserved number) below is l = absurd is
  leaving_frame (for_record moment len) left below is l = l
  leaving_frame for_close waiting below is l = l
  leaving_frame for_close (reserved number) below is l = absurd is
  leaving_frame for_close left below is l = l

  reserved_frame : (kind : Purpose) (state : frames_model.Progress) (number : ℕ) (below : List Frame)
      → state ≡ reserved number → IsCall shape before model.steps result after
      → FinishesFrame shape kind state below before result after
  reserved_frame (for_record moment len) waiting number below e call = absurd (cc)
  reserved_frame (for_record moment len) (reserved other) number below e call = call
  reserved_frame (for_record moment len) left number below e call = absurd (cc)
  reserved_frame for_close waiting number below e call = absurd (cc)
  reserved_frame for_close (reserved other) number below e call = call
  reserved_frame for_close left number below e call = absurd (cc)

  pub finishes_reserving : IsOnTop before.frames IsReserving
      → ((frame : Frame) (below : List Frame) → before.frames ≡ frame ∷ below
      → Reserves shape frame.kind below before result after) → Finishes shape before result after
  finishes_reserving t r =
      subst (λ (frames : List Frame). FinishesTop shape frames before result after) (sym t.top)
      (reserving_frame t.frame.kind t.frame.state t.below t.is (r t.frame t.below t.top))

  pub finishes_leaving : IsOnTop before.frames IsLeaving
      → ((frame : Frame) (below : List Frame) → before.frames ≡ frame ∷ below → Leaves shape below before result after)
      → Finishes shape before result after
  finishes_leaving t l =
      subst (λ (frames : List Frame). FinishesTop shape frames before result after) (sym t.top)
      (leaving_frame t.frame.kind t.frame.state t.below t.is (l t.frame t.below t.top))

  finishes_in : (frames : List stack.Frame) (phase : Phase) (below : List Phase)
      → before.frames ≡ frames_in_phases frames (phase ∷ below) → IsTarget (top_of frames) target.Step
      → IsCall shape before model.steps result after → Finishes shape before result after
  finishes_in [] phase below same is call =
      subst (λ (fs : List Frame). FinishesTop shape fs before result after) (sym same) call
  finishes_in (f ∷ frames) phase below same (number, is) call =
      subst (λ (fs : List Frame). FinishesTop shape fs before result after) (sym same)
      (reserved_frame (kind_of f.purpose) (state_of f.progress) number _ is call)

pub finishes_step : (v : WriterValue) (w : AreWriterFields v) (result : Answer) (after : Writing)
    → IsTarget (top_of v.frames.stack.frames) target.Step → IsCall v.shape v.part model.steps result after
    → Finishes v.shape v.part result after
finishes_step v w result after is call =
    finishes_in v.shape v.part result after v.frames.stack.frames v.frames.phase v.frames.below (frames_of v w) is call

-- ---- slots

abbrev first_of : Frame → List Frame → Frame
first_of frame [] = frame
first_of frame (first ∷ others) = first

not_reserved : (kind : Purpose) (number : ℕ) → IsReserving kind (reserved number) → ⊥
not_reserved (for_record moment len) number is = is
not_reserved for_close number is = is

progress_lacks : (progress : Progress) (kind : Purpose) → IsReserving kind (state_of progress) → HasNoSlot progress
progress_lacks (Waiting noted) kind is = tt
progress_lacks (Through noted) kind is = tt
progress_lacks (Reserved slot) kind is = absurd (not_reserved kind slot.number is)
progress_lacks (Left noted) kind is = tt

-- a frame whose record is to be reserved has no slot
state_lacks : (f : stack.Frame) (kind : Purpose) → IsReserving kind (state_of f.progress) → HasNoSlot f.progress
state_lacks f kind is = progress_lacks f.progress kind is

lacks_in : (frames : List stack.Frame) (phase : Phase) (phases : List Phase) (shown : List Frame) (frame : Frame)
    (below : List Frame) → shown ≡ frames_in_phases frames (phase ∷ phases) → shown ≡ frame ∷ below
    → IsReserving frame.kind frame.state → LacksSlot frames
lacks_in [] phase phases shown frame below same top is = let both : [] ≡ frame ∷ below = sym same ∙ top in absurd (cc)
lacks_in (f ∷ frames) phase phases shown frame below same top is =
    let both : frame ∷ below ≡ frames_in_phases (f ∷ frames) (phase ∷ phases) = sym top ∙ same in
    state_lacks f _ (subst (λ (x : Frame). IsReserving x.kind x.state) (ap (first_of frame) both) is)

pub lacks_slot : (v : WriterValue) → AreWriterFields v → (frame : Frame) (below : List Frame)
    → v.part.frames ≡ frame ∷ below → IsReserving frame.kind frame.state → LacksSlot v.frames.stack.frames
lacks_slot v w frame below top is =
    lacks_in v.frames.stack.frames v.frames.phase v.frames.below v.part.frames frame below (frames_of v w) top is
