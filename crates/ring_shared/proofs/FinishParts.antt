-- The frame on top, stepped as far as it gets: what its answer states, and what is made after its first steps.
use Rattle.std.specs.Prelude.{◌⊎◌, None}
use Rattle.std.proofs.Common.{◌≡◌, ℕ, List, [], ◌∷◌, refl, sym, ap, ◌∙◌, subst, inl, inr}
use Rattle.trace_model.specs.declared.numbers.RecordNo.{RecordNo}
use Rattle.trace_model.specs.Frames.{Purpose, Progress, waiting, reserved, Frame}
use Rattle.trace_model.specs.Steps as model
use Rattle.ring_model.specs.FrameOutcomes.{IsLeaving}
use Rattle.nested_writer.specs.declared.frame.Slot.{Slot}
use Rattle.nested_writer.specs.declared.frame.Frame as stack
use Rattle.nested_writer.specs.Stack.{state_of}
use Rattle.nested_writer.specs.Calls.{IsTopSlot}
use Rattle.ring_frames.specs.declared.answer.Answer.{Answer}
use Rattle.ring_frames.specs.declared.answer.Answer.TheVariants.{Going, Reserved, Gone, Refused}
use Rattle.ring_frames.specs.declared.phase.Phase.{Phase}
use Rattle.ring_frames.specs.declared.phase.StepAnswer.{StepAnswer}
use Rattle.ring_frames.specs.declared.phase.StepAnswer.TheVariants as step_answer
use Rattle.ring_frames.specs.AreFrames.{frames_in_phases}
use Rattle.ring_frames.specs.Phases.{as_answer}
use Rattle.ring_steps.specs.declared.rule.Shape.{Shape}
use Rattle.ring_steps.specs.Views.{Writing}
use Rattle.ring_shared.specs.declared.writer.finish.Finished.{Finished}
use Rattle.ring_shared.specs.declared.writer.finish.Finished.TheVariants as finished
use Rattle.ring_shared.specs.Value.{WriterValue}
use Rattle.ring_shared.specs.Calls.{AreWriterFields, IsCall}
use Rattle.ring_shared.specs.Finishing.{MakesSteps, at_once, one_more, IsReservedOr, is_reserved, stays_refused}
use Rattle.ring_shared.specs.Finishing.{is_refused, Leaves, Closes, Finishes, IsNumberOrRefused, IsOutcomeOf}
use Rattle.ring_shared.specs.Finishing.{IsFinished, IsGoneOrRefused}
use Rattle.ring_shared.proofs.Targets.{frames_of}
use Rattle.ring_frames.proofs.Reported.{IsRefusal}
use Rattle.ring_shared.proofs.Finishes.{leaves_behind, IsStillLeaving, leaving_first, leaving_going, leaving_gone}
use Rattle.ring_shared.proofs.WholeWrites.{HasTopRecord, top_slot_of}

-- ---- a record

-- an answer that refuses nothing states the number of the record that the frame on top has
pub record HasNumber (below : List Frame) (result : Answer) (frames : List Frame) : Type 0 where
  pub next : Frame
  pub number : RecordNo
  pub reported : result ≡ Reserved number
  pub top : frames ≡ next ∷ below
  pub state_is : next.state ≡ reserved number.0

-- an answer states that number, or refuses
abbrev pub ReportsTop : Answer → List Frame → Type 0
ReportsTop result frames = ((below : List Frame) × HasNumber below result frames) ⊎ IsRefusal result

pub reserving_reports : (kind : Purpose) (below : List Frame) (result : Answer) (after : List Frame)
    → IsReservedOr kind below result after → ReportsTop result after
reserving_reports kind below _ after (is_reserved next number end top kind_is state_is) =
    inl (below, record { next = next; number = number; reported = refl; top = top; state_is = state_is })
reserving_reports kind below _ after (stays_refused fault next end top leaves) = inr (fault, refl)
reserving_reports kind below _ after (is_refused fault end top) = inr (fault, refl)

pub number_or_refused : (result : Answer) (frames : List Frame) → ReportsTop result frames → IsNumberOrRefused result
number_or_refused result frames (inl (below, h)) = inl (h.number, h.reported)
number_or_refused result frames (inr refusal) = inr refusal

abbrev state_first : List Frame → Progress
state_first [] = waiting
state_first (first ∷ others) = first.state

slot_number : (frames : List stack.Frame) (phase : Phase) (phases : List Phase) (shown : List Frame) (next : Frame)
    (below : List Frame) (number : ℕ) (slot : Slot) → shown ≡ frames_in_phases frames (phase ∷ phases)
    → shown ≡ next ∷ below → next.state ≡ reserved number → IsTopSlot frames slot → slot.number ≡ number
slot_number [] phase phases shown next below number slot same top at is = absurd is
slot_number (f ∷ frames) phase phases shown next below number slot same top at is =
    let heads : frames_in_phases (f ∷ frames) (phase ∷ phases) ≡ next ∷ below = sym same ∙ top in
    let states : reserved slot.number ≡ reserved number =
    sym (ap state_of is) ∙ (ap (λ (fs : List Frame). state_first fs) heads ∙ at) in
    cc

-- and the slot on top has it
pub number_of_slot : (v : WriterValue) (w : AreWriterFields v) (below : List Frame) (result : Answer)
    (h : HasNumber below result v.part.frames) (slot : Slot) → IsTopSlot v.frames.stack.frames slot
    → result ≡ Reserved record { 0 = slot.number }
number_of_slot v w below result h slot is =
    let same : slot.number ≡ h.number.0 =
    slot_number v.frames.stack.frames v.frames.phase v.frames.below v.part.frames h.next below h.number.0 slot
    (frames_of v w) h.top h.state_is is in
    h.reported ∙ ap (λ (n : ℕ). let r : RecordNo = record { 0 = n } in Reserved r) (sym same)

pub slot_of_number : (v : WriterValue) (w : AreWriterFields v) (below : List Frame) (result : Answer)
    → HasNumber below result v.part.frames → (slot : Slot) × IsTopSlot v.frames.stack.frames slot
slot_of_number v w below result h =
    let t : HasTopRecord h.next.kind below v.part.frames =
    record { next = h.next; number = h.number.0; top = h.top; kind_is = refl; state_is = h.state_is } in
    top_slot_of v w h.next.kind below t

-- so what the brief answer states
pub finished_so : (old new : WriterValue) (w : AreWriterFields new) (answer : Answer) (to : Finished)
    → IsOutcomeOf answer to → ReportsTop answer new.part.frames → Finishes old.shape old.part answer new.part
    → IsFinished old to new
finished_so old new w answer finished.Reserved (number, is) (inl (below, h)) f =
    let (slot, at) = slot_of_number new w below answer h in (
      slot,
      at,
      subst (λ (x : Answer). Finishes old.shape old.part x new.part) (number_of_slot new w below answer h slot at) f,
    )
finished_so old new w answer finished.Reserved (number, is) (inr (fault, refuses)) f =
    absurd (let both : Reserved number ≡ Refused fault = sym is ∙ refuses in cc)
finished_so old new w answer finished.Gone is reports f =
    subst (λ (x : Answer). Finishes old.shape old.part x new.part) is f
finished_so old new w answer (finished.Refused fault) is reports f =
    subst (λ (x : Answer). Finishes old.shape old.part x new.part) is f

-- ---- a frame that leaves

module _ (shape : Shape) (below : List Frame) (before : Writing) where
  -- what is made after steps that it made
  pub leaves_then : (now : Writing) → MakesSteps shape before now → (answer : Answer) (after : Writing)
      → Leaves shape below now answer after → Leaves shape below before answer after
  leaves_then now at_once answer after l = l
  leaves_then now (one_more between end goes call) answer after l =
      leaves_then between goes answer after (leaves_behind shape below between now after answer call l)

  -- one step more
  pub closes_then : (now next : Writing) (to : StepAnswer) → Closes shape below before step_answer.Going now
      → IsCall shape now model.steps (as_answer to) next → Closes shape below before to next
  closes_then now next step_answer.Going (frame, top, is, goes) call =
      let a : IsStillLeaving shape below now None next =
      leaving_going shape below now None now next Going (leaving_first shape frame below now top is) call refl in
      (a.frame, a.top, a.leaves, one_more now next goes call)
  closes_then now next step_answer.Gone (frame, top, is, goes) call =
      leaves_then now goes Gone next
      (leaving_gone shape below now None now next Gone (leaving_first shape frame below now top is) call refl)

  -- if it is still on the stack
  pub closes_still : (now : Writing) (to : StepAnswer) → Closes shape below before to now → to ≡ step_answer.Going
      → (next : Frame) × (others : List Frame) × (now.frames ≡ next ∷ others) × IsLeaving next.kind next.state
  closes_still now to c e =
      let (frame, top, is, goes) = subst (λ (t : StepAnswer). Closes shape below before t now) e c in
      (frame, below, top, is)

  pub closes_rest : (now : WriterValue) (to : StepAnswer) → Closes shape below before to now.part
      → to ≡ step_answer.Going → now.shape ≡ shape → (answer : Answer) (after : Writing)
      → ((next : Frame) (others : List Frame) → now.part.frames ≡ next ∷ others
      → Leaves now.shape others now.part answer after) → Leaves shape below before answer after
  closes_rest now to c e same answer after rest =
      let (frame, top, is, goes) = subst (λ (t : StepAnswer). Closes shape below before t now.part) e c in
      leaves_then now.part goes answer after
      (subst (λ (s : Shape). Leaves s below now.part answer after) same (rest frame below top))

-- one that met no refusal is gone
pub gone_unrefused : (answer : Answer) → IsGoneOrRefused answer → (IsRefusal answer → ⊥) → answer ≡ Gone
gone_unrefused answer (inl e) denied = e
gone_unrefused answer (inr (fault, e)) denied = absurd (denied (fault, e))
