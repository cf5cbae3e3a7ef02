-- The end of a frame as a private step: it leaves with the payload that is in its slot, or is refused.
use Rattle.std.proofs.Common.{◌≡◌, ℕ, suc, ◌-◌, ◌<◌, ◌≤◌, List, [], ◌∷◌, ◌++◌, length, drop, get_or, Some, None, refl}
use Rattle.std.proofs.Common.{sym, ap, ◌∙◌, subst, arith, length-drop, length-take-le}
use Rattle.std.proofs.lemmas.Bool.{cond-true, cond-false, eq-eqb, ne_eqb}
use Rattle.std.proofs.lemmas.Option.{slice_get_within, get_or_from_slice_get}
use Rattle.trace_model.specs.Words.{slot_len}
use Rattle.trace_model.specs.Overwriting.{bytes_at}
use Rattle.trace_model.specs.History.{leave, reserved_records}
use Rattle.trace_model.specs.Packing.{opens_of, is_wished}
use Rattle.trace_model.specs.Frames.{for_record, number_of, Frame as ModelFrame}
use Rattle.trace_model.specs.Ring.{Core}
use Rattle.trace_model.specs.Steps as model
use Rattle.trace_model.proofs.steps.StepCases as cases
use Rattle.trace_model.proofs.words.Lengths.{slot_len-slot_len}
use Rattle.trace_model.proofs.words.Overwritten.{place-within}
use Rattle.trace_model.proofs.steps.StepIs.{step_by}
use Rattle.page_image.specs.Contents.{Contents}
use Rattle.nested_writer.specs.declared.fault.WriteFault.{WriteFault}
use Rattle.nested_writer.specs.declared.fault.WriteFault.TheVariants.{NoFrame, NotReserved}
use Rattle.nested_writer.specs.declared.stack.leave.Ended.{Ended}
use Rattle.nested_writer.specs.declared.stack.leave.Ended.TheVariants.{Pending, Full}
use Rattle.nested_writer.specs.declared.frame.Slot.{Slot}
use Rattle.nested_writer.specs.declared.frame.Purpose.{Purpose}
use Rattle.nested_writer.specs.declared.frame.Purpose.TheVariants.{Record, Close}
use Rattle.nested_writer.specs.declared.frame.Progress.{Progress}
use Rattle.nested_writer.specs.declared.frame.Progress.TheVariants.{Waiting, Through, Reserved, Left}
use Rattle.nested_writer.specs.declared.frame.Frame.{Frame}
use Rattle.nested_writer.specs.Stack.{Stack, tail_fill, kind_of, state_of}
use Rattle.nested_writer.specs.Calls.{after_leave}
use Rattle.nested_writer.specs.Ends.{MayEnd, MayEndTop, MayNotEndTop, HasEnded, IsEnd}
use Rattle.nested_writer.specs.IsStack.{IsOpenPage, is_tail, is_older, IsUnwritten, StandsAt, FramesStand, IsStack}
use Rattle.ring_frames.specs.declared.answer.Answer.TheVariants.{Refused, Ended as HasEndedSo}
use Rattle.ring_frames.specs.declared.phase.Phase.{Phase}
use Rattle.ring_frames.specs.Value.{FramesValue}
use Rattle.ring_frames.specs.AreFrames.{frames_in_phases, NotedAlike, AreNotedAlike, AreFrames}
use Rattle.ring_frames.specs.Answers.{open_page, bytes_of_progress, top_bytes, refusal_of, IsAnswerOf}
use Rattle.ring_frames.specs.Steps.{IsPrivateStep}
use Rattle.ring_frames.proofs.Privately.{privately}
use Rattle.ring_frames.proofs.Left.{tops_are, left_value, left_shown}

-- a frame that is through doesn't stay
through_not : (purpose : Purpose) (noted : ℕ) (phase : Phase) → NotedAlike purpose (Through noted) phase → ⊥
through_not (Record moment len) noted phase alike = alike
through_not Close noted phase alike = alike

-- ---- the bytes in a slot

-- the page of an open fill, found by its number
pub page_found : (s : Stack) (fill : ℕ) (page : Contents) → s.tail.fill ≡ tail_fill s
    → IsOpenPage s.done s.older s.tail fill page → open_page s fill ≡ page
page_found s fill page tail_is (is_tail at is) = cond-true _ _ _ (eq-eqb fill s.tail.fill (at ∙ sym tail_is)) ∙ sym is
page_found s fill page tail_is (is_older k at is) =
    let inside = slice_get_within s.older k page is in
    let there : fill - s.done ≡ k = omega arith in
    cond-false _ _ _ (ne_eqb fill s.tail.fill (λ same. omega (arith, same, tail_is)))
    ∙ ap (λ (j : ℕ). get_or s.older j s.tail) there
    ∙ get_or_from_slice_get s.older k page s.tail is

-- ---- the step

-- the frame on top has reserved this, and its payload is in its slot
module _ (n size start : ℕ) (v : FramesValue) (c : Core) (k : AreFrames n size start v c) (top : Frame)
    (frames : List Frame) (slot : Slot) (stack_is : v.stack.frames ≡ top ∷ frames) (has : top.progress ≡ Reserved slot)
    (frame : ModelFrame) (below : List ModelFrame) (model_is : c.frames ≡ frame ∷ below) where
  abbrev bytes : List ℕ
  bytes = top_bytes v.stack v.stack.frames

  pub stands : (moment : ℕ) × (len : ℕ) × (kind_of top.purpose ≡ for_record moment len)
      × IsUnwritten v.stack.done v.stack.older v.stack.tail (reserved_records c.history) len slot
  stands =
      let all =
      subst
      (FramesStand v.stack.size v.stack.done v.stack.older v.stack.tail (opens_of c.history)
      (reserved_records c.history) (is_wished c.history)) stack_is k.stack_is.holds.frames_are in
      subst
      (StandsAt v.stack.size v.stack.done v.stack.older v.stack.tail (opens_of c.history)
      (reserved_records c.history) (is_wished c.history) (kind_of top.purpose)) has all.1

  pub bytes_are : (page : Contents) → IsOpenPage v.stack.done v.stack.older v.stack.tail slot.fill page
      → bytes ≡ bytes_at slot.place.start slot.place.len page.bytes
  bytes_are page is = ap (top_bytes v.stack) stack_is ∙ ap (bytes_of_progress v.stack) has
      ∙ ap (λ (p : Contents). bytes_at slot.place.start slot.place.len p.bytes)
      (page_found v.stack slot.fill page k.stack_is.holds.tail_is.fill_is is)

  pub fills_slot : slot_len (length bytes) ≡ slot_len stands.1
  fills_slot =
      let (moment, len, kind, lies) = stands in
      let within = place-within lies.page.bytes slot.place.start slot.place.len lies.place.place in
      let long : length (bytes_at slot.place.start slot.place.len lies.page.bytes) ≡ slot_len len =
      length-take-le slot.place.len (drop slot.place.start lies.page.bytes)
      (omega (arith, length-drop slot.place.start lies.page.bytes)) ∙ lies.fills_slot in
      ap (λ (xs : List ℕ). slot_len (length xs)) (bytes_are lies.page lies.open_page) ∙ ap slot_len long
      ∙ slot_len-slot_len len

  end_is : model.Step n size c (model.ends bytes) (model.end_answer below)
      (model.after_leave c frame below (Some bytes))
  end_is =
      let (frame_is, below_is, same) = tops_are v c n size start top frames frame below k stack_is model_is in
      step_by (cases.end_step bytes frame below slot.number stands.0 stands.1 refl model_is
      (ap (λ (f : ModelFrame). f.state) frame_is ∙ ap state_of has)
      (ap (λ (f : ModelFrame). f.kind) frame_is ∙ stands.2) fills_slot refl refl)

  shown : (stack : Stack) → stack ≡ after_leave v.stack top frames → HasEnded v.stack (Reserved slot) stack
      → AreFrames n size start (left_value v stack) (model.after_leave c frame below (Some bytes))
  shown stack is has_events =
      let (moment, len, kind, lies) = stands in
      let kept : IsStack start (c.history ++ leave (Some bytes) ∷ []) stack =
      subst (λ (xs : List ℕ). IsStack start (c.history ++ leave (Some xs) ∷ []) stack)
      (sym (bytes_are lies.page lies.open_page))
      (has_events lies.page lies.open_page start c.history k.stack_is) in
      subst (λ (s : Stack). AreFrames n size start (left_value v s) (model.after_leave c frame below (Some bytes)))
      (sym is)
      (left_shown n size start v c top frames frame below (Some bytes) k stack_is model_is
      (subst (IsStack start (c.history ++ leave (Some bytes) ∷ [])) is kept))

  answered : (ended : Ended) (frames : List Frame) (phases : List Phase) → length phases ≡ length frames
      → (1 < suc (length frames) → ended ≡ Pending) → (suc (length frames) ≤ 1 → ended ≡ Full)
      → IsAnswerOf size (HasEndedSo ended) (model.end_answer (frames_in_phases frames phases))
  answered ended [] phases same pending full =
      subst (λ (e : Ended). IsAnswerOf size (HasEndedSo e) model.full) (sym (full (omega arith))) refl
  answered ended (g ∷ frames) [] same pending full = absurd (omega (arith, same))
  answered ended (g ∷ frames) (p ∷ phases) same pending full =
      subst (λ (e : Ended). IsAnswerOf size (HasEndedSo e) model.pending) (sym (pending (omega arith))) refl

  made : (ended : Ended) (stack : Stack) → (MayEndTop v.stack.frames → 1 < length v.stack.frames → ended ≡ Pending)
      → (MayEndTop v.stack.frames → length v.stack.frames ≤ 1 → ended ≡ Full) → stack ≡ after_leave v.stack top frames
      → HasEnded v.stack (Reserved slot) stack
      → IsPrivateStep n size start c (model.ends bytes) (HasEndedSo ended) (left_value v stack)
  made ended stack pending full is has_events =
      let (frame_is, below_is, same) = tops_are v c n size start top frames frame below k stack_is model_is in
      let may : MayEndTop v.stack.frames = subst MayEndTop (sym stack_is) (subst MayEnd (sym has) tt) in
      let deep : length v.stack.frames ≡ suc (length frames) = ap length stack_is in
      privately n size start (left_value v stack) c (model.ends bytes) (HasEndedSo ended) (model.end_answer below)
      (model.after_leave c frame below (Some bytes)) end_is tt
      (subst (λ (fs : List ModelFrame). IsAnswerOf size (HasEndedSo ended) (model.end_answer fs)) (sym below_is)
      (answered ended frames v.below same (λ many. pending may (omega (arith, deep, many)))
      (λ one. full may (omega (arith, deep, one)))))
      (shown stack is has_events)

-- the frames of the model, if one is on the stack
model_top : (frames : List Frame) (phase : Phase) (phases : List Phase) (top : Frame) (rest : List Frame)
    → frames ≡ top ∷ rest
    → (frame : ModelFrame) × (below : List ModelFrame) × (frames_in_phases frames (phase ∷ phases) ≡ frame ∷ below)
model_top frames phase phases top rest is = (_, _, ap (λ (fs : List Frame). frames_in_phases fs (phase ∷ phases)) is)

pub frame_ended : (n size start : ℕ) (v : FramesValue) (c : Core) (ended : Ended) (stack : Stack)
    → AreFrames n size start v c
    → (MayEndTop v.stack.frames → 1 < length v.stack.frames → ended ≡ Pending)
    → (MayEndTop v.stack.frames → length v.stack.frames ≤ 1 → ended ≡ Full)
    → IsEnd v.stack v.stack.frames stack
    → IsPrivateStep n size start c (model.ends (top_bytes v.stack v.stack.frames)) (HasEndedSo ended)
    (left_value v stack)
frame_ended n size start v c ended stack k pending full is = by_frames v.stack.frames refl
  where
    by_progress : (top : Frame) (rest : List Frame) → v.stack.frames ≡ top ∷ rest → (progress : Progress)
        → top.progress ≡ progress → stack ≡ after_leave v.stack top rest → HasEnded v.stack progress stack
        → NotedAlike top.purpose progress v.phase
        → IsPrivateStep n size start c (model.ends (top_bytes v.stack v.stack.frames)) (HasEndedSo ended)
        (left_value v stack)
    by_progress top rest stack_is (Waiting noted) has left has_events alike = absurd has_events
    by_progress top rest stack_is (Through noted) has left has_events alike =
        absurd (through_not top.purpose noted v.phase alike)
    by_progress top rest stack_is (Reserved slot) has left has_events alike =
        let (frame, below, model_is) = model_top v.stack.frames v.phase v.below top rest stack_is in
        made n size start v c k top rest slot stack_is has frame below (k.frames_are ∙ model_is) ended stack pending
        full left has_events
    by_progress top rest stack_is (Left noted) has left has_events alike = absurd has_events

    by_frames : (frames : List Frame) → v.stack.frames ≡ frames
        → IsPrivateStep n size start c (model.ends (top_bytes v.stack v.stack.frames)) (HasEndedSo ended)
        (left_value v stack)
    by_frames [] none = absurd (subst (λ (fs : List Frame). IsEnd v.stack fs stack) none is)
    by_frames (top ∷ rest) stack_is =
        let end = subst (λ (fs : List Frame). IsEnd v.stack fs stack) stack_is is in
        let alike = subst (λ (fs : List Frame). AreNotedAlike fs (v.phase ∷ v.below)) stack_is k.noted in
        by_progress top rest stack_is top.progress refl end.0 end.1 alike.0

-- ---- refusals

pub end_refused : (n size start : ℕ) (v : FramesValue) (c : Core) (fault : WriteFault) → AreFrames n size start v c
    → (v.stack.frames ≡ [] → fault ≡ NoFrame)
    → (MayNotEndTop v.stack.frames → fault ≡ NotReserved)
    → (MayEndTop v.stack.frames → ⊥)
    → IsPrivateStep n size start c (model.ends (top_bytes v.stack v.stack.frames)) (Refused fault) v
end_refused n size start v c fault k none early may = by_frames v.stack.frames refl
  where
    event : model.Event
    event = model.ends (top_bytes v.stack v.stack.frames)

    refused_for : (why : WriteFault) → fault ≡ why → model.Step n size c event (model.refused (refusal_of why)) c
        → IsPrivateStep n size start c event (Refused fault) v
    refused_for why is step =
        privately n size start v c event (Refused fault) (model.refused (refusal_of why)) c step tt
        (ap (λ (f : WriteFault). model.refused (refusal_of f)) (sym is)) k

    without : (progress : Progress) → (MayEnd progress → ⊥) → number_of (state_of progress) ≡ None
    without (Waiting noted) may = refl
    without (Through noted) may = refl
    without (Reserved slot) may = absurd (may tt)
    without (Left noted) may = refl

    by_frames : (frames : List Frame) → v.stack.frames ≡ frames → IsPrivateStep n size start c event (Refused fault) v
    by_frames [] is =
        refused_for NoFrame (none is)
        (step_by (cases.end_lacks (top_bytes v.stack v.stack.frames) refl
        (k.frames_are ∙ ap (λ (fs : List Frame). frames_in_phases fs (v.phase ∷ v.below)) is) refl refl))
    by_frames (top ∷ rest) is =
        let not_yet : MayEnd top.progress → ⊥ = λ can. may (subst MayEndTop (sym is) can) in
        let (frame, below, model_is) = model_top v.stack.frames v.phase v.below top rest is in
        let (frame_is, below_is, same) =
        tops_are v c n size start top rest frame below k is (k.frames_are ∙ model_is) in
        refused_for NotReserved (early (subst MayNotEndTop (sym is) not_yet))
        (step_by (cases.end_early (top_bytes v.stack v.stack.frames) frame below refl (k.frames_are ∙ model_is)
        (ap (λ (f : ModelFrame). number_of f.state) frame_is ∙ without top.progress not_yet) refl refl))
