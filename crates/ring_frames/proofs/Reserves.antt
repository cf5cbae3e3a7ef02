-- The private step of a frame at the tail: its record is reserved, or there is nothing to close; or a page is needed,
-- and refused or noted.
use Rattle.std.proofs.Common.{◌≡◌, ◌≢◌, ℕ, ◌+◌, ◌<◌, ◌≤◌, List, [], ◌∷◌, ◌++◌, length, ◌⊎◌, Option, Some, None, refl}
use Rattle.std.proofs.Common.{sym, ap, ◌∙◌, subst, inl, inr}
use Rattle.std.specs.Prelude.{Ok, Err}
use Rattle.trace_model.specs.declared.limits.TheConstants.{LINK_FILLS}
use Rattle.trace_model.specs.History.{Reservation, reserve, leave, reservation_for, reserved_records}
use Rattle.trace_model.specs.Packing.{tail_of, FitsBehind}
use Rattle.trace_model.specs.Frames.{for_record, waiting, reserved, left, idle, looking, Frame as ModelFrame}
use Rattle.trace_model.specs.Frames as frames_model
use Rattle.trace_model.specs.Ring.{PageRecords, Core}
use Rattle.trace_model.specs.Steps as model
use Rattle.trace_model.proofs.steps.StepCases as cases
use Rattle.trace_model.proofs.steps.StepIs.{step_by}
use Rattle.ring_model.proofs.frames.StackSteps.{top_agrees}
use Rattle.ring_model.specs.Seats.{IsPrivate}
use Rattle.record_words.specs.declared.put.Place.{Place}
use Rattle.nested_writer.specs.declared.fault.WriteFault.{WriteFault}
use Rattle.nested_writer.specs.declared.fault.WriteFault.TheVariants.{TooDeep, TooLong, LateMoment, Crowded, Worn}
use Rattle.nested_writer.specs.declared.fault.WriteFault.TheVariants.{NoFrame, NotReserved}
use Rattle.nested_writer.specs.declared.stack.allot.Allot.TheVariants.{Fits, NeedsPage}
use Rattle.nested_writer.specs.declared.frame.Slot.{Slot}
use Rattle.nested_writer.specs.declared.frame.Purpose.{Purpose}
use Rattle.nested_writer.specs.declared.frame.Purpose.TheVariants.{Record, Close}
use Rattle.nested_writer.specs.declared.frame.Progress.{Progress}
use Rattle.nested_writer.specs.declared.frame.Progress.TheVariants.{Waiting, Through, Reserved, Left}
use Rattle.nested_writer.specs.declared.frame.Frame.{Frame}
use Rattle.nested_writer.specs.Stack.{Stack, opened, next_number, kind_of, state_of}
use Rattle.nested_writer.specs.Calls.{with_progress, after_leave, HasLeft, IsCrowded, ReservesRecord, IsTopSlot}
use Rattle.nested_writer.specs.Allotted.{HasEvents, first_try, HasFit, IsAllotted}
use Rattle.nested_writer.specs.Answered.{FitsTail, WantsFill, HasItsFill, IsAllotAnswer}
use Rattle.nested_writer.specs.Ends.{IsEnd}
use Rattle.ring_frames.specs.declared.answer.Answer.TheVariants.{Going, Reserved as ReservedAs, Refused}
use Rattle.ring_frames.specs.declared.phase.Phase.{Phase}
use Rattle.ring_frames.specs.declared.phase.Phase.TheVariants.{Idle, Looking}
use Rattle.ring_frames.specs.Phases.{left_answer}
use Rattle.ring_frames.specs.Value.{FramesValue, phase_of}
use Rattle.ring_frames.specs.AreFrames.{frames_in_phases, NotedAlike, AreNotedAlike, AreFrames, HasFrames}
use Rattle.ring_frames.specs.Answers.{refusal_of}
use Rattle.ring_frames.specs.Steps.{IsPrivateStep}
use Rattle.ring_frames.proofs.Privately.{kept_of, privately, top_is_private}
use Rattle.ring_frames.proofs.Reshown.{reshown}
use Rattle.ring_frames.proofs.Left.{tops_are, left_value, left_without}
use Rattle.ring_frames.proofs.Closing.{IsThrough, has_no_events, closed_shown}

-- a value with another stack, in this phase
abbrev pub at_phase : FramesValue → Stack → Phase → FramesValue
at_phase v stack phase = record v { stack = stack; phase = phase }

-- What is known of a close frame that waited and is through: the tail holds no record.
pub record IsClosing (v : FramesValue) (c : Core) (top : Frame) (rest : List Frame) (stack : Stack) : Type 0 where
  pub noted : Option ℕ
  pub waits : top.progress ≡ Waiting noted
  pub close : top.purpose ≡ Close
  pub nothing : tail_of c.history ≡ []
  pub through : IsThrough v.stack top rest noted stack

-- the frame on top has noted nothing
module _ (n size start : ℕ) (v : FramesValue) (c : Core) (core : HasFrames n size start v c) (resting : v.phase ≡ Idle)
    (top : Frame) (rest : List Frame) (stack_is : v.stack.frames ≡ top ∷ rest) where
  k : AreFrames n size start v c
  k = core.are

  abbrev frame : ModelFrame
  frame = record { kind = kind_of top.purpose; state = state_of top.progress; phase = idle }

  abbrev below : List ModelFrame
  below = frames_in_phases rest v.below

  model_is : c.frames ≡ frame ∷ below
  model_is =
      k.frames_are ∙ ap (λ (fs : List Frame). frames_in_phases fs (v.phase ∷ v.below)) stack_is
      ∙ ap (λ (p : Phase). frames_in_phases (top ∷ rest) (p ∷ v.below)) resting

  alike : NotedAlike top.purpose top.progress Idle
  alike =
      subst (NotedAlike top.purpose top.progress) resting
      (subst (λ (fs : List Frame). AreNotedAlike fs (v.phase ∷ v.below)) stack_is k.noted).0

  noted_below : AreNotedAlike rest v.below
  noted_below = (subst (λ (fs : List Frame). AreNotedAlike fs (v.phase ∷ v.below)) stack_is k.noted).1

  same : length v.below ≡ length rest
  same = (tops_are v c n size start top rest frame below k stack_is model_is).2

  -- a frame that has left closes fills
  stays : state_of top.progress ≡ left → ⊥
  stays is = left_rests is (top_agrees c frame below model_is (kept_of n size start v c core).stack).0
    where
      left_rests : state_of top.progress ≡ left
          → Rattle.ring_model.specs.KeptStack.MayBeIn (kind_of top.purpose) (state_of top.progress) idle → ⊥
      left_rests is may =
          subst
          (λ (st : frames_model.Progress). Rattle.ring_model.specs.KeptStack.MayBeIn (kind_of top.purpose) st idle)
          is may refl

  -- a step of a frame that rests touches no word
  own_step : IsPrivate c model.steps
  own_step = top_is_private c frame below model_is tt

  -- a step of one that waits
  waits_step : (answer : model.Answer) (after : Core) → state_of top.progress ≡ waiting
      → cases.ReserveStep n size c frame below answer after → model.Step n size c model.steps answer after
  waits_step answer after waits step =
      step_by (cases.frame_step frame below refl model_is
      (subst (λ (st : frames_model.Progress). cases.IdleStep n size c frame below st answer after) (sym waits)
      step))

  -- ---- it has its record

  pub keeps_record : (slot : Slot) → top.progress ≡ Reserved slot
      → IsPrivateStep n size start c model.steps (ReservedAs record { 0 = slot.number }) v
  keeps_record slot has =
      privately n size start v c model.steps _ (model.reserved_as slot.number) c
      (step_by (cases.frame_step frame below refl model_is
      (subst
      (λ (p : Progress). cases.IdleStep n size c frame below (state_of p) (model.reserved_as slot.number) c)
      (sym has) (refl, refl))))
      own_step refl core.are

  -- ---- it wants a page

  wants : (purpose : Purpose) (progress : Progress) → WantsFill v.stack c.history purpose progress
      → NotedAlike purpose progress Idle → (state_of progress ≡ waiting) × model.NeedsPage size c (kind_of purpose)
  wants (Record moment len) (Waiting noted) want agree = (
    refl,
    λ fits.
        want (subst
        (λ (s : ℕ).
        FitsBehind s (tail_of c.history) (reservation_for moment len (reserved_records c.history)))
        (sym k.size_is) fits),
  )
  wants Close (Waiting noted) want agree = (refl, want.0)
  wants (Record moment len) (Through noted) want agree = absurd want
  wants Close (Through noted) want agree = absurd agree
  wants (Record moment len) (Reserved slot) want agree = absurd want
  wants Close (Reserved slot) want agree = absurd want
  wants (Record moment len) (Left noted) want agree = absurd want
  wants Close (Left noted) want agree = absurd want

  wanted : WantsFill v.stack c.history top.purpose top.progress
      → (state_of top.progress ≡ waiting) × model.NeedsPage size c frame.kind
  wanted want = wants top.purpose top.progress want alike

  -- all pages are open, or one is free
  crowded_is : IsCrowded v.stack → c.opened ≡ c.done + n
  crowded_is full = k.opened_is ∙ full ∙ (λ i. sym k.done_is i + k.pages_is i)

  free_is : (IsCrowded v.stack → ⊥) → c.opened ≢ c.done + n
  free_is free full = free (sym k.opened_is ∙ full ∙ (λ i. k.done_is i + sym k.pages_is i))

  notes_alike : (purpose : Purpose) → NotedAlike purpose (Waiting (Some (opened v.stack))) (Looking (opened v.stack))
  notes_alike (Record moment len) = λ o is. is
  notes_alike Close = refl

  noted_top : (stack : Stack) (noted : ℕ) → WantsFill v.stack c.history top.purpose top.progress
      → (IsCrowded v.stack → ⊥) → opened v.stack + v.stack.pages < LINK_FILLS
      → stack ≡ with_progress v.stack top rest (Waiting (Some (opened v.stack)))
      → HasEvents v.stack [] stack
      → noted ≡ opened v.stack
      → IsPrivateStep n size start c model.steps Going (at_phase v stack (Looking noted))
  noted_top stack noted want free fills is has_events noted_is =
      let (waits, needs) = wanted want in
      let few : c.opened + n < LINK_FILLS =
      subst (λ (m : ℕ). m < LINK_FILLS) (λ i. sym k.opened_is i + k.pages_is i) fills in
      let frames_is : stack.frames ≡ record top { progress = Waiting (Some (opened v.stack)) } ∷ rest =
      ap (λ (s : Stack). s.frames) is in
      privately n size start (at_phase v stack (Looking noted)) c model.steps Going model.going
      (model.in_phase c frame below (looking c.opened))
      (waits_step model.going (model.in_phase c frame below (looking c.opened)) waits
      (cases.notes needs (free_is free) few refl refl))
      own_step
      refl
      (reshown n size start v c stack (Looking noted) v.below (record frame { phase = looking c.opened } ∷ below)
      c.history c.held k record {
        pages_is = ap (λ (s : Stack). s.pages) is;
        size_is = ap (λ (s : Stack). s.size) is;
        done_is = ap (λ (s : Stack). s.done) is;
        opened_is = ap opened is;
        stack_is = has_no_events start c.history v.stack stack has_events k.stack_is;
        frames_are =
            (λ i. let f : ModelFrame =
            record {
              kind = kind_of top.purpose;
              state = waits i;
              phase = looking ((k.opened_is ∙ sym noted_is) i);
            } in
            f ∷ below) ∙ ap (λ (fs : List Frame). frames_in_phases fs (Looking noted ∷ v.below)) (sym frames_is);
        below_are =
            subst (λ (fs : List Frame). Rattle.ring_frames.specs.AreFrames.AreBelow fs v.below) (sym frames_is) same;
        noted =
            subst (λ (fs : List Frame). AreNotedAlike fs (Looking noted ∷ v.below)) (sym frames_is) (
              subst (λ (o : ℕ). NotedAlike top.purpose (Waiting (Some (opened v.stack))) (Looking o)) (sym noted_is)
                  (notes_alike top.purpose),
              noted_below,
            );
      })

  pub page_noted : (stack : Stack) (noted : ℕ) → IsAllotAnswer v.stack c.history v.stack.frames (Ok NeedsPage)
      → IsAllotted v.stack v.stack.frames (Ok NeedsPage) stack → noted ≡ opened stack
      → IsPrivateStep n size start c model.steps Going (at_phase v stack (Looking noted))
  page_noted stack noted answered allotted noted_is =
      let (want, free, fills) =
      subst (λ (fs : List Frame). IsAllotAnswer v.stack c.history fs (Ok NeedsPage)) stack_is answered in
      let (is, has_events) =
      subst (λ (fs : List Frame). IsAllotted v.stack fs (Ok NeedsPage) stack) stack_is allotted in
      noted_top stack noted want free fills is has_events (noted_is ∙ ap opened is)

  -- ---- it is refused

  refused_with : (stack : Stack) (fault : WriteFault) → (state_of top.progress ≡ waiting)
      → stack ≡ after_leave v.stack top rest → HasEvents v.stack (leave None ∷ []) stack
      → cases.ReserveStep n size c frame below (model.refused (refusal_of fault)) (model.after_leave c frame below None)
      → IsPrivateStep n size start c model.steps (Refused fault) (left_value v stack)
  refused_with stack fault waits is has_events step =
      privately n size start (left_value v stack) c model.steps (Refused fault) (model.refused (refusal_of fault))
      (model.after_leave c frame below None)
      (waits_step (model.refused (refusal_of fault)) (model.after_leave c frame below None) waits step)
      own_step
      refl
      (left_without n size start v c top rest frame below stack k stack_is model_is is
      (has_events start c.history k.stack_is))

  refused_top : (fault : WriteFault) (stack : Stack) → IsAllotAnswer v.stack c.history (top ∷ rest) (Err fault)
      → IsAllotted v.stack (top ∷ rest) (Err fault) stack
      → IsPrivateStep n size start c model.steps (Refused fault) (left_value v stack)
  refused_top Crowded stack (want, full) (is, has_events) =
      let (waits, needs) = wanted want in
      refused_with stack Crowded waits is has_events (cases.is_crowded needs (crowded_is full) refl refl)
  refused_top Worn stack (want, free, worn) (is, has_events) =
      let (waits, needs) = wanted want in
      refused_with stack Worn waits is has_events
      (cases.is_worn needs (free_is free)
      (subst (λ (m : ℕ). LINK_FILLS ≤ m) (λ i. sym k.opened_is i + k.pages_is i) worn) refl refl)
  refused_top NotReserved stack answered allotted = absurd (stays (left_is top.progress answered))
    where
      left_is : (progress : Progress) → HasLeft progress → state_of progress ≡ left
      left_is (Waiting noted) gone = absurd gone
      left_is (Through noted) gone = absurd gone
      left_is (Reserved slot) gone = absurd gone
      left_is (Left noted) gone = refl
  refused_top NoFrame stack answered allotted = absurd answered
  refused_top TooDeep stack answered allotted = absurd answered
  refused_top TooLong stack answered allotted = absurd answered
  refused_top LateMoment stack answered allotted = absurd answered

  pub refused : (fault : WriteFault) (stack : Stack) → IsAllotAnswer v.stack c.history v.stack.frames (Err fault)
      → IsAllotted v.stack v.stack.frames (Err fault) stack
      → IsPrivateStep n size start c model.steps (Refused fault) (left_value v stack)
  refused fault stack answered allotted =
      refused_top fault stack
      (subst (λ (fs : List Frame). IsAllotAnswer v.stack c.history fs (Err fault)) stack_is answered)
      (subst (λ (fs : List Frame). IsAllotted v.stack fs (Err fault) stack) stack_is allotted)

  -- ---- its record is reserved, or there is nothing to close

  slot_is : (one other : Slot) → Reserved one ≡ Reserved other → one ≡ other
  slot_is one other e = cc

  -- the slot on top is that of the frame there
  same_slot : (stack : Stack) (t : Frame) (others : List Frame) (slot own : Slot) → IsTopSlot stack.frames slot
      → stack.frames ≡ t ∷ others → t.progress ≡ Reserved own → slot ≡ own
  same_slot stack t others slot own has frames_is t_has =
      slot_is slot own (sym (subst (λ (fs : List Frame). IsTopSlot fs slot) frames_is has) ∙ t_has)

  reserved_alike : (purpose : Purpose) (slot : Slot) → NotedAlike purpose (Reserved slot) v.phase
  reserved_alike (Record moment len) slot = resting
  reserved_alike Close slot = resting

  record_reserved : (moment len : ℕ) (place : Place) (stack : Stack) (slot : Slot)
      → kind_of top.purpose ≡ for_record moment len → state_of top.progress ≡ waiting
      → FitsTail v.stack c.history moment len → next_number v.stack ≡ length (reserved_records c.history)
      → ReservesRecord v.stack top rest moment len place stack
      → HasEvents v.stack (reserve ∷ []) stack
      → slot.number ≡ next_number v.stack
      → IsPrivateStep n size start c model.steps (ReservedAs record { 0 = slot.number }) (record v { stack = stack })
  record_reserved moment len place stack slot kind waits fits numbered is has_events slot_is =
      let number : ℕ = length (reserved_records c.history) in
      let r : Reservation = model.new_reservation c moment len in
      let after : Core = model.in_reserved (model.with_reservation c r) frame below number in
      let own : Slot =
      record {
        number = next_number v.stack;
        fill = Rattle.nested_writer.specs.Stack.tail_fill v.stack;
        place = place;
      } in
      let frames_is : stack.frames ≡ record top { progress = Reserved own } ∷ rest =
      ap (λ (s : Stack). s.frames) is.others in
      let tail : PageRecords = model.contents_of c (model.tail_page c) in
      let held : PageRecords = record { first = tail.first; records = tail.records ++ r ∷ [] } in
      privately n size start (record v { stack = stack }) c model.steps (ReservedAs record { 0 = slot.number })
      (model.reserved_as number) after
      (waits_step (model.reserved_as number) after waits
      (cases.reserves moment len r kind refl (subst (λ (s : ℕ). FitsBehind s (tail_of c.history) r) k.size_is fits)
      refl refl))
      own_step
      (ap model.reserved_as (sym (slot_is ∙ numbered)))
      (reshown n size start v c stack v.phase v.below (record frame { state = reserved number; phase = idle } ∷ below)
      (c.history ++ reserve ∷ []) (model.with_held c (model.tail_page c) held).held k record {
        pages_is = ap (λ (s : Stack). s.pages) is.others;
        size_is = ap (λ (s : Stack). s.size) is.others;
        done_is = ap (λ (s : Stack). s.done) is.others;
        opened_is = ap opened is.others;
        stack_is = has_events start c.history k.stack_is;
        frames_are =
            (λ i. let f : ModelFrame =
            record {
              kind = kind_of top.purpose;
              state = reserved (sym numbered i);
              phase = phase_of (sym resting i);
            } in
            f ∷ below) ∙ ap (λ (fs : List Frame). frames_in_phases fs (v.phase ∷ v.below)) (sym frames_is);
        below_are =
            subst (λ (fs : List Frame). Rattle.ring_frames.specs.AreFrames.AreBelow fs v.below) (sym frames_is) same;
        noted =
            subst (λ (fs : List Frame). AreNotedAlike fs (v.phase ∷ v.below)) (sym frames_is)
            (reserved_alike top.purpose own, noted_below);
      })

  kept_slot : (own : Slot) (stack : Stack) (slot : Slot) → top.progress ≡ Reserved own → stack ≡ v.stack
      → IsTopSlot stack.frames slot
      → IsPrivateStep n size start c model.steps (ReservedAs record { 0 = slot.number }) (record v { stack = stack })
  kept_slot own stack slot progress_is stays has =
      let same = same_slot stack top rest slot own has (ap (λ (s : Stack). s.frames) stays ∙ stack_is) progress_is in
      subst
      (λ (s : Stack).
      IsPrivateStep n size start c model.steps (ReservedAs record { 0 = slot.number }) (record v { stack = s }))
      (sym stays)
      (subst (λ (s : Slot). IsPrivateStep n size start c model.steps (ReservedAs record { 0 = s.number }) v) (sym same)
      (keeps_record own progress_is))

  kept_top : (own : Slot) (stack : Stack) → top.progress ≡ Reserved own → stack ≡ v.stack → IsTopSlot stack.frames own
  kept_top own stack progress_is stays =
      subst (λ (fs : List Frame). IsTopSlot fs own) (sym (ap (λ (s : Stack). s.frames) stays ∙ stack_is)) progress_is

  -- a frame that fits and has a slot then
  with_slot : (purpose : Purpose) (progress : Progress) (place : Place) (stack : Stack) (slot : Slot)
      → top.purpose ≡ purpose → top.progress ≡ progress → NotedAlike purpose progress Idle
      → HasItsFill v.stack c.history purpose progress → HasFit v.stack top rest purpose progress place stack
      → IsTopSlot stack.frames slot
      → IsPrivateStep n size start c model.steps (ReservedAs record { 0 = slot.number }) (record v { stack = stack })
  with_slot (Record moment len) (Waiting noted) place stack slot purpose_is progress_is agree fill fit has =
      record_reserved moment len place stack slot (ap kind_of purpose_is) (ap state_of progress_is) fill.0 fill.1 fit.0
      fit.1
      (ap (λ (s : Slot). s.number) (same_slot stack _ rest slot _ has (ap (λ (s : Stack). s.frames) fit.0.others) refl))
  with_slot Close (Waiting noted) place stack slot purpose_is progress_is agree fill fit has =
      absurd (not_both (subst (λ (fs : List Frame). IsTopSlot fs slot) (ap (λ (s : Stack). s.frames) fit.1) has))
    where
      not_both : Through (first_try v.stack (Waiting noted)) ≡ Reserved slot → ⊥
      not_both e = cc
  with_slot (Record moment len) (Through noted) place stack slot purpose_is progress_is agree fill fit has = absurd fit
  with_slot Close (Through noted) place stack slot purpose_is progress_is agree fill fit has = absurd agree
  with_slot (Record moment len) (Reserved own) place stack slot purpose_is progress_is agree fill fit has =
      kept_slot own stack slot progress_is fit.0 has
  with_slot Close (Reserved own) place stack slot purpose_is progress_is agree fill fit has =
      kept_slot own stack slot progress_is fit.0 has
  with_slot (Record moment len) (Left noted) place stack slot purpose_is progress_is agree fill fit has = absurd fit
  with_slot Close (Left noted) place stack slot purpose_is progress_is agree fill fit has = absurd fit

  -- ---- nothing is left to close

  begun_not : (noted : Option ℕ) → noted ≡ None
      → (tail_of c.history ≡ []) ⊎ Rattle.nested_writer.specs.Answered.IsBegunSince v.stack noted
      → tail_of c.history ≡ []
  begun_not noted none (inl nothing) = nothing
  begun_not noted none (inr begun) =
      absurd (subst (Rattle.nested_writer.specs.Answered.IsBegunSince v.stack) none begun)

  without_slot : (purpose : Purpose) (progress : Progress) (place : Place) (stack : Stack) → top.purpose ≡ purpose
      → top.progress ≡ progress → NotedAlike purpose progress Idle → HasItsFill v.stack c.history purpose progress
      → HasFit v.stack top rest purpose progress place stack → ((slot : Slot) → IsTopSlot stack.frames slot → ⊥)
      → IsClosing v c top rest stack
  without_slot (Record moment len) (Waiting noted) place stack purpose_is progress_is agree fill fit none =
      let own : Slot =
      record {
        number = next_number v.stack;
        fill = Rattle.nested_writer.specs.Stack.tail_fill v.stack;
        place = place;
      } in
      absurd (none own
      (subst (λ (fs : List Frame). IsTopSlot fs own) (sym (ap (λ (s : Stack). s.frames) fit.0.others)) refl))
  without_slot Close (Waiting noted) place stack purpose_is progress_is agree fill fit none = record {
    noted = noted;
    waits = progress_is;
    close = purpose_is;
    nothing = begun_not noted agree fill;
    through = (fit.1, fit.2);
  }
  without_slot (Record moment len) (Through noted) place stack purpose_is progress_is agree fill fit none = absurd fit
  without_slot Close (Through noted) place stack purpose_is progress_is agree fill fit none = absurd agree
  without_slot (Record moment len) (Reserved own) place stack purpose_is progress_is agree fill fit none =
      absurd (none own (kept_top own stack progress_is fit.0))
  without_slot Close (Reserved own) place stack purpose_is progress_is agree fill fit none =
      absurd (none own (kept_top own stack progress_is fit.0))
  without_slot (Record moment len) (Left noted) place stack purpose_is progress_is agree fill fit none = absurd fit
  without_slot Close (Left noted) place stack purpose_is progress_is agree fill fit none = absurd fit

  pub fits_slot : (place other : Place) (stack : Stack) (slot : Slot)
      → IsAllotAnswer v.stack c.history v.stack.frames (Ok (Fits other))
      → IsAllotted v.stack v.stack.frames (Ok (Fits place)) stack → IsTopSlot stack.frames slot
      → IsPrivateStep n size start c model.steps (ReservedAs record { 0 = slot.number }) (record v { stack = stack })
  fits_slot place other stack slot answered allotted has =
      with_slot top.purpose top.progress place stack slot refl refl alike
      (subst (λ (fs : List Frame). IsAllotAnswer v.stack c.history fs (Ok (Fits other))) stack_is answered)
      (subst (λ (fs : List Frame). IsAllotted v.stack fs (Ok (Fits place)) stack) stack_is allotted) has

  pub fits_close : (place : Place) (stack : Stack) → IsAllotAnswer v.stack c.history v.stack.frames (Ok (Fits place))
      → IsAllotted v.stack v.stack.frames (Ok (Fits place)) stack → ((slot : Slot) → IsTopSlot stack.frames slot → ⊥)
      → IsClosing v c top rest stack
  fits_close place stack answered allotted none =
      without_slot top.purpose top.progress place stack refl refl alike
      (subst (λ (fs : List Frame). IsAllotAnswer v.stack c.history fs (Ok (Fits place))) stack_is answered)
      (subst (λ (fs : List Frame). IsAllotted v.stack fs (Ok (Fits place)) stack) stack_is allotted) none

  pub nothing_found : (between stack : Stack) → IsClosing v c top rest between → IsEnd between between.frames stack
      → IsPrivateStep n size start c model.steps (left_answer v.below) (left_value v stack)
  nothing_found between stack closing ended =
      let (reports, shows) =
      closed_shown n size start v c top rest frame below closing.noted between stack k stack_is model_is
      closing.waits closing.through ended in
      privately n size start (left_value v stack) c model.steps (left_answer v.below) (model.leave_answer below)
      (model.after_leave c frame below None)
      (waits_step (model.leave_answer below) (model.after_leave c frame below None) (ap state_of closing.waits)
      (cases.finds_nothing (ap kind_of closing.close) closing.nothing refl refl))
      own_step
      reports shows
