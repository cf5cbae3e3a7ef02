-- What whole calls append to the history: `finish_top`, and `write`.
use Rattle.std.proofs.Common.{◌≡◌, ℕ, ◌⊎◌, List, [], ◌∷◌, ◌++◌, length, Some, None, refl, sym, ap, ◌∙◌, subst, inl, inr}
use Rattle.std.proofs.Common.{⊎_elim, ◌+◌, arith, append_assoc, append-nil}
use Rattle.trace_model.specs.declared.numbers.RecordNo.{RecordNo}
use Rattle.trace_model.specs.Words.{padded}
use Rattle.trace_model.specs.Packing.{IsPacked}
use Rattle.trace_model.specs.History.{IsHistory, HistoryEvent, push, reserve, leave, Reservation, reservation_for}
use Rattle.trace_model.specs.History.{record_frame, records_with_payload, WriterState, writer_after, reserved_records}
use Rattle.trace_model.specs.Frames.{Purpose, for_record, for_close, Progress, waiting, left, Frame}
use Rattle.trace_model.specs.Frames as frames_model
use Rattle.trace_model.specs.Ring.{Core}
use Rattle.trace_model.specs.Steps as model
use Rattle.trace_model.proofs.histories.HistoryPrefixes.{writer-append}
use Rattle.trace_model.proofs.steps.StepSound.{cases_of}
use Rattle.ring_model.specs.FrameOutcomes.{IsReserving, IsLeaving}
use Rattle.ring_model.proofs.contents.PackedRuns.{runs_packed}
use Rattle.ring_model.proofs.partition.RingsKept.{reached_kept}
use Rattle.nested_writer.specs.declared.fault.WriteFault.{WriteFault}
use Rattle.nested_writer.specs.declared.stack.leave.Ended.{Ended as How}
use Rattle.nested_writer.specs.declared.stack.leave.Ended.TheVariants.{Pending, Full}
use Rattle.nested_writer.proofs.AtOnce.{padded_twice as twice}
use Rattle.ring_frames.specs.Answers.{refusal_of}
use Rattle.ring_frames.specs.declared.answer.Answer.{Answer}
use Rattle.ring_frames.specs.declared.answer.Answer.TheVariants.{Pushed, Going, Reserved, Ended, Refused}
use Rattle.ring_steps.specs.declared.rule.Shape.{Shape}
use Rattle.ring_steps.specs.Views.{Writing}
use Rattle.ring_shared.specs.Calls.{IsWriter, IsCall}
use Rattle.ring_shared.specs.Laws.{events_of_refusal}
use Rattle.ring_shared.specs.Finishing.{MakesSteps, at_once, one_more, Reserves, Leaves, is_gone, was_refused}
use Rattle.ring_shared.specs.WholeWrites.{GoesAway, IsRefusedPartWay}
use Rattle.ring_shared.specs.WholeLaws.{AreFills, AreForReader, FinishesReserve, FinishesRefused, FinishesClose}
use Rattle.ring_shared.specs.WholeLaws.{FinishesLeft, WritesAppend, RefusedWritesAppend, written_record, WritesReserve}
use Rattle.ring_shared.specs.WholeLaws.{RefusedWritesReserveNone, RefusedWritesKeepFrames, PaddedTwice}
use Rattle.ring_shared.specs.WholeLaws.{WritersHaveHistories}
use Rattle.ring_shared.proofs.CallsAppend.{pushes_append, ends_append, reservations_append, refusals_append}
use Rattle.ring_shared.proofs.Depths.{depth_is}
use Rattle.ring_shared.proofs.Finishes.{IsStillReserving, reserving_first, reserving_on}
use Rattle.ring_shared.proofs.PushedEnded.{IsPushed, push_answers}
use Rattle.ring_shared.proofs.Settles.{done_there}
use Rattle.ring_shared.proofs.StepEvents.{has_events, fills_then, fills_keep, reader_keeps, fills_joined, reader_joined}
use Rattle.ring_shared.proofs.StepEvents.{history_then, reserving_waits, LeftOrGone, has_left, has_gone, CloseStep}
use Rattle.ring_shared.proofs.StepEvents.{waits_on, closes, going_fills, left_step, close_step, refused_step}
use Rattle.ring_shared.proofs.WholeWrites.{HasBegun, has_begun, finished_reserving, finished_leaving, reserved_so}
use Rattle.ring_shared.proofs.WholeWrites.{HasTopRecord, HasReservedTop, left_full}

-- ---- a record frame

module _ (shape : Shape) (frame : Frame) (below : List Frame) where
  -- it has gone on, and begun fills at most
  record Waits (before between : Writing) : Type 0 where
    going_on : IsStillReserving shape frame.kind below before between
    fills : List HistoryEvent
    are : AreFills fills
    history_is : between.history ≡ before.history ++ fills

  waits_so : (before between : Writing) → before.frames ≡ frame ∷ below → IsReserving frame.kind frame.state
      → MakesSteps shape before between → Waits before between
  waits_so before _ top is at_once =
      record {
        going_on = reserving_first shape frame below before top is;
        fills = [];
        are = tt;
        history_is = sym (append-nil before.history);
      }
  waits_so before _ top is (one_more between after goes call) =
      let w = waits_so before between top is goes in
      let (more, are, h) =
      going_fills shape between after Going w.going_on.frame below w.going_on.top call w.going_on.reserves refl in
      record {
        going_on = reserving_on shape frame.kind below before between after Going w.going_on call refl;
        fills = w.fills ++ more;
        are = fills_joined w.fills more w.are are;
        history_is = history_then before.history between.history after.history w.fills more w.history_is h;
      }

  module _ (before after : Writing) (top : before.frames ≡ frame ∷ below) (is : IsReserving frame.kind frame.state)
    where
      pub record_reserves : (number : RecordNo) → Reserves shape frame.kind below before (Reserved number) after
          → (fills : List HistoryEvent) × AreFills fills × (number.0 ≡ length (reserved_records before.history))
          × (after.history ≡ before.history ++ (fills ++ reserve ∷ []))
      record_reserves number r =
          let w = waits_so before r.between top is r.goes in
          let (at, h) =
          reservations_append shape r.between w.going_on.frame below number after w.going_on.top
          (reserving_waits w.going_on.frame.kind w.going_on.frame.state w.going_on.reserves) r.last in (
            w.fills,
            w.are,
            at ∙ ap (λ (h : List HistoryEvent). length (reserved_records h)) w.history_is
                ∙ ap (λ (v : WriterState). length v.records)
                (writer-append record { stack = []; records = [] } before.history w.fills
                ∙ fills_keep (writer_after before.history) w.fills w.are),
            history_then before.history r.between.history after.history w.fills (reserve ∷ []) w.history_is h,
          )

      pub record_refused : (fault : WriteFault) → Reserves shape frame.kind below before (Refused fault) after
          → (fills : List HistoryEvent) × AreFills fills
          × (after.history ≡ before.history ++ (fills ++ leave None ∷ []))
          × LeftOrGone below (Refused fault) after.frames
      record_refused fault r =
          let w = waits_so before r.between top is r.goes in
          let h = refusals_append shape r.between model.steps fault after r.last in (
            w.fills,
            w.are,
            history_then before.history r.between.history after.history w.fills (leave None ∷ []) w.history_is
                (h ∙ ap (λ (fs : List Frame). r.between.history ++ events_of_refusal model.steps fs) w.going_on.top),
            refused_step shape r.between after fault w.going_on.frame below w.going_on.top r.last w.going_on.reserves,
          )

-- ---- a frame that has left

module _ (shape : Shape) (below : List Frame) where
  not_gone : (frame : Frame) (frames : List Frame) → frames ≡ frame ∷ below → frames ≡ below → ⊥
  not_gone frame frames top gone = let same = ap (length {A = Frame}) (sym gone ∙ top) in omega arith

  still_left : (result : Answer) (frames : List Frame) (frame : Frame) → LeftOrGone below result frames
      → frames ≡ frame ∷ below → frame.state ≡ left
  still_left result frames frame (has_left next at s) top = let both : frame ∷ below ≡ next ∷ below = sym top ∙ at in
      let same : frame ≡ next = cc in
      ap (λ (f : Frame). f.state) same ∙ s
  still_left result frames frame (has_gone other gone) top = absurd (not_gone frame frames top gone)

  -- what a frame that has left appends
  abbrev ActsForReader : Writing → Writing → Type 0
  ActsForReader before after =
      (events : List HistoryEvent) × AreForReader events × (after.history ≡ before.history ++ events)

  acts_then : (before between after : Writing) → ActsForReader before between → ActsForReader between after
      → ActsForReader before after
  acts_then before between after (one, are, h) (two, and, more) = (
    one ++ two,
    reader_joined one two are and,
    history_then before.history between.history after.history one two h more,
  )

  -- it is still there, and has acted for the reader
  record Lingers (before between : Writing) : Type 0 where
    frame : Frame
    top : between.frames ≡ frame ∷ below
    state_is : frame.state ≡ left
    acts : ActsForReader before between

  lingers_on : (before between after : Writing) (result : Answer) → IsCall shape between model.steps result after
      → (result ≡ Going) ⊎ (after.frames ≡ below → ⊥) → Lingers before between → Lingers before after
  lingers_on before between after result call remains l =
      let (more, are, h, how) = left_step shape between after result l.frame below l.top call l.state_is in
      on how (acts_then before between after l.acts (more, are, h)) remains
    where
      on : LeftOrGone below result after.frames → ActsForReader before after
          → (result ≡ Going) ⊎ (after.frames ≡ below → ⊥) → Lingers before after
      on (has_left next at s) acts remains = record { frame = next; top = at; state_is = s; acts = acts }
      on (has_gone other gone) acts (inl e) = absurd (other e)
      on (has_gone other gone) acts (inr some) = absurd (some gone)

  left_goes : (before between : Writing) (frame : Frame) → before.frames ≡ frame ∷ below → frame.state ≡ left
      → MakesSteps shape before between → Lingers before between
  left_goes before _ frame top s at_once =
      record { frame = frame; top = top; state_is = s; acts = ([], tt, sym (append-nil before.history)) }
  left_goes before _ frame top s (one_more between after goes call) =
      lingers_on before between after Going call (inl refl) (left_goes before between frame top s goes)

  lingers_off : (before between after : Writing) (result : Answer) → IsCall shape between model.steps result after
      → Lingers before between → ActsForReader before after
  lingers_off before between after result call l =
      let (more, are, h, how) = left_step shape between after result l.frame below l.top call l.state_is in
      acts_then before between after l.acts (more, are, h)

  pub left_leaves : (before : Writing) (answer : Answer) (after : Writing) (frame : Frame)
      → before.frames ≡ frame ∷ below → frame.state ≡ left → Leaves shape below before answer after
      → ActsForReader before after
  left_leaves before answer after frame top s (is_gone from mid end last goes call at) =
      lingers_off before mid after answer call (left_goes before mid frame top s goes)
  left_leaves before answer after frame top s
      (was_refused from mid next end other fault last goes call above leaves rest) =
      let l =
      lingers_on before mid next (Refused fault) call (inr (not_gone other next.frames above))
      (left_goes before mid frame top s goes) in
      acts_then before next after l.acts (left_leaves next last after l.frame l.top l.state_is rest)

  -- ---- a close frame

  -- what it appends
  abbrev Closes : Writing → Writing → Type 0
  Closes before after =
      (fills for_reader : List HistoryEvent) × AreFills fills × AreForReader for_reader
      × (after.history ≡ before.history ++ ((fills ++ leave None ∷ []) ++ for_reader))

  -- it waits on
  record WaitsOn (before between : Writing) : Type 0 where
    frame : Frame
    top : between.frames ≡ frame ∷ below
    kind_is : frame.kind ≡ for_close
    state_is : frame.state ≡ waiting
    history_is : between.history ≡ before.history

  -- it has left, and is still there
  record HasClosed (before between : Writing) : Type 0 where
    frame : Frame
    top : between.frames ≡ frame ∷ below
    state_is : frame.state ≡ left
    acts : Closes before between

  closes_then : (before between after : Writing) → Closes before between → ActsForReader between after
      → Closes before after
  closes_then before between after (fills, for_reader, are, reads, h) (more, and, next) = (
    fills,
    for_reader ++ more,
    are,
    reader_joined for_reader more reads and,
    history_then before.history between.history after.history ((fills ++ leave None ∷ []) ++ for_reader) more h next
        ∙ ap (λ (l : List HistoryEvent). before.history ++ l) (append_assoc (fills ++ leave None ∷ []) for_reader more),
  )

  closes_now : (before between after : Writing) (fills : List HistoryEvent) → between.history ≡ before.history
      → AreFills fills → after.history ≡ between.history ++ (fills ++ leave None ∷ []) → Closes before after
  closes_now before between after fills same are h = (
    fills,
    [],
    are,
    tt,
    h ∙ ap (λ (x : List HistoryEvent). x ++ (fills ++ leave None ∷ [])) same
        ∙ ap (λ (l : List HistoryEvent). before.history ++ l) (sym (append-nil (fills ++ leave None ∷ []))),
  )

  closing_on : (before between after : Writing) (result : Answer) → IsCall shape between model.steps result after
      → (result ≡ Going) ⊎ (after.frames ≡ below → ⊥) → WaitsOn before between ⊎ HasClosed before between
      → WaitsOn before after ⊎ HasClosed before after
  closing_on before between after result call remains (inl w) =
      on (close_step shape between after result w.frame below w.top call w.kind_is w.state_is) remains
    where
      left_so : Closes before after → LeftOrGone below result after.frames
          → (result ≡ Going) ⊎ (after.frames ≡ below → ⊥) → HasClosed before after
      left_so acts (has_left next at s) remains = record { frame = next; top = at; state_is = s; acts = acts }
      left_so acts (has_gone other gone) (inl e) = absurd (other e)
      left_so acts (has_gone other gone) (inr some) = absurd (some gone)

      on : CloseStep below between result after → (result ≡ Going) ⊎ (after.frames ≡ below → ⊥)
          → WaitsOn before after ⊎ HasClosed before after
      on (waits_on next at k s h) remains =
          inl record { frame = next; top = at; kind_is = k; state_is = s; history_is = h ∙ w.history_is }
      on (closes fills are h how) remains =
          inr (left_so (closes_now before between after fills w.history_is are h) how remains)
  closing_on before between after result call remains (inr t) =
      let l =
      lingers_on between between after result call remains
      record {
        frame = t.frame;
        top = t.top;
        state_is = t.state_is;
        acts = ([], tt, sym (append-nil between.history));
      } in
      inr
      record {
        frame = l.frame;
        top = l.top;
        state_is = l.state_is;
        acts = closes_then before between after t.acts l.acts;
      }

  close_goes : (before between : Writing) (frame : Frame) → before.frames ≡ frame ∷ below → frame.kind ≡ for_close
      → frame.state ≡ waiting → MakesSteps shape before between → WaitsOn before between ⊎ HasClosed before between
  close_goes before _ frame top k s at_once =
      inl record { frame = frame; top = top; kind_is = k; state_is = s; history_is = refl }
  close_goes before _ frame top k s (one_more between after goes call) =
      closing_on before between after Going call (inl refl) (close_goes before between frame top k s goes)

  closing_off : (before between after : Writing) (result : Answer) → IsCall shape between model.steps result after
      → after.frames ≡ below → WaitsOn before between ⊎ HasClosed before between → Closes before after
  closing_off before between after result call gone (inl w) =
      by (close_step shape between after result w.frame below w.top call w.kind_is w.state_is)
    where
      by : CloseStep below between result after → Closes before after
      by (waits_on next at k s h) = absurd (not_gone next after.frames at gone)
      by (closes fills are h how) = closes_now before between after fills w.history_is are h
  closing_off before between after result call gone (inr t) =
      let (more, are, h, how) = left_step shape between after result t.frame below t.top call t.state_is in
      closes_then before between after t.acts (more, are, h)

  same_front : (before between after : Writing) → between.history ≡ before.history → Closes between after
      → Closes before after
  same_front before between after same (fills, for_reader, are, reads, h) = (
    fills,
    for_reader,
    are,
    reads,
    h ∙ ap (λ (x : List HistoryEvent). x ++ ((fills ++ leave None ∷ []) ++ for_reader)) same,
  )

  pub close_leaves : (before : Writing) (answer : Answer) (after : Writing) (frame : Frame)
      → before.frames ≡ frame ∷ below → frame.kind ≡ for_close → frame.state ≡ waiting
      → Leaves shape below before answer after → Closes before after
  close_leaves before answer after frame top k s (is_gone from mid end last goes call at) =
      closing_off before mid after answer call at (close_goes before mid frame top k s goes)
  close_leaves before answer after frame top k s
      (was_refused from mid next end other fault last goes call above leaves rest) =
      ⊎_elim
      (λ (w : WaitsOn before next).
      same_front before next after w.history_is
      (close_leaves next last after w.frame w.top w.kind_is w.state_is rest))
      (λ (t : HasClosed before next).
      closes_then before next after t.acts (left_leaves next last after t.frame t.top t.state_is rest))
      (closing_on before mid next (Refused fault) call (inr (not_gone other next.frames above))
      (close_goes before mid frame top k s goes))

-- ---- `finish_top`

pub finishes_reserve : FinishesReserve
finishes_reserve shape before frame below number after top is f =
    record_reserves shape frame below before after top is number
    (finished_reserving shape before (Reserved number) after frame below top f is)

pub finishes_refused : FinishesRefused
finishes_refused shape before frame below fault after top is f =
    let (fills, are, h, how) =
    record_refused shape frame below before after top is fault
    (finished_reserving shape before (Refused fault) after frame below top f is) in
    (fills, are, h)

pub finishes_close : FinishesClose
finishes_close shape before frame below result after top k s f =
    close_leaves shape below before result after frame top k s
    (finished_leaving shape before result after frame below top f
    (subst (IsLeaving frame.kind) (sym s) (subst (λ (x : Purpose). IsLeaving x waiting) (sym k) tt)))

left_is_leaving : (kind : Purpose) (state : Progress) → state ≡ left → IsLeaving kind state
left_is_leaving (for_record moment len) state e = subst (IsLeaving (for_record moment len)) (sym e) tt
left_is_leaving for_close state e = subst (IsLeaving for_close) (sym e) tt

pub finishes_left : FinishesLeft
finishes_left shape before frame below result after top s f =
    left_leaves shape below before result after frame top s
    (finished_leaving shape before result after frame below top f (left_is_leaving frame.kind frame.state s))

-- ---- `write`

after_end : (shape : Shape) (reserved_as ended after : Writing) (payload : List ℕ) (how : How)
    → HasReservedTop reserved_as.frames → IsCall shape reserved_as (model.ends payload) (Ended how) ended
    → GoesAway shape ended how after
    → (for_reader : List HistoryEvent) × AreForReader for_reader × (after.history ≡ ended.history ++ for_reader)
after_end shape reserved_as ended after payload Pending t call same =
    ([], tt, ap (λ (w : Writing). w.history) same ∙ sym (append-nil ended.history))
after_end shape reserved_as ended after payload Full t call (answer, leaves) =
    let (frame, top, s) = left_full shape reserved_as ended payload (Ended Full) call t refl in
    left_leaves shape [] ended answer after frame top s leaves

in_order : (history fills for_reader : List HistoryEvent) (first last : HistoryEvent)
    → history ++ (((first ∷ (fills ++ reserve ∷ [])) ++ last ∷ []) ++ for_reader)
    ≡ history ++ first ∷ (fills ++ reserve ∷ last ∷ for_reader)
in_order history fills for_reader first last =
    ap (λ (l : List HistoryEvent). history ++ first ∷ l)
    (append_assoc (fills ++ reserve ∷ []) (last ∷ []) for_reader
    ∙ append_assoc fills (reserve ∷ []) (last ∷ for_reader))

pub writes_append : WritesAppend
writes_append shape before moment payload after w =
    let begun : HasBegun moment (length payload) before w.pushed =
    (has_begun shape before w.pushed moment (length payload) Pushed w.push (λ (fault, e). cc)).0 in
    let (fills, are, at, reserves) =
    record_reserves shape begun.frame before.frames w.pushed w.reserved begun.top begun.reserves w.number
    (subst (λ (k : Purpose). Reserves shape k before.frames w.pushed (Reserved w.number) w.reserved) (sym begun.kind_is)
    w.reserve) in
    let t : HasTopRecord (for_record moment (length payload)) before.frames w.reserved.frames =
    (reserved_so (for_record moment (length payload)) before.frames (Reserved w.number) w.reserved.frames w.reserve.ends
    (λ (fault, e). cc)).0 in
    let (for_reader, reads, acts) = after_end shape w.reserved w.ended after (padded payload) w.how
    record { frame = t.next; below = before.frames; number = t.number; top = t.top; state_is = t.state_is } w.end
    w.goes in
    let two =
    history_then before.history w.pushed.history w.reserved.history (push moment (length payload) ∷ [])
    (fills ++ reserve ∷ []) (pushes_append shape before moment (length payload) w.pushed w.push) reserves in
    let three =
    history_then before.history w.reserved.history w.ended.history
    (push moment (length payload) ∷ (fills ++ reserve ∷ [])) (leave (Some (padded payload)) ∷ []) two
    (ends_append shape w.reserved (padded payload) w.how w.ended w.end) in
    let four =
    history_then before.history w.ended.history after.history
    ((push moment (length payload) ∷ (fills ++ reserve ∷ [])) ++ leave (Some (padded payload)) ∷ []) for_reader
    three acts in (
      fills,
      for_reader,
      are,
      reads,
      four ∙ in_order before.history fills for_reader (push moment (length payload)) (leave (Some (padded payload))),
    )

pushed_and_refused : (shape : Shape) (before : Writing) (moment len : ℕ) (fault : WriteFault) (after : Writing)
    → IsRefusedPartWay shape before moment len fault after
    → (fills for_reader : List HistoryEvent) × AreFills fills × AreForReader for_reader
    × (after.history ≡ before.history ++ push moment len ∷ (fills ++ leave None ∷ for_reader))
pushed_and_refused shape before moment len fault after r =
    let begun : HasBegun moment len before r.pushed =
    (has_begun shape before r.pushed moment len Pushed r.push (λ (f, e). cc)).0 in
    let (fills, are, refuses, how) =
    record_refused shape begun.frame before.frames r.pushed r.refused begun.top begun.reserves fault
    (subst (λ (k : Purpose). Reserves shape k before.frames r.pushed (Refused fault) r.refused) (sym begun.kind_is)
    r.reserve) in
    let (for_reader, reads, acts) = rest how r.goes in
    let two =
    history_then before.history r.pushed.history r.refused.history (push moment len ∷ []) (fills ++ leave None ∷ [])
    (pushes_append shape before moment len r.pushed r.push) refuses in
    let three =
    history_then before.history r.refused.history after.history (push moment len ∷ (fills ++ leave None ∷ []))
    for_reader two acts in (
      fills,
      for_reader,
      are,
      reads,
      three
          ∙ ap (λ (l : List HistoryEvent). before.history ++ push moment len ∷ l)
          (append_assoc fills (leave None ∷ []) for_reader),
    )
  where
    rest : LeftOrGone before.frames (Refused fault) r.refused.frames
        → (after ≡ r.refused)
        ⊎ ((frame : Frame) × (answer : Answer) × (r.refused.frames ≡ frame ∷ before.frames)
        × IsLeaving frame.kind frame.state × Leaves shape before.frames r.refused answer after)
        → (for_reader : List HistoryEvent) × AreForReader for_reader × (after.history ≡ r.refused.history ++ for_reader)
    rest how (inl same) = ([], tt, ap (λ (w : Writing). w.history) same ∙ sym (append-nil r.refused.history))
    rest how (inr (frame, answer, top, leaves, all)) =
        left_leaves shape before.frames r.refused answer after frame top
        (still_left shape before.frames (Refused fault) r.refused.frames frame how top) all

pub refused_writes_append : RefusedWritesAppend
refused_writes_append shape before moment len fault after (inl turned) =
    inl (refusals_append shape before (model.pushes moment len) fault after turned ∙ append-nil before.history)
refused_writes_append shape before moment len fault after (inr r) =
    inr (pushed_and_refused shape before moment len fault after r)

-- a push that is refused leaves the frames as they are
refused_push : (shape : Shape) (before : Writing) (moment len : ℕ) (fault : WriteFault) (after : Writing)
    → IsCall shape before (model.pushes moment len) (Refused fault) after → after.frames ≡ before.frames
refused_push shape before moment len fault after call =
    by (push_answers shape.pages shape.size call.core moment len call.answer call.next (cases_of call.step))
  where
    by : IsPushed moment len call.answer call.core.frames call.next.frames
        ⊎ ((why : frames_model.WriteFault) × (call.answer ≡ model.refused why) × (call.next ≡ call.core))
        → after.frames ≡ before.frames
    by (inl p) =
        absurd (let both : model.refused (refusal_of fault) ≡ model.pushed = sym call.reports ∙ p.answer_is in cc)
    by (inr (why, denied, same)) =
        ap (λ (w : Writing). w.frames) (sym call.after_is) ∙ ap (λ (d : Core). d.frames) same
        ∙ ap (λ (w : Writing). w.frames) call.before_is

pub refused_writes_keep_frames : RefusedWritesKeepFrames
refused_writes_keep_frames shape before moment len fault after (inl turned) =
    refused_push shape before moment len fault after turned
refused_writes_keep_frames shape before moment len fault after (inr r) = r.frames

-- ---- the reserved records

pub padded_twice : PaddedTwice
padded_twice payload = twice payload

-- the last record gets its bytes
last_written : (rs : List Reservation) (r : Reservation) (payload : List ℕ)
    → records_with_payload (Some (length rs)) (Some payload) (rs ++ r ∷ [])
    ≡ rs ++ record r { bytes = Some (padded payload) } ∷ []
last_written [] r payload = refl
last_written (s ∷ rs) r payload = ap (λ (l : List Reservation). s ∷ l) (last_written rs r payload)

-- what a write makes of a writer's state
record_adds : (w : WriterState) (moment : ℕ) (payload : List ℕ) (fills for_reader : List HistoryEvent) → AreFills fills
    → AreForReader for_reader
    → (has_events w
    (push moment (length payload) ∷ (fills ++ reserve ∷ leave (Some (padded payload)) ∷ for_reader))).records
    ≡ w.records ++ written_record moment payload w.records ∷ []
record_adds w moment payload fills for_reader are reads =
    ap (λ (v : WriterState). v.records)
    (fills_then record { stack = record_frame moment (length payload) None ∷ w.stack; records = w.records } fills
    (reserve ∷ leave (Some (padded payload)) ∷ for_reader) are)
    ∙ ap (λ (v : WriterState). v.records) (reader_keeps _ for_reader reads)
    ∙ last_written w.records (reservation_for moment (length payload) w.records) (padded payload)
    ∙ ap
    (λ (bytes : List ℕ).
    w.records ++ record (reservation_for moment (length payload) w.records) { bytes = Some bytes } ∷ [])
    (twice payload)

refused_adds : (w : WriterState) (moment len : ℕ) (fills for_reader : List HistoryEvent) → AreFills fills
    → AreForReader for_reader
    → (has_events w (push moment len ∷ (fills ++ leave None ∷ for_reader))).records ≡ w.records
refused_adds w moment len fills for_reader are reads =
    ap (λ (v : WriterState). v.records)
    (fills_then record { stack = record_frame moment len None ∷ w.stack; records = w.records } fills
    (leave None ∷ for_reader) are)
    ∙ ap (λ (v : WriterState). v.records) (reader_keeps _ for_reader reads)

records_after : (front after own : List HistoryEvent) → after ≡ front ++ own
    → reserved_records after ≡ (has_events (writer_after front) own).records
records_after front after own is =
    ap reserved_records is
    ∙ ap (λ (v : WriterState). v.records) (writer-append record { stack = []; records = [] } front own)

pub writes_reserve : WritesReserve
writes_reserve shape before moment payload after w =
    let (fills, for_reader, are, reads, h) = writes_append shape before moment payload after w in
    records_after before.history after.history
    (push moment (length payload) ∷ (fills ++ reserve ∷ leave (Some (padded payload)) ∷ for_reader)) h
    ∙ record_adds (writer_after before.history) moment payload fills for_reader are reads

pub refused_writes_reserve_none : RefusedWritesReserveNone
refused_writes_reserve_none shape before moment len fault after r =
    by (refused_writes_append shape before moment len fault after r)
  where
    by : (after.history ≡ before.history)
        ⊎ ((fills for_reader : List HistoryEvent) × AreFills fills × AreForReader for_reader
        × (after.history ≡ before.history ++ push moment len ∷ (fills ++ leave None ∷ for_reader)))
        → reserved_records after.history ≡ reserved_records before.history
    by (inl same) = ap reserved_records same
    by (inr (fills, for_reader, are, reads, h)) =
        records_after before.history after.history (push moment len ∷ (fills ++ leave None ∷ for_reader)) h
        ∙ refused_adds (writer_after before.history) moment len fills for_reader are reads

-- ---- the writer's end

pub writers_have_histories : WritersHaveHistories
unfolding IsWriter
writers_have_histories v w =
    let kept = reached_kept v.shape.pages v.shape.size v.shape.start w.core w.reached in
    let same : w.core.history ≡ v.part.history = ap (λ (p : Writing). p.history) w.part_is in record {
      allowed = subst IsHistory same kept.history.allowed;
      packed =
          subst (λ (h : List HistoryEvent). IsPacked h v.shape.size) same
          (runs_packed v.shape.pages v.shape.size v.shape.start w.core kept);
      done_is = sym (done_there v w);
      depth_is = depth_is v w;
      at_rest = λ none.
          sym (ap (λ (p : Writing). p.done + 1) w.part_is)
          ∙ kept.stack.at_rest (ap (λ (p : Writing). p.frames) w.part_is ∙ none)
          ∙ ap (λ (p : Writing). p.opened) w.part_is;
    }
