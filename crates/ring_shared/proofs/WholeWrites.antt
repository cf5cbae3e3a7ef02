-- A record that is written whole: its parts, one after the other.
use Rattle.std.specs.Prelude.{Some, None, ◌⊎◌, ◌<◌, ◌≤◌}
use Rattle.std.proofs.Common.{◌≡◌, ◌≢◌, ℕ, List, [], ◌∷◌, length, refl, sym, ap, ◌∙◌, subst, inl, inr, arith}
use Rattle.trace_model.specs.Words.{slot_len, padded}
use Rattle.trace_model.specs.Frames.{Purpose, for_record, for_close, waiting, reserved, left, Frame}
use Rattle.trace_model.specs.Frames as frames_model
use Rattle.trace_model.specs.Steps as model
use Rattle.trace_model.proofs.steps.StepSound.{cases_of}
use Rattle.ring_model.specs.FrameOutcomes.{IsReserving, IsLeaving}
use Rattle.nested_writer.specs.declared.fault.WriteFault.{WriteFault}
use Rattle.nested_writer.specs.declared.frame.Slot.{Slot}
use Rattle.nested_writer.specs.declared.frame.Progress.{Progress}
use Rattle.nested_writer.specs.declared.frame.Progress.TheVariants.{Waiting, Through, Reserved as HasReserved, Left}
use Rattle.nested_writer.specs.declared.frame.Frame as stack
use Rattle.nested_writer.specs.declared.stack.leave.Ended.TheVariants.{Pending, Full}
use Rattle.nested_writer.specs.Lending.{with_slot}
use Rattle.nested_writer.specs.Stack.{state_of}
use Rattle.nested_writer.specs.Calls.{IsTopSlot}
use Rattle.ring_frames.specs.declared.answer.Answer.{Answer}
use Rattle.ring_frames.specs.declared.answer.Answer.TheVariants.{Pushed, Going, Reserved, Ended, Gone, Refused, Looking}
use Rattle.ring_frames.specs.declared.answer.Answer.TheVariants.{Empty, Moving, Taken, Wished}
use Rattle.ring_frames.specs.declared.phase.Phase.{Phase}
use Rattle.ring_frames.specs.Answers.{top_bytes}
use Rattle.ring_frames.specs.AreFrames.{frames_in_phases}
use Rattle.ring_frames.proofs.Lent.{slot_keeps}
use Rattle.ring_steps.specs.declared.rule.Shape.{Shape}
use Rattle.ring_steps.specs.Views.{Writing}
use Rattle.ring_shared.specs.Value.{WriterValue}
use Rattle.ring_shared.specs.Lending.{with_slot_payload, FitsFrame}
use Rattle.ring_shared.specs.Calls.{AreWriterFields, IsCall}
use Rattle.ring_shared.specs.Finishing.{IsReservedOr, is_reserved, stays_refused, is_refused, Reserves, Leaves, is_gone}
use Rattle.ring_shared.specs.Finishing.{was_refused, FinishesFrame, FinishesTop, Finishes, met_behind}
use Rattle.ring_shared.specs.WholeWrites.{GoesAway, IsReserved, EndsRecord, IsRefusedWrite, IsWritten}
use Rattle.ring_shared.proofs.Targets.{frames_of}
use Rattle.ring_frames.proofs.Reported.{IsRefusal, is_refusal, is_pushed, is_pending, is_full}
use Rattle.ring_shared.proofs.PushedEnded.{IsPushed, push_answers, HasEnded, end_answers}

-- ---- answers

-- a refusal that was met is that of the answer
pub met_refusal : (result : Answer) (fault : WriteFault) → met_behind None result ≡ Some fault → result ≡ Refused fault
met_refusal Pushed fault e = absurd (cc)
met_refusal Going fault e = absurd (cc)
met_refusal (Reserved number) fault e = absurd (cc)
met_refusal (Ended ended) fault e = absurd (cc)
met_refusal Gone fault e = absurd (cc)
met_refusal (Refused other) fault e = ap Refused (let same : other ≡ fault = cc in same)
met_refusal (Looking body) fault e = absurd (cc)
met_refusal (Empty done body) fault e = absurd (cc)
met_refusal (Moving fill body) fault e = absurd (cc)
met_refusal (Taken page missed) fault e = absurd (cc)
met_refusal (Wished fill) fault e = absurd (cc)

pub not_refused : (result : Answer) → ((fault : WriteFault) → met_behind None result ≢ Some fault) → IsRefusal result
    → ⊥
not_refused result none (fault, is) = none fault (ap (met_behind None) is)

-- ---- finished frames

module _ (shape : Shape) (before : Writing) (result : Answer) (after : Writing) (frame : Frame) (below : List Frame)
    (top : before.frames ≡ frame ∷ below) (f : Finishes shape before result after) where
  pub finishes_top : FinishesFrame shape frame.kind frame.state below before result after
  finishes_top = subst (λ (frames : List Frame). FinishesTop shape frames before result after) top f

  reserves_so : (kind : Purpose) (state : frames_model.Progress) → IsReserving kind state
      → FinishesFrame shape kind state below before result after → Reserves shape kind below before result after
  reserves_so (for_record moment len) waiting is r = r
  reserves_so (for_record moment len) (reserved number) is r = absurd is
  reserves_so (for_record moment len) left is r = absurd is
  reserves_so for_close waiting is r = absurd is
  reserves_so for_close (reserved number) is r = absurd is
  reserves_so for_close left is r = absurd is

  leaves_so : (kind : Purpose) (state : frames_model.Progress) → IsLeaving kind state
      → FinishesFrame shape kind state below before result after → Leaves shape below before result after
  leaves_so (for_record moment len) waiting is l = absurd is
  leaves_so (for_record moment len) (reserved number) is l = absurd is
  leaves_so (for_record moment len) left is l = l
  leaves_so for_close waiting is l = l
  leaves_so for_close (reserved number) is l = absurd is
  leaves_so for_close left is l = l

  pub finished_reserving : IsReserving frame.kind frame.state → Reserves shape frame.kind below before result after
  finished_reserving is = reserves_so frame.kind frame.state is finishes_top

  pub finished_leaving : IsLeaving frame.kind frame.state → Leaves shape below before result after
  finished_leaving is = leaves_so frame.kind frame.state is finishes_top

-- a frame that makes steps until it is gone leaves those below it
pub leaves_below : (shape : Shape) (below : List Frame) (before : Writing) (answer : Answer) (after : Writing)
    → Leaves shape below before answer after → after.frames ≡ below
leaves_below shape below before answer after (is_gone from mid end last goes more at) = at
leaves_below shape below before answer after
    (was_refused from mid next end frame fault last goes more top leaves rest) =
    leaves_below shape below next last after rest

-- ---- the push

-- a record frame is pushed above those on the stack, and is to be reserved
pub record HasBegun (moment len : ℕ) (before after : Writing) : Type 0 where
  pub frame : Frame
  pub top : after.frames ≡ frame ∷ before.frames
  pub kind_is : frame.kind ≡ for_record moment len
  pub reserves : IsReserving frame.kind frame.state

record_waits : (kind : Purpose) (state : frames_model.Progress) (moment len : ℕ) → kind ≡ for_record moment len
    → state ≡ waiting → IsReserving kind state
record_waits kind state moment len k s =
    subst (λ (x : frames_model.Progress). IsReserving kind x) (sym s)
    (subst (λ (x : Purpose). IsReserving x waiting) (sym k) tt)

module _ (shape : Shape) (before after : Writing) (moment len : ℕ) (result : Answer)
    (call : IsCall shape before (model.pushes moment len) result after) (not_no : IsRefusal result → ⊥) where
  push_so : IsPushed moment len call.answer call.core.frames call.next.frames
      ⊎ ((why : frames_model.WriteFault) × (call.answer ≡ model.refused why) × (call.next ≡ call.core))
      → HasBegun moment len before after × (result ≡ Pushed)
  push_so (inl p) = (
    record {
      frame = p.frame;
      top =
          ap (λ (w : Writing). w.frames) (sym call.after_is) ∙ p.top
          ∙ ap (λ (fs : List Frame). p.frame ∷ fs) (ap (λ (w : Writing). w.frames) call.before_is);
      kind_is = p.kind_is;
      reserves = record_waits p.frame.kind p.frame.state moment len p.kind_is p.state_is;
    },
    is_pushed shape.size result call.answer call.reports p.answer_is,
  )
  push_so (inr (why, denied, same)) = absurd (not_no (is_refusal shape.size result call.answer why call.reports denied))

  pub has_begun : HasBegun moment len before after × (result ≡ Pushed)
  has_begun =
      push_so (push_answers shape.pages shape.size call.core moment len call.answer call.next (cases_of call.step))

-- ---- the reservation

-- the record of the frame on top, of this kind, is reserved
pub record HasTopRecord (kind : Purpose) (below frames : List Frame) : Type 0 where
  pub next : Frame
  pub number : ℕ
  pub top : frames ≡ next ∷ below
  pub kind_is : next.kind ≡ kind
  pub state_is : next.state ≡ reserved number

-- an answer that refuses nothing states a record's number
pub reserved_so : (kind : Purpose) (below : List Frame) (result : Answer) (after : List Frame)
    → IsReservedOr kind below result after → (IsRefusal result → ⊥)
    → HasTopRecord kind below after
    × ((number : Rattle.trace_model.specs.declared.numbers.RecordNo.RecordNo) × (result ≡ Reserved number))
reserved_so kind below _ after (is_reserved next number end top kind_is state_is) denied =
    (record { next = next; number = number.0; top = top; kind_is = kind_is; state_is = state_is }, (number, refl))
reserved_so kind below _ after (stays_refused fault next end top leaves) denied = absurd (denied (fault, refl))
reserved_so kind below _ after (is_refused fault end top) denied = absurd (denied (fault, refl))

-- a frame that is refused stays on the stack, and leaves, or is gone
refused_so : (kind : Purpose) (below : List Frame) (result : Answer) (fault : WriteFault) (after : List Frame)
    → IsReservedOr kind below result after → result ≡ Refused fault
    → ((next : Frame) × (after ≡ next ∷ below) × IsLeaving next.kind next.state) ⊎ (after ≡ below)
refused_so kind below _ fault after (is_reserved next number end top kind_is state_is) e = absurd (cc)
refused_so kind below _ fault after (stays_refused other next end top leaves) e = inl (next, top, leaves)
refused_so kind below _ fault after (is_refused other end top) e = inr top

module _ (shape : Shape) (before pushed after : Writing) (moment len : ℕ) (begun result : Answer)
    (push : IsCall shape before (model.pushes moment len) begun pushed) (went : IsRefusal begun → ⊥)
    (finished : Finishes shape pushed result after) where
  abbrev b : HasBegun moment len before pushed
  b = (has_begun shape before pushed moment len begun push went).0

  pub reserving : Reserves shape (for_record moment len) before.frames pushed result after
  reserving =
      subst (λ (k : Purpose). Reserves shape k before.frames pushed result after) b.kind_is
      (finished_reserving shape pushed result after b.frame before.frames b.top finished b.reserves)

  pub has_record : (IsRefusal result → ⊥) → HasTopRecord (for_record moment len) before.frames after.frames
  has_record denied = (reserved_so (for_record moment len) before.frames result after.frames reserving.ends denied).0

  push_reported : IsCall shape before (model.pushes moment len) Pushed pushed
  push_reported =
      subst (λ (x : Answer). IsCall shape before (model.pushes moment len) x pushed)
      (has_begun shape before pushed moment len begun push went).1 push

  pub is_reserved_by : (IsRefusal result → ⊥) → IsReserved shape before moment len after
  is_reserved_by denied =
      let (number, is) =
      (reserved_so (for_record moment len) before.frames result after.frames reserving.ends denied).1 in
      record {
        pushed = pushed;
        number = number;
        push = push_reported;
        reserve =
            subst (λ (x : Answer). Reserves shape (for_record moment len) before.frames pushed x after) is reserving;
      }

  refused_with : (fault : WriteFault) → result ≡ Refused fault
      → Reserves shape (for_record moment len) before.frames pushed (Refused fault) after
  refused_with fault e =
      subst (λ (x : Answer). Reserves shape (for_record moment len) before.frames pushed x after) e reserving

  -- the frame is gone, as its depth shows
  pub refused_gone : (fault : WriteFault) → result ≡ Refused fault → length after.frames ≤ length before.frames
      → IsRefusedWrite shape before moment len fault after
  refused_gone fault e low =
      inr record {
        pushed = pushed;
        refused = after;
        push = push_reported;
        reserve = refused_with fault e;
        goes = inl refl;
        frames = gone_so (refused_so (for_record moment len) before.frames result fault after.frames reserving.ends e);
      }
    where
      gone_so : ((next : Frame) × (after.frames ≡ next ∷ before.frames) × IsLeaving next.kind next.state)
          ⊎ (after.frames ≡ before.frames) → after.frames ≡ before.frames
      gone_so (inl (next, top, leaves)) = let wide = ap (length {A = Frame}) top in absurd (omega arith)
      gone_so (inr same) = same

  stands_on : ((next : Frame) × (after.frames ≡ next ∷ before.frames) × IsLeaving next.kind next.state)
      ⊎ (after.frames ≡ before.frames) → length before.frames < length after.frames
      → (next : Frame) × (after.frames ≡ next ∷ before.frames) × IsLeaving next.kind next.state
  stands_on (inl s) deep = s
  stands_on (inr top) deep = let same = ap (length {A = Frame}) top in absurd (omega arith)

  -- it stays on the stack, and leaves
  pub refused_stands : (fault : WriteFault) → result ≡ Refused fault → length before.frames < length after.frames
      → (next : Frame) × (after.frames ≡ next ∷ before.frames) × IsLeaving next.kind next.state
  refused_stands fault e deep =
      stands_on (refused_so (for_record moment len) before.frames result fault after.frames reserving.ends e) deep

  -- it stays on the stack, and is finished
  pub refused_left : (fault : WriteFault) (last : Answer) (end : Writing) → result ≡ Refused fault
      → length before.frames < length after.frames → Finishes shape after last end
      → IsRefusedWrite shape before moment len fault end
  refused_left fault last end e deep f =
      let (next, top, leaves) = refused_stands fault e deep in
      let all : Leaves shape before.frames after last end =
      finished_leaving shape after last end next before.frames top f leaves in
      inr record {
        pushed = pushed;
        refused = after;
        push = push_reported;
        reserve = refused_with fault e;
        goes = inr (next, last, top, leaves, all);
        frames = leaves_below shape before.frames after last end all;
      }

-- ---- the slot of the frame on top

slot_of : (progress : Progress) (number : ℕ) → state_of progress ≡ reserved number
    → (slot : Slot) × (progress ≡ HasReserved slot)
slot_of (Waiting noted) number e = absurd (cc)
slot_of (Through noted) number e = absurd (cc)
slot_of (HasReserved slot) number e = (slot, refl)
slot_of (Left noted) number e = absurd (cc)

slot_in : (frames : List stack.Frame) (phase : Phase) (phases : List Phase) (shown : List Frame) (next : Frame)
    (below : List Frame) (number : ℕ) → shown ≡ frames_in_phases frames (phase ∷ phases) → shown ≡ next ∷ below
    → next.state ≡ reserved number → (slot : Slot) × IsTopSlot frames slot
slot_in [] phase phases shown next below number same top at = let z = ap (length {A = Frame}) (sym same ∙ top) in
    absurd (omega arith)
slot_in (f ∷ frames) phase phases shown next below number same top at =
    let heads : frames_in_phases (f ∷ frames) (phase ∷ phases) ≡ next ∷ below = sym same ∙ top in
    slot_of f.progress number (ap (λ (fs : List Frame). state_first fs) heads ∙ at)
  where
    state_first : List Frame → frames_model.Progress
    state_first [] = waiting
    state_first (first ∷ others) = first.state

pub top_slot_of : (v : WriterValue) (w : AreWriterFields v) (kind : Purpose) (below : List Frame)
    → HasTopRecord kind below v.part.frames → (slot : Slot) × IsTopSlot v.frames.stack.frames slot
top_slot_of v w kind below t =
    slot_in v.frames.stack.frames v.frames.phase v.frames.below v.part.frames t.next below t.number (frames_of v w)
    t.top t.state_is

-- so the frame on top has reserved
pub record HasReservedTop (frames : List Frame) : Type 0 where
  pub frame : Frame
  pub below : List Frame
  pub number : ℕ
  pub top : frames ≡ frame ∷ below
  pub state_is : frame.state ≡ reserved number

reserved_in : (frames : List stack.Frame) (phase : Phase) (phases : List Phase) (shown : List Frame) (slot : Slot)
    → shown ≡ frames_in_phases frames (phase ∷ phases) → IsTopSlot frames slot → HasReservedTop shown
reserved_in [] phase phases shown slot same is = absurd is
reserved_in (f ∷ frames) phase phases shown slot same is =
    record { frame = _; below = _; number = slot.number; top = same; state_is = ap state_of is }

pub reserved_top : (v : WriterValue) (w : AreWriterFields v) (slot : Slot) → IsTopSlot v.frames.stack.frames slot
    → HasReservedTop v.part.frames
reserved_top v w slot is =
    reserved_in v.frames.stack.frames v.frames.phase v.frames.below v.part.frames slot (frames_of v w) is

-- ---- the end

module _ (shape : Shape) (before after : Writing) (payload : List ℕ) (result : Answer)
    (call : IsCall shape before (model.ends payload) result after) (t : HasReservedTop before.frames) where
  ended : HasEnded call.core t.frame t.below call.answer call.next.frames
  ended = end_answers shape.pages shape.size call.core payload t.frame t.below t.number call.answer call.next
      (ap (λ (w : Writing). w.frames) call.before_is ∙ t.top) t.state_is (cases_of call.step)

  frames_then : after.frames ≡ model.frames_after_leave call.core t.frame t.below
  frames_then = ap (λ (w : Writing). w.frames) (sym call.after_is) ∙ ended.frames_are

  pending_so : (below : List Frame) → t.below ≡ below → result ≢ Ended Full → result ≡ Ended Pending
  pending_so [] e ne =
      absurd (ne (is_full shape.size result call.answer call.reports (ended.answer_is ∙ ap model.end_answer e)))
  pending_so (next ∷ others) e ne =
      is_pending shape.size result call.answer call.reports (ended.answer_is ∙ ap model.end_answer e)

  -- the frame below is on top
  pub ends_above : result ≢ Ended Full
      → (how : Rattle.nested_writer.specs.declared.stack.leave.Ended.Ended)
      × IsCall shape before (model.ends payload) (Ended how) after × GoesAway shape after how after
  ends_above ne = (
    Pending,
    subst (λ (x : Answer). IsCall shape before (model.ends payload) x after) (pending_so t.below refl ne) call,
    refl,
  )

  left_alone : (below : List Frame) → t.below ≡ below → result ≡ Ended Full
      → (frame : Frame) × (after.frames ≡ frame ∷ []) × (frame.state ≡ left)
  left_alone [] e full = (_, frames_then ∙ ap (model.frames_after_leave call.core t.frame) e, refl)
  left_alone (next ∷ others) e full =
      absurd (let both : Ended Full ≡ Ended Pending =
      sym full
      ∙ is_pending shape.size result call.answer call.reports
      (ended.answer_is ∙ ap model.end_answer e) in
      cc)

  others_are : (end : Writing) → end.frames ≡ t.below → (frame : Frame) (below : List Frame)
      → before.frames ≡ frame ∷ below → end.frames ≡ below
  others_are end at frame below top =
      at ∙ (let both : t.frame ∷ t.below ≡ frame ∷ below = sym t.top ∙ top in let same : t.below ≡ below = cc in same)

  below_left : (below : List Frame) → t.below ≡ below → result ≢ Ended Full → after.frames ≡ t.below
  below_left [] e ne =
      absurd (ne (is_full shape.size result call.answer call.reports (ended.answer_is ∙ ap model.end_answer e)))
  below_left (next ∷ others) e ne = frames_then ∙ ap (model.frames_after_leave call.core t.frame) e ∙ sym e

  pub left_above : result ≢ Ended Full → (frame : Frame) (below : List Frame) → before.frames ≡ frame ∷ below
      → after.frames ≡ below
  left_above ne = others_are after (below_left t.below refl ne)

  none_below : (below : List Frame) → t.below ≡ below → result ≡ Ended Full → below ≡ []
  none_below [] e full = refl
  none_below (next ∷ others) e full =
      absurd (let both : Ended Full ≡ Ended Pending =
      sym full
      ∙ is_pending shape.size result call.answer call.reports
      (ended.answer_is ∙ ap model.end_answer e) in
      cc)

  pub left_full : result ≡ Ended Full → (frame : Frame) × (after.frames ≡ frame ∷ []) × (frame.state ≡ left)
  left_full full = left_alone t.below refl full

  has_left : (kind : Purpose) (state : frames_model.Progress) → state ≡ left → IsLeaving kind state
  has_left kind state e = subst (IsLeaving kind) (sym e) (any kind)
    where
      any : (kind : Purpose) → IsLeaving kind left
      any (for_record moment len) = tt
      any for_close = tt

  -- it is alone on the stack, and leaves
  pub alone_leaves : result ≡ Ended Full
      → (frame : Frame) × (after.frames ≡ frame ∷ []) × IsLeaving frame.kind frame.state
  alone_leaves full = let (frame, top, gone) = left_alone t.below refl full in
      (frame, top, has_left frame.kind frame.state gone)

  -- it is alone on the stack, and is finished
  pub ends_alone : (last : Answer) (end : Writing) → result ≡ Ended Full → Finishes shape after last end
      → (how : Rattle.nested_writer.specs.declared.stack.leave.Ended.Ended)
      × IsCall shape before (model.ends payload) (Ended how) after × GoesAway shape after how end
  ends_alone last end full f =
      let (frame, top, gone) = left_alone t.below refl full in (
        Full,
        subst (λ (x : Answer). IsCall shape before (model.ends payload) x after) full call,
        (last, finished_leaving shape after last end frame [] top f (has_left frame.kind frame.state gone)),
      )

  pub alone_left : (last : Answer) (end : Writing) → result ≡ Ended Full → Finishes shape after last end
      → (frame : Frame) (below : List Frame) → before.frames ≡ frame ∷ below → end.frames ≡ below
  alone_left last end full f =
      let (next, top, gone) = left_alone t.below refl full in
      others_are end
      (leaves_below shape [] after last end
      (finished_leaving shape after last end next [] top f (has_left next.kind next.state gone))
      ∙ sym (none_below t.below refl full))

-- ---- all of it

-- the kind of a frame that has reserved
pub top_kind : (kind : Purpose) (below : List Frame)
    (number : Rattle.trace_model.specs.declared.numbers.RecordNo.RecordNo) (after : List Frame)
    → IsReservedOr kind below (Reserved number) after → HasTopRecord kind below after
top_kind kind below number after is = (reserved_so kind below (Reserved number) after is (λ (fault, e). cc)).0

-- the slot has exactly the room of the record
pub record_room : (shape : Shape) (before : Writing) (moment len : ℕ) (v : WriterValue) (slot : Slot)
    → IsReserved shape before moment len v.part → FitsFrame v slot → slot.place.len ≡ slot_len len
record_room shape before moment len v slot r fits =
    let t = top_kind (for_record moment len) before.frames r.number v.part.frames r.reserve.ends in
    fits t.next before.frames moment len t.top t.kind_is

pub written_top : (v : WriterValue) (slot : Slot) (part : List ℕ)
    → top_bytes (with_slot v.frames.stack slot part) v.frames.stack.frames ≡ part
    → top_bytes (with_slot_payload v slot part).frames.stack (with_slot_payload v slot part).frames.stack.frames ≡ part
written_top v slot part is =
    ap (top_bytes (with_slot v.frames.stack slot part)) (slot_keeps v.frames.stack slot part).frames_is ∙ is

-- a record that was reserved, and ends with this payload, is written
pub written_whole : (shape : Shape) (before : Writing) (moment : ℕ) (payload : List ℕ) (v new : WriterValue)
    → IsReserved shape before moment (length payload) v.part → v.shape ≡ shape
    → top_bytes v.frames.stack v.frames.stack.frames ≡ padded payload → EndsRecord v new
    → IsWritten shape before moment payload new.part
written_whole shape before moment payload v new r same bytes e = record {
  pushed = r.pushed;
  reserved = v.part;
  ended = e.ended;
  number = r.number;
  how = e.how;
  push = r.push;
  reserve = r.reserve;
  end =
      subst (λ (s : Shape). IsCall s v.part (model.ends (padded payload)) (Ended e.how) e.ended) same
      (subst (λ (l : List ℕ). IsCall v.shape v.part (model.ends l) (Ended e.how) e.ended) bytes e.end);
  goes = subst (λ (s : Shape). GoesAway s e.ended e.how new.part) same e.goes;
  frames =
      (let top = top_kind (for_record moment (length payload)) before.frames r.number v.part.frames r.reserve.ends in
      e.others top.next before.frames top.top);
}
