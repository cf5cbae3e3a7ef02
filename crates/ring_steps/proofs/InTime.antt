-- Receipts: what the reader learned stays in time as the run goes on, and what a receipt has stays a front of what the
-- writer has made.
use Rattle.std.proofs.Common.{◌≡◌, ℕ, zero, suc, ◌<◌, List, [], ◌∷◌, ◌++◌, length, sym, ap, ◌∙◌, subst, arith}
use Rattle.std.proofs.Common.{append_assoc, append-nil}
use Rattle.std.specs.Prelude.{slice_index_or, slice_set}
use mathlib.Core.Option.{some}
use lib.ListN.{get_elem?}
use Rattle.trace_model.specs.Ring.{Core}
use Rattle.trace_model.specs.Steps.{Event, Answer, Step}
use Rattle.ring_model.specs.Reached.{IsReached}
use Rattle.ring_steps.specs.Made.{WriterMade, ReaderMade, Trace, trace_to, by_writer, by_reader}
use Rattle.ring_steps.specs.Receipts.{Lesson, IsInTime, AreInTime}
use Rattle.ring_steps.specs.Views.{Reading, with_lesson, SeatView, laid, whole, writes, reads, saw, joined, spent}
use Rattle.ring_steps.specs.Views.{IsReceipt, AreReceipts}
use Rattle.ring_steps.proofs.Made.{reached_on, reached_at, trace_on, trace_at}

-- ---- what the reader learned

-- a longer run
in_time_on : (trace more : Trace) (lessons : List Lesson) → AreInTime trace lessons → AreInTime (trace ++ more) lessons
in_time_on trace more [] is = tt
in_time_on trace more (one ∷ lessons) (is, are) = (
  record {
    front = is.front;
    rest = is.rest ++ more;
    trace_is = ap (λ (t : Trace). t ++ more) is.trace_is ∙ append_assoc is.front is.rest more;
    others = is.others;
    has_made = is.has_made;
    few = is.few;
  },
  in_time_on trace more lessons are,
)

pub in_time_more : (n size start : ℕ) (c : Core) (event : Event) (answer : Answer) (after : Core)
    (r : IsReached n size start c) (step : Step n size c event answer after) (lessons : List Lesson)
    → AreInTime (trace_to r) lessons
    → AreInTime (trace_to (reached_on n size start c event answer after r step)) lessons
in_time_more n size start c event answer after r step lessons are =
    subst (λ (trace : Trace). AreInTime trace lessons)
    (sym (trace_on n size r.from c r.exchanges record { event = event; answer = answer } after r.run step))
    (in_time_on (trace_to r) ((record { event = event; answer = answer }, after) ∷ []) lessons are)

pub in_time_at : (n size start : ℕ) (c d : Core) (same : c ≡ d) (r : IsReached n size start c) (lessons : List Lesson)
    → AreInTime (trace_to r) lessons → AreInTime (trace_to (reached_at n size start c d same r)) lessons
in_time_at n size start c d same r lessons are =
    subst (λ (trace : Trace). AreInTime trace lessons) (sym (trace_at n size r.from c d r.exchanges same r.run)) are

-- one thing more, of which the run is so far
lesson_more : (trace : Trace) (lessons : List Lesson) (one : Lesson) → AreInTime trace lessons → IsInTime trace one
    → AreInTime trace (lessons ++ one ∷ [])
lesson_more trace [] one are is = (is, tt)
lesson_more trace (first ∷ lessons) one (here, are) is = (here, lesson_more trace lessons one are is)

pub lesson_in_time : (trace : Trace) (r : Reading) (made later : List WriterMade) → by_writer trace ≡ made ++ later
    → r.made ≡ by_reader trace → AreInTime trace r.lessons → AreInTime trace (with_lesson r made).lessons
lesson_in_time trace r made later writers readers are =
    lesson_more trace r.lessons record { steps = length r.made; made = made } are record {
      front = trace;
      rest = [];
      trace_is = sym (append-nil trace);
      others = later;
      has_made = writers;
      few = let same = ap (λ (l : List ReaderMade). length l) readers in omega arith;
    }

-- each thing that it learned is in time
pub lesson_at : (trace : Trace) (lessons : List Lesson) (one : Lesson) (k : ℕ) → k < length lessons
    → slice_index_or lessons k one ≡ one → AreInTime trace lessons → IsInTime trace one
lesson_at trace [] one k low at are = absurd (omega arith)
lesson_at trace (first ∷ lessons) one zero low at (is, are) = subst (IsInTime trace) at is
lesson_at trace (first ∷ lessons) one (suc k) low at (is, are) = lesson_at trace lessons one k (omega arith) at are

-- ---- what receipts have

pub receipt_at : (made : List WriterMade) (views : List SeatView) (i : ℕ) (view : SeatView) → AreReceipts made views
    → get_elem? views i ≡ some view → IsReceipt made view
receipt_at made [] zero view are at = absurd (cc)
receipt_at made [] (suc i) view are at = absurd (cc)
receipt_at made (one ∷ views) zero view (is, are) at =
    subst (IsReceipt made) (let same : one ≡ view = cc in same) is
receipt_at made (one ∷ views) (suc i) view (is, are) at = receipt_at made views i view are at

receipt_later : (made later : List WriterMade) (view : SeatView) → IsReceipt made view → IsReceipt (made ++ later) view
receipt_later made later (laid w r) is = is
receipt_later made later (whole w r) is = is
receipt_later made later (writes w passed) is = is
receipt_later made later (reads r) is = is
receipt_later made later (saw earlier) (since, is) =
    (since ++ later, ap (λ (l : List WriterMade). l ++ later) is ∙ append_assoc earlier since later)
receipt_later made later (joined w r) is = is
receipt_later made later spent is = tt

pub receipts_later : (made later : List WriterMade) (views : List SeatView) → AreReceipts made views
    → AreReceipts (made ++ later) views
receipts_later made later [] are = tt
receipts_later made later (view ∷ views) (is, are) =
    (receipt_later made later view is, receipts_later made later views are)

-- a new one
pub receipt_more : (made : List WriterMade) (views : List SeatView) → AreReceipts made views
    → AreReceipts made (views ++ saw made ∷ [])
receipt_more made [] are = (([], sym (append-nil made)), tt)
receipt_more made (view ∷ views) (is, are) = (is, receipt_more made views are)

-- one is spent
pub receipt_spent : (made : List WriterMade) (views : List SeatView) (i : ℕ) → AreReceipts made views
    → AreReceipts made (slice_set views i spent)
receipt_spent made [] i are = tt
receipt_spent made (view ∷ views) zero (is, are) = (tt, are)
receipt_spent made (view ∷ views) (suc i) (is, are) = (is, receipt_spent made views i are)
