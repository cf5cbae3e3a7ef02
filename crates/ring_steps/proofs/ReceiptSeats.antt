-- The writer's seat gives a receipt, and the reader's takes one in.
use Rattle.std.proofs.Common.{◌≡◌, ℕ, zero, suc, ◌≤◌, List, [], ◌∷◌, ◌++◌, set, refl, sym, ap, ◌∙◌, subst}
use Rattle.std.proofs.Math.Logic.{∥∥₁_elim}
use Rattle.std.proofs.Props.{props}
use mathlib.Core.Option.{some}
use lib.ListN.{get_elem?}
use Rattle.atomic_table.specs.Table.{Splits, Joins}
use Rattle.ring_steps.specs.declared.rule.Shape.{Shape}
use Rattle.ring_steps.specs.Made.{WriterMade, trace_to, writer_made_of, privately_made}
use Rattle.ring_steps.specs.Views.{Writing, writing_of, Reading, with_lesson, SeatView, laid, writes, reads, saw, spent}
use Rattle.ring_steps.specs.Views.{writing, passed, reading, made_seen, IsReceipt, AreReceipts, AreSeated, running}
use Rattle.ring_steps.specs.Shown.{Shows}
use Rattle.ring_steps.specs.Seats.{Leads}
use Rattle.ring_steps.specs.Paging.{IsWriterReached}
use Rattle.ring_steps.proofs.Private.{private_shown, private_open_pages, private_head, private_reached, made_shown}
use Rattle.ring_steps.proofs.Placed.{writer_at, reader_at}
use Rattle.ring_steps.proofs.Allowing.{shown_as}
use Rattle.ring_steps.proofs.Notes.{part_reached}
use Rattle.ring_steps.proofs.InTime.{lesson_in_time, receipt_at, receipts_later, receipt_more, receipt_spent}

-- ---- the writer's part by now

-- its open pages are those that the seat knows, and steps reach it
reached_now : (shape : Shape) (before now : Writing) → IsWriterReached shape before → Leads shape before now
    → (now.open_pages ≡ before.open_pages) × IsWriterReached shape now
reached_now shape before now known leads =
    let (exchanges, aside, run, now_is) = leads known.core known.reached known.is in (
      ap (λ (w : Writing). w.open_pages) (sym now_is)
          ∙ (private_open_pages shape.pages shape.size known.core aside exchanges run
          ∙ ap (λ (w : Writing). w.open_pages) known.is),
      record {
        core = aside;
        reached =
            private_reached shape.pages shape.size shape.start known.core aside exchanges known.reached run;
        is = part_reached shape before now known.core aside exchanges known.reached known.is run now_is;
      },
    )

pub pages_now : (shape : Shape) (before now : Writing) → ∥ IsWriterReached shape before ∥₁ → Leads shape before now
    → now.open_pages ≡ before.open_pages
pages_now shape before now known leads =
    ∥∥₁_elim known (Prim.hlevel props) (λ w. (reached_now shape before now w leads).0)

pub known_now : (shape : Shape) (before now : Writing) → ∥ IsWriterReached shape before ∥₁ → Leads shape before now
    → ∥ IsWriterReached shape now ∥₁
known_now shape before now known leads =
    ∥∥₁_elim known (Prim.hlevel props) (λ w. ∣ (reached_now shape before now w leads).1 ∣₁)

-- ---- a receipt is given

pub gives : (shape : Shape) (id : ℕ) (view : SeatView) (now : Writing)
    → view ≡ writes (writing view) (passed view)
    → Leads shape (writing view) now
    → Splits (Shows shape.pages shape.size shape.start) id view (writes now (passed view)) (saw now.made)
gives shape id view now is leads s h at =
    let (there, first, same) =
    writer_at (writing_of (writer_made_of h.shown.reached) h.core) h.reader h.core.head s.views id (writing view)
    (passed view) h.seats (at ∙ ap some is) in
    let (exchanges, aside, run, now_is) = leads h.core h.shown.reached (sym same) in
    let privately : List WriterMade = privately_made shape.pages shape.size h.core exchanges aside run in
    let shown =
    private_shown shape.pages shape.size shape.start h.core aside exchanges h.reader s.words s.homes h.shown run in
    let more =
    made_shown shape.pages shape.size shape.start h.core aside exchanges h.reader s.words s.homes h.shown run in
    let part_is : writing_of (writer_made_of shown.reached) aside ≡ now =
    ap (λ (xs : List WriterMade). writing_of xs aside)
    (more ∙ ap (λ (w : Writing). w.made ++ privately) (sym same)) ∙ now_is in
    let head = private_head shape.pages shape.size h.core aside exchanges run in
    let receipts : List SeatView = there.receipts ++ saw now.made ∷ [] in
    let receipts_are : AreReceipts now.made receipts =
    receipt_more now.made there.receipts
    (subst (λ (made : List WriterMade). AreReceipts made there.receipts)
    (sym more ∙ ap (λ (w : Writing). w.made) part_is)
    (receipts_later (writer_made_of h.shown.reached) privately there.receipts there.are)) in
    let views_are : set s.views id (writes now (passed view)) ++ saw now.made ∷ []
    ≡ writes now (passed view) ∷ reads h.reader ∷ receipts =
    λ i. set (there.views_are i) (first i) (writes now (passed view)) ++ saw now.made ∷ [] in
    record {
      core = aside;
      reader = h.reader;
      shown = shown;
      seats =
          subst
          (λ (w : Writing).
          AreSeated w h.reader aside.head (set s.views id (writes now (passed view)) ++ saw now.made ∷ []))
          (sym part_is)
          (subst (AreSeated now h.reader aside.head) (sym views_are)
          (running (passed view) (subst (λ (k : ℕ). passed view ≤ k) (sym head) there.low) receipts receipts_are));
      tail = λ u v e. let other : writes now (passed view) ∷ reads h.reader ∷ receipts ≡ laid u v ∷ [] =
          sym views_are ∙ e in
          absurd (cc);
    }

-- ---- a receipt is taken in

-- its seat comes after those of the two ends
beside : (w : Writing) (known : ℕ) (r : Reading) (receipts : List SeatView) (made : List WriterMade) (other : ℕ)
    → AreReceipts w.made receipts → get_elem? (writes w known ∷ reads r ∷ receipts) other ≡ some (saw made)
    → (i : ℕ) × (other ≡ suc (suc i)) × (later : List WriterMade) × (w.made ≡ made ++ later)
beside w known r receipts made zero are at = absurd (cc)
beside w known r receipts made (suc zero) are at = absurd (cc)
beside w known r receipts made (suc (suc i)) are at =
    let is : IsReceipt w.made (saw made) = receipt_at w.made receipts i (saw made) are at in (i, refl, is.0, is.1)

pub learns : (shape : Shape) (id : ℕ) (view : SeatView) (other : ℕ) (with : SeatView)
    → view ≡ reads (reading view)
    → with ≡ saw (made_seen with)
    → Joins (Shows shape.pages shape.size shape.start) id view other with
    (reads (with_lesson (reading view) (made_seen with))) spent
learns shape id view other with is its s h at ne at_other =
    let w : Writing = writing_of (writer_made_of h.shown.reached) h.core in
    let made : List WriterMade = made_seen with in
    let after : Reading = with_lesson (reading view) made in
    let (known, there, second, r_is) =
    reader_at w h.reader h.core.head s.views id (reading view) h.seats (at ∙ ap some is) in
    let front : set s.views id (reads after) ≡ writes w known ∷ reads after ∷ there.receipts =
    λ i. set (there.views_are i) (second i) (reads after) in
    let (number, place, later, writers) =
    beside w known after there.receipts made other there.are
    (sym (ap (λ (vs : List SeatView). get_elem? vs other) front) ∙ (at_other ∙ ap some its)) in
    let receipts : List SeatView = set there.receipts number spent in
    let views_are : set (set s.views id (reads after)) other spent ≡ writes w known ∷ reads after ∷ receipts =
    λ i. set (front i) (place i) spent in
    let shown = shown_as shape h.core h.reader (reading view) s.words s.homes (sym r_is) h.shown in
    record {
      core = h.core;
      reader = after;
      shown = record {
        pages_fit = shown.pages_fit;
        reached = shown.reached;
        are_words = shown.are_words;
        are_homes =
            record {
              count = shown.are_homes.count;
              closed = shown.are_homes.closed;
              free = shown.are_homes.free;
              spare = shown.are_homes.spare;
            };
        is_reading =
            record {
              order_is = shown.is_reading.order_is;
              spare_is = shown.is_reading.spare_is;
              spare_link_is = shown.is_reading.spare_link_is;
              reader_is = shown.is_reading.reader_is;
              wish_is = shown.is_reading.wish_is;
              observed_is = shown.is_reading.observed_is;
            };
        reader_made_is = shown.reader_made_is;
        in_time =
            lesson_in_time (trace_to shown.reached) (reading view) made later writers shown.reader_made_is
            shown.in_time;
      };
      seats =
          subst (AreSeated w after h.core.head) (sym views_are)
          (running known there.low receipts (receipt_spent w.made there.receipts number there.are));
      tail = λ u v e. let first : writes w known ∷ reads after ∷ receipts ≡ laid u v ∷ [] = sym views_are ∙ e in
          absurd (cc);
    }
