-- The first seat takes the tail's slot, and is cut in two.
use Rattle.std.proofs.Common.{◌≡◌, ◌≢◌, ℕ, ◌+◌, ◌%◌, ◌<◌, ◌≤◌, [], ◌∷◌, ◌++◌, get_or, set, refl, sym, ap, ◌∙◌}
use Rattle.std.proofs.Common.{subst, arith, length-set}
use Rattle.std.proofs.lemmas.List.{set-get_or}
use Rattle.std.specs.Prelude.{None, slice_set}
use mathlib.Core.Option.{some, none}
use Rattle.atomic_table.specs.Table.{takes, Allows, Splits}
use Rattle.atomic_table.proofs.Lists.{set_else}
use Rattle.trace_model.specs.Ring.{Core, page_at}
use Rattle.ring_model.specs.RingKept.{IsRingKept}
use Rattle.ring_model.proofs.contents.PageChanges.{pages_differ}
use Rattle.ring_model.proofs.partition.RingsKept.{reached_kept}
use Rattle.ring_steps.specs.declared.rule.Shape.{Shape}
use Rattle.ring_steps.specs.Made.{writer_made_of}
use Rattle.ring_steps.specs.Views.{Writing, writing_of, Reading, SeatView, laid, whole, writes, reads, writing, passed}
use Rattle.ring_steps.specs.Views.{reading, AreSeated, made, running}
use Rattle.ring_steps.specs.Shown.{Homes, AreHomes, Shows}
use Rattle.ring_steps.specs.Words.{opened_word}
use Rattle.ring_steps.specs.Seats.{SeatState}
use Rattle.ring_steps.proofs.Placed.{laid_at, whole_at}

-- the page of the oldest open fill is none of a closed fill, none that may be begun, and not the spare
pub oldest_open : (n size start : ℕ) (c : Core) → IsRingKept n size start c
    → get_or c.open_pages 0 0 ≡ page_at n c.order c.done
oldest_open n size start c k = let count = k.open_pages.count in let behind = k.links.done_lt in
    k.open_pages.each 0 (omega arith) ∙ ap (page_at n c.order) (let e : c.done + 0 ≡ c.done = omega arith in e)

pub oldest_taken : (n size start : ℕ) (c : Core) (r : Reading) (homes : Homes) (page : ℕ) → IsRingKept n size start c
    → r.spare ≡ c.spare → page ≡ get_or c.open_pages 0 0 → AreHomes n size c r homes
    → AreHomes n size c r (slice_set homes page none)
oldest_taken n size start c r homes page k spare is a =
    let some_pages = k.links.some_pages in
    let head = k.links.head_le in
    let behind = k.links.done_lt in
    let room = k.links.opened_le in
    let here : page ≡ page_at n c.order c.done = is ∙ oldest_open n size start c k in
    let differ : (f : ℕ) → c.head ≤ f → f < c.head + n → f ≢ c.done → page_at n c.order f ≢ page = λ f low high ne e.
    pages_differ n c.order c.spare c.head f c.done (omega arith) k.links.apart low high head (omega arith) ne
    (e ∙ here) in
    record {
      count = length-set homes page none ∙ a.count;
      closed = λ f low high. let (body, home, written) = a.closed f low high in (
        body,
        set_else homes page (page_at n c.order f) none (differ f low (omega arith) (λ e. omega arith)) ∙ home,
        written,
      );
      free = λ f low high. let (body, home, sized) = a.free f low high in (
        body,
        set_else homes page (page_at n c.order f) none
            (λ e. free_differs f low high (e ∙ here)) ∙ home,
        sized,
      );
      spare =
          λ kept.
          set_else homes page c.spare none
          (λ e.
          k.links.apart.spare_differs (c.done % n)
          (Rattle.std.proofs.Common.mod-lt c.done (omega arith)) (sym (e ∙ here)))
          ∙ a.spare kept;
    }
  where
    free_differs : (f : ℕ) → c.opened ≤ f → f < c.done + n → page_at n c.order f ≢ page_at n c.order c.done
    free_differs f low high e = let some_pages = k.links.some_pages in
        let head = k.links.head_le in
        let behind = k.links.done_lt in
        pages_differ n c.order c.spare c.done f c.done (omega arith) k.links.apart (omega arith) high (omega arith)
        (omega arith) (λ same. omega arith) e

module _ (shape : Shape) (first_w : Writing) (first_r : Reading) where
  pub tail_taken : (slots id : ℕ) (me : SeatState) → me ≡ (laid first_w first_r, [])
      → Allows (Shows shape.pages shape.size shape.start) slots id me opened_word (λ n. n)
      (λ _ after. (after.0 ≡ whole first_w first_r) × (after.1 ≡ (get_or first_w.open_pages 0 0, None) ∷ []))
  tail_taken slots id me is s h deep at range =
      let (views, first, w_is, r_is) =
      laid_at (writing_of (writer_made_of h.shown.reached) h.core) h.reader h.core.head s.views id first_w first_r
      h.seats (at ∙ ap (λ (m : SeatState). some m.0) is) in
      let page : ℕ = get_or first_w.open_pages 0 0 in
      let k = reached_kept shape.pages shape.size shape.start h.core h.shown.reached in
      let home = h.tail first_w first_r (views ∙ (λ i. laid (sym w_is i) (sym r_is i) ∷ [])) in (
        whole first_w first_r,
        takes page None,
        home,
        record {
          core = h.core;
          reader = h.reader;
          shown = record {
            pages_fit = h.shown.pages_fit;
            reached = h.shown.reached;
            are_words =
                subst (Rattle.ring_steps.specs.Shown.AreWords shape.pages h.core)
                (sym (set-get_or s.words opened_word 0)) h.shown.are_words;
            are_homes =
                oldest_taken shape.pages shape.size shape.start h.core h.reader s.homes page k
                h.shown.is_reading.spare_is (ap (λ (w : Writing). get_or w.open_pages 0 0) w_is) h.shown.are_homes;
            is_reading = h.shown.is_reading;
            reader_made_is = h.shown.reader_made_is;
            in_time = h.shown.in_time;
          };
          seats =
              subst (AreSeated (writing_of (writer_made_of h.shown.reached) h.core) h.reader h.core.head)
              (λ i. set (sym views i) (sym first i) (whole (sym w_is i) (sym r_is i))) made;
          tail =
              λ u v e. let there : whole first_w first_r ∷ [] ≡ laid u v ∷ [] =
              sym (λ i. set (views i) (first i) (whole first_w first_r)) ∙ e in
              absurd (cc);
        },
        (refl, ap (λ (m : SeatState). (page, None) ∷ m.1) is),
      )

pub cut : (n size start id : ℕ) (view : SeatView) → view ≡ whole (writing view) (reading view)
    → Splits (Shows n size start) id view (writes (writing view) (passed view)) (reads (reading view))
cut n size start id view is s h at =
    let (views, first, w_is, r_is) =
    whole_at (writing_of (writer_made_of h.shown.reached) h.core) h.reader h.core.head s.views id (writing view)
    (reading view) h.seats (at ∙ ap some is) in
    record {
      core = h.core;
      reader = h.reader;
      shown = h.shown;
      seats =
          subst (AreSeated (writing_of (writer_made_of h.shown.reached) h.core) h.reader h.core.head)
          (λ i.
          set (sym views i) (sym first i) (writes (sym w_is i) (passed (sym is i))) ++ reads (sym r_is i) ∷ [])
          (running 0 (omega arith) [] tt);
      tail =
          λ u v e. let there : writes (writing view) (passed view) ∷ reads (reading view) ∷ [] ≡ laid u v ∷ [] =
          sym (λ i. set (views i) (first i) (writes (writing view) (passed view)) ++ reads (reading view) ∷ [])
          ∙ e in
          absurd (cc);
    }

pub is_whole : (view : SeatView) (w : Writing) (r : Reading) → view ≡ whole w r
    → view ≡ whole (writing view) (reading view)
is_whole view w r e = e ∙ (λ i. whole (writing (sym e i)) (reading (sym e i)))
