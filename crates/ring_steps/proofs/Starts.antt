-- A new ring's words, slots and views show the model's new ring.
use Rattle.std.proofs.Common.{◌≡◌, ◌≢◌, ℕ, zero, suc, ◌+◌, ◌-◌, ◌%◌, ◌<◌, ◌≤◌, List, [], ◌∷◌, length, get_or, map, Some}
use Rattle.std.proofs.Common.{refl, sym, ap, ◌∙◌, subst, mod-lt, arith}
use Rattle.std.specs.Prelude.{Option, None, take}
use Rattle.std.specs.List.{slice_get}
use Rattle.trace_model.specs.History.{as_record, reserved_records}
use Rattle.std.proofs.Math.Nat.{add-mod_right, mod-add-mod}
use Rattle.std.proofs.lemmas.List.{ext_get_or, length-map}
use Rattle.std.proofs.lemmas.Option.{slice_get-get_or}
use mathlib.Core.Logic.{dite}
use native.Mathlib.Decide.{ℕ_discrete}
use mathlib.Core.Option.{some}
use lib.ListN.{get_elem?}
use Rattle.atomic_table.specs.Table.{opening}
use Rattle.atomic_table.proofs.Lists.{at_map}
use Rattle.trace_model.specs.Links.{Link, word_of, normal_link}
use Rattle.trace_model.specs.Ring.{Core, Reader, IsStart, link_into, page_at}
use Rattle.link_marks.specs.FirstLinks.{IsFirstLink}
use Rattle.ring_model.specs.Reached.{IsReached}
use Rattle.trace_model.proofs.Positions.{at_position, apart}
use Rattle.ring_model.proofs.partition.OneNewRing.{new_ring_is_one}
use Rattle.page_image.specs.Contents.{Contents}
use Rattle.ring_steps.specs.declared.rule.Shape.{Shape}
use Rattle.ring_steps.specs.Made.{writer_made_of}
use Rattle.ring_steps.specs.Views.{Writing, writing_of, laid, AreSeated, begun}
use Rattle.ring_steps.specs.Shown.{HasBody, page_before, AreWords, AreHomes, IsReading, Shows}
use Rattle.ring_steps.specs.Words.{page_word}
use Rattle.ring_steps.specs.Seats.{IsReaderWithin}
use Rattle.ring_steps.specs.Paging.{IsWriterReached}
use Rattle.ring_steps.specs.NewRings.{IsShape, counted, first_writing, first_reading, AreFirstWords}
use Rattle.ring_steps.specs.NewRings.{IsFirstSlot, AreFirstSlots}

pub counted_length : (from count : ℕ) → length (counted from count) ≡ count
counted_length from zero = refl
counted_length from (suc count) = ap suc (counted_length (suc from) count)

pub counted_at : (from count i : ℕ) → i < count → get_or (counted from count) i 0 ≡ from + i
counted_at from zero i low = absurd (omega arith)
counted_at from (suc count) zero low = omega arith
counted_at from (suc count) (suc i) low =
    counted_at (suc from) count i (omega arith) ∙ (let e : suc from + i ≡ from + suc i = omega arith in e)

elem_at : {A : Type 0} (xs : List A) (i : ℕ) (x : A) → slice_get xs i ≡ Some x → get_elem? xs i ≡ some x
elem_at [] i x e = absurd (cc)
elem_at (y ∷ xs) zero x e = ap some (let same : y ≡ x = cc in same)
elem_at (y ∷ xs) (suc i) x e = elem_at xs i x e

module _ (shape : Shape) (is : IsShape shape) (ws : List ℕ) (first_ws : AreFirstWords shape shape.pages ws)
    (slots : List (Option Contents)) (first_slots : AreFirstSlots shape slots) where
  abbrev n : ℕ
  n = shape.pages

  abbrev start : ℕ
  start = shape.start

  some_pages : 1 ≤ n
  some_pages = let a = is.limits.some_pages in omega arith

  slot_at : (page : ℕ) → page < n + 1 → IsFirstSlot shape page (get_or slots page None)
  slot_at page low = let count = first_slots.0 in
      first_slots.1 page (get_or slots page None) (slice_get-get_or slots page None (omega arith))

  home_at : (page : ℕ) (slot : Option Contents) → page < n + 1 → get_or slots page None ≡ slot
      → get_elem? (map some slots) page ≡ some (some slot)
  home_at page slot low e = let count = first_slots.0 in
      at_map some slots page slot (elem_at slots page slot (slice_get-get_or slots page None (omega arith) ∙ ap Some e))

  module _ (c : Core) (s : IsStart n start c) where
    page_is : (f : ℕ) → page_at n c.order f ≡ f % n
    page_is f = s.order (f % n) (mod-lt f some_pages)

    before_is : (f : ℕ) → page_before n c.order f ≡ (f + n - 1) % n
    before_is f = page_is (f + n - 1)

    -- the position after that of the page before a position is that position
    behind : (f : ℕ) → ((f + n - 1) % n + 1) % n ≡ f % n
    behind f = let many = some_pages in
        mod-add-mod (f + n - 1) n 1
        ∙ (ap (λ (k : ℕ). k % n) (let e : f + n - 1 + 1 ≡ f + n = omega arith in e) ∙ add-mod_right f n)

    link_is : (f : ℕ) (link : Link) → IsFirstLink n start (f % n) link → link_into n c.links f ≡ link
    link_is f link first =
        let (g, low, high, position) = at_position start n (f % n) (mod-lt f some_pages) in
        ap (λ (k : ℕ). get_or c.links k (normal_link 0 0)) (sym position)
        ∙ dite (ℕ_discrete g start)
        (λ e.
        ap (link_into n c.links) e
        ∙ (s.first_link
        ∙ (ap (λ (k : ℕ). Rattle.trace_model.specs.Links.header_link k start)
        (sym (ap (λ (k : ℕ). k % n) e) ∙ position)
        ∙ sym (first.first (sym position ∙ ap (λ (k : ℕ). k % n) e)
        ∙ refl))))
        (λ ne.
        s.links g (omega arith) high
        ∙ (ap (λ (k : ℕ). normal_link k g) position ∙ sym (first.others g (omega arith) high position)))

    first_are_words : AreWords n c ws
    first_are_words = record {
      count = first_ws.count;
      opened = first_ws.opened ∙ sym s.opened;
      done = first_ws.done ∙ sym s.done;
      wish = first_ws.wish ∙ sym s.wish;
      links = λ f. let p : ℕ = (f + n - 1) % n in let low : p < n = mod-lt (f + n - 1) some_pages in
          let (link, word, first) = first_ws.links p low in
          ap (λ (k : ℕ). get_or ws (page_word k) 0) (before_is f)
          ∙ (word ∙ ap word_of (sym (link_is f link (subst (λ (k : ℕ). IsFirstLink n start k link) (behind f) first))));
      spare =
          ap (λ (k : ℕ). get_or ws (page_word k) 0) s.spare
          ∙ (first_ws.spare ∙ ap word_of (sym s.spare_link));
    }

    first_are_homes : AreHomes n shape.size c (first_reading shape) (map some slots)
    first_are_homes = let many = some_pages in
        let head = s.head in
        let done = s.done in
        let opened = s.opened in
        record {
          count = length-map slots some ∙ first_slots.0;
          closed = λ f low high. absurd (omega arith);
          free = λ f low high. let below : f % n < n = mod-lt f some_pages in
              let ne : f % n ≢ start % n =
              apart start n f start (omega arith) (omega arith) (omega arith) (omega arith) (λ e. omega arith) in
              let (body, slot, sized) = (slot_at (f % n) (omega arith)).others below ne in
              subst (HasBody (map some slots) shape.size) (sym (page_is f))
              (body, home_at (f % n) (Some body) (omega arith) slot, sized);
          spare =
              λ kept.
              ap (get_elem? (map some slots)) s.spare
              ∙ home_at n None (omega arith) ((slot_at n (omega arith)).spare refl);
        }

    first_is_reading : IsReading c (first_reading shape)
    first_is_reading = record {
      order_is = ext_get_or 0 (counted 0 n) c.order (counted_length 0 n ∙ sym s.pages)
          (λ i low. let count = counted_length 0 n in
          counted_at 0 n i (omega arith) ∙ ((let e : 0 + i ≡ i = omega arith in e) ∙ sym (s.order i (omega arith))));
      spare_is = sym s.spare;
      spare_link_is = sym s.spare_link;
      reader_is = sym s.reader;
      wish_is = sym s.wish;
      observed_is = sym (ap (λ (r : Reader). take r.expected (map as_record (reserved_records c.history))) s.reader);
    }

    first_writing_is : writing_of [] c ≡ first_writing shape
    first_writing_is =
        λ i.
        record {
          made = [];
          frames = s.frames i;
          open_pages = s.open_pages i;
          history = s.history i;
          done = s.done i;
          opened = s.opened i;
        }

  pub starts : Shows n shape.size start (opening ws slots (laid (first_writing shape) (first_reading shape)))
  starts = let (c, s, one) = new_ring_is_one n start some_pages in let numbers = is.numbers_left in record {
    core = c;
    reader = first_reading shape;
    shown = record {
      pages_fit = is.limits.most_pages;
      reached = record {
        from = c;
        exchanges = [];
        may_start = record { some_pages = is.limits.some_pages; numbers_left = omega arith };
        is_new = s;
        run = refl;
      };
      are_words = first_are_words c s;
      are_homes = first_are_homes c s;
      is_reading = first_is_reading c s;
      reader_made_is = refl;
      in_time = tt;
    };
    seats =
        subst
        (λ (w : Writing).
        AreSeated w (first_reading shape) c.head (laid (first_writing shape) (first_reading shape) ∷ []))
        (sym (first_writing_is c s)) begun;
    tail = λ w r e. let same : first_writing shape ≡ w = cc in let low = mod-lt start some_pages in
        ap (λ (v : Writing). get_elem? (map some slots) (get_or v.open_pages 0 0)) (sym same)
        ∙ home_at (start % n) None (omega arith) ((slot_at (start % n) (omega arith)).tail refl);
  }

-- The model's new ring is one that no step is needed to reach, and the writer's first part is its.
pub first_state : (shape : Shape) → IsShape shape
    → (c : Core) × IsStart shape.pages shape.start c × (reached : IsReached shape.pages shape.size shape.start c)
    × (writing_of (writer_made_of reached) c ≡ first_writing shape)
first_state shape is = let some_pages = is.limits.some_pages in
    let (c, s, one) = new_ring_is_one shape.pages shape.start (omega arith) in
    let numbers = is.numbers_left in (
      c,
      s,
      record {
        from = c;
        exchanges = [];
        may_start = record { some_pages = is.limits.some_pages; numbers_left = omega arith };
        is_new = s;
        run = refl;
      },
      λ i.
          record {
            made = [];
            frames = s.frames i;
            open_pages = s.open_pages i;
            history = s.history i;
            done = s.done i;
            opened = s.opened i;
          },
    )

pub first_reached : (shape : Shape) → IsShape shape → IsWriterReached shape (first_writing shape)
first_reached shape is = let (c, s, reached, part_is) = first_state shape is in
    record { core = c; reached = reached; is = part_is }

-- and the reader's first part is within bounds
pub first_within : (shape : Shape) → IsShape shape → IsReaderWithin shape (first_reading shape)
first_within shape is = let numbers = is.numbers_left in let some_pages = is.limits.some_pages in record {
  some_pages = omega arith;
  apart = record {
    pages = counted_length 0 shape.pages;
    each = λ i low. let at = counted_at 0 shape.pages i low in omega arith;
    differ = λ i j low high same. let a = counted_at 0 shape.pages i low in
        let b = counted_at 0 shape.pages j high in
        omega arith;
    spare_below = omega arith;
    spare_differs = λ i low same. let at = counted_at 0 shape.pages i low in omega arith;
  };
  hint = omega arith;
  seen = omega arith;
  storing = λ page fill at. absurd (cc);
  swaps = λ page fill at. absurd (cc);
}
