-- The reader's part of a new ring.
use Rattle.std.proofs.Common.{◌≡◌, ℕ, ◌+◌, List, [], length, get_or, take, map, refl, sym, ap, ◌∙◌, subst, arith}
use Rattle.std.proofs.lemmas.List.{ext_get_or}
use Rattle.std.proofs.lemmas.Option.{slice_get-get_or}
use Rattle.trace_model.specs.History.{as_record, reserved_records}
use Rattle.trace_model.specs.Ring.{Reader}
use Rattle.ring_model.proofs.partition.OneNewRing.{new_ring_is_one}
use Rattle.ring_frames.specs.FirstPages.{AreFirstPages}
use Rattle.ring_steps.specs.declared.rule.Shape.{Shape}
use Rattle.ring_steps.specs.Views.{Reading}
use Rattle.ring_steps.specs.NewRings.{IsShape, counted, first_reading}
use Rattle.ring_steps.proofs.Starts.{counted_length, counted_at}
use Rattle.ring_shared.specs.Takes.{IsReaderPart}

-- the pages of a new ring, by their numbers
pub counted_pages : (n : ℕ) (order : List ℕ) → length order ≡ n → AreFirstPages order → counted 0 n ≡ order
counted_pages n order pages each = ext_get_or 0 (counted 0 n) order (counted_length 0 n ∙ sym pages) (λ i low.
    let count = counted_length 0 n in
    counted_at 0 n i (omega arith) ∙ (let e : 0 + i ≡ i = omega arith in e)
    ∙ sym (each i (get_or order i 0) (slice_get-get_or order i 0 (omega arith))))

-- it is that of a state that steps reach
pub first_part : (shape : Shape) (part : Reading) → IsShape shape → part ≡ first_reading shape → IsReaderPart shape part
first_part shape part is same =
    let some_pages = is.limits.some_pages in let numbers = is.numbers_left in
    let (c, s, one) = new_ring_is_one shape.pages shape.start (omega arith) in
    subst (IsReaderPart shape) (sym same) record {
      core = c;
      reached =
          record {
            from = c;
            exchanges = [];
            may_start = record { some_pages = is.limits.some_pages; numbers_left = omega arith };
            is_new = s;
            run = refl;
          };
      is = record {
        order_is = ext_get_or 0 (counted 0 shape.pages) c.order (counted_length 0 shape.pages ∙ sym s.pages)
            (λ i low. let count = counted_length 0 shape.pages in
            counted_at 0 shape.pages i (omega arith)
            ∙ ((let e : 0 + i ≡ i = omega arith in e) ∙ sym (s.order i (omega arith))));
        spare_is = sym s.spare;
        spare_link_is = sym s.spare_link;
        reader_is = sym s.reader;
        wish_is = sym s.wish;
        observed_is = sym (ap (λ (r : Reader). take r.expected (map as_record (reserved_records c.history))) s.reader);
      };
      made_is = refl;
    }
