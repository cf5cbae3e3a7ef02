-- How many records can be reserved, and the moment of the tail's last one.
use Rattle.std.proofs.Common.{◌≡◌, ℕ, ◌+◌, ◌*◌, ◌^◌, ◌<◌, ◌≤◌, List, [], ◌∷◌, length, IfSome, refl, subst, arith}
use Rattle.std.specs.Prelude.{Bool}
use Rattle.trace_model.specs.declared.limits.TheConstants.{MAX_SIZE, LINK_FILLS}
use Rattle.trace_model.specs.Record.{Record}
use Rattle.trace_model.specs.Order.{moment_of_last}
use Rattle.trace_model.specs.History.{Reservation, last_moment, reserved_records}
use Rattle.trace_model.specs.Packing.{cut_from, opens_of, is_wished}
use Rattle.trace_model.specs.Fitting.{tail_at}
use Rattle.trace_model.specs.OpenPages.{AreOf}
use Rattle.trace_model.proofs.packing.FillCuts.{length-cut_from}
use Rattle.trace_model.proofs.packing.FillsJoined.{joined_all}
use Rattle.trace_model.proofs.packing.FillSizes.{fills_hold}
use Rattle.trace_model.proofs.packing.OpenPages.{AreOf-last}
use Rattle.page_image.specs.Contents.{records_of_page}
use Rattle.nested_writer.specs.Stack.{Stack, opened, next_number}
use Rattle.nested_writer.specs.IsStack.{IsStackOf, IsReachedStack}
use Rattle.nested_writer.proofs.Reserving.{number_is, tail_last}

last_is : (rs : List Record) (fill : List Reservation) (prev : ℕ) → AreOf rs fill
    → ((t : Reservation) (ts : List Reservation) → fill ≡ t ∷ ts → last_moment (t ∷ ts) ≡ prev)
    → IfSome (moment_of_last rs) (λ last. last ≡ prev)
last_is [] fill prev all same = tt
last_is (r ∷ rs) [] prev all same = absurd all
last_is (r ∷ rs) (t ∷ ts) prev all same =
    subst (λ (m : ℕ). IfSome (moment_of_last (r ∷ rs)) (λ last. last ≡ m)) (same t ts refl)
    (AreOf-last (r ∷ rs) (t ∷ ts) all)

module _ (start : ℕ) (cuts : List ℕ) (records : List Reservation) (found : Bool) (s : Stack)
    (k : IsStackOf start cuts records found s) where
  pub tail_ends_at : IfSome (moment_of_last (records_of_page s.tail)) (λ last. last ≡ s.last_moment)
  tail_ends_at =
      last_is (records_of_page s.tail) (tail_at cuts records) s.last_moment k.tail_is.holds.each
      (tail_last start cuts records found s k)

  few : (fills : ℕ) → length cuts + 1 ≤ fills → 8 * length records ≤ MAX_SIZE * fills
  few fills le =
      let low : 8 * length records ≤ MAX_SIZE * length (cut_from 0 cuts records) =
      subst (λ (l : List Reservation). 8 * length l ≤ MAX_SIZE * length (cut_from 0 cuts records))
      (joined_all 0 cuts records k.rising)
      (fills_hold MAX_SIZE (cut_from 0 cuts records)
      (λ i inside. let fits = k.room i in let large = k.large in omega arith)) in
      let count = length-cut_from 0 cuts records in omega arith

  -- the next record's number fits
  pub number_fits : opened s ≤ LINK_FILLS → next_number s < 2 ^ 63
  number_fits le = let begun = k.begun in
      let low = few LINK_FILLS (omega arith) in
      let is = number_is start cuts records found s k in
      omega arith

-- of a stack of some history
pub stands_fits : (s : Stack) → IsReachedStack s → opened s ≤ LINK_FILLS → next_number s < 2 ^ 63
unfolding IsReachedStack
stands_fits s (start, history, k) le =
    number_fits start (opens_of history) (reserved_records history) (is_wished history) s k.holds le

pub stands_ends_at : (s : Stack) → IsReachedStack s
    → IfSome (moment_of_last (records_of_page s.tail)) (λ last. last ≡ s.last_moment)
unfolding IsReachedStack
stands_ends_at s (start, history, k) =
    tail_ends_at start (opens_of history) (reserved_records history) (is_wished history) s k.holds
