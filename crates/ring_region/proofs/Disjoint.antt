-- The parcels of a region have no number in common.
use Rattle.std.proofs.Common.{◌≡◌, ◌∙◌, ℕ, zero, suc, ◌+◌, ◌≤◌, ◌<◌, List, [], ◌∷◌, Some, refl, sym, ap, subst, arith}
use Rattle.std.specs.List.{slice_get}
use Rattle.std.proofs.lemmas.Option.{slice_get_within, none-some}
use Rattle.trace_model.specs.Record.{Record}
use Rattle.trace_model.specs.Parcel.{Parcel, IsPairOf, IsMissingOf}
use Rattle.trace_model.specs.Collection.{Agree}
use Rattle.trace_model.proofs.collections.Elements.{some_is}
use Rattle.ring_region.specs.Order.{end_of}
use Rattle.ring_region.proofs.Rising.{AreApart}

-- a number is one of a parcel's records or of what it misses
abbrev IsOf : Parcel → ℕ → Type 0
IsOf parcel n = (parcel.first ≤ n + parcel.missed) × (n < end_of parcel)

-- the numbers of all parcels are not below this one
above : (low : ℕ) (parcels : List Parcel) → AreApart low parcels → (k : ℕ) (parcel : Parcel)
    → slice_get parcels k ≡ Some parcel
    → low + parcel.missed ≤ parcel.first
above low [] apart k parcel at = absurd (none-some parcel at)
above low (first ∷ parcels) apart zero parcel at =
    subst (λ (p : Parcel). low + p.missed ≤ p.first) (some_is first parcel at) apart.0
above low (first ∷ parcels) apart (suc k) parcel at =
    let here = apart.0 in let rest = above (end_of first) parcels apart.1 k parcel at in omega arith

of_first : (first parcel : Parcel) (n : ℕ) → Some first ≡ Some parcel → IsOf parcel n → n < end_of first
of_first first parcel n at is = subst (λ (p : Parcel). n < end_of p) (sym (some_is first parcel at)) is.1

-- a number is of one parcel
one_index : (low : ℕ) (parcels : List Parcel) → AreApart low parcels → (i j : ℕ) (p q : Parcel) (n : ℕ)
    → slice_get parcels i ≡ Some p → slice_get parcels j ≡ Some q → IsOf p n → IsOf q n → i ≡ j
one_index low [] apart i j p q n at_i at_j of_p of_q = absurd (none-some p at_i)
one_index low (first ∷ parcels) apart zero zero p q n at_i at_j of_p of_q = refl
one_index low (first ∷ parcels) apart zero (suc j) p q n at_i at_j of_p of_q =
    let under = of_first first p n at_i of_p in
    let over = above (end_of first) parcels apart.1 j q at_j in absurd (omega (arith, of_q.0, under, over))
one_index low (first ∷ parcels) apart (suc i) zero p q n at_i at_j of_p of_q =
    let under = of_first first q n at_j of_q in
    let over = above (end_of first) parcels apart.1 i p at_i in absurd (omega (arith, of_p.0, under, over))
one_index low (first ∷ parcels) apart (suc i) (suc j) p q n at_i at_j of_p of_q =
    ap suc (one_index (end_of first) parcels apart.1 i j p q n at_i at_j of_p of_q)

one_parcel : (low : ℕ) (parcels : List Parcel) → AreApart low parcels → (i j : ℕ) (p q : Parcel) (n : ℕ)
    → slice_get parcels i ≡ Some p → slice_get parcels j ≡ Some q → IsOf p n → IsOf q n → p ≡ q
one_parcel low parcels apart i j p q n at_i at_j of_p of_q =
    let same = one_index low parcels apart i j p q n at_i at_j of_p of_q in
    some_is p q (sym at_i ∙ ap (λ (k : ℕ). slice_get parcels k) same ∙ at_j)

paired : (cpu number : ℕ) (r : Record) (p : Parcel) → IsPairOf p cpu number r → IsOf p number
paired cpu number r p pair = let inside = slice_get_within p.records pair.index r pair.record_is in
    (omega (arith, pair.number_is), omega (arith, pair.number_is, inside))

missed_of_parcel : (cpu number : ℕ) (p : Parcel) → IsMissingOf p cpu number → IsOf p number
missed_of_parcel cpu number p missing = (missing.low, omega (arith, missing.high))

pub apart_agree : (low : ℕ) (parcels : List Parcel) → AreApart low parcels → Agree parcels
apart_agree low parcels apart = record {
  one_record = λ c n r other has has_too.
      let same = one_parcel low parcels apart has.index has_too.index has.parcel has_too.parcel n has.at has_too.at
      (paired c n r has.parcel has.pair) (paired c n other has_too.parcel has_too.pair) in
      let first = ap (λ (p : Parcel). p.first) same in
      let place : has.pair.index ≡ has_too.pair.index =
      omega (arith, has.pair.number_is, has_too.pair.number_is, first) in
      some_is r other (sym has.pair.record_is ∙ ap (λ (p : Parcel). slice_get p.records has.pair.index) same
      ∙ ap (λ (k : ℕ). slice_get has_too.parcel.records k) place ∙ has_too.pair.record_is);
  not_missing = λ c n r has misses.
      let same = one_parcel low parcels apart has.index misses.index has.parcel misses.parcel n has.at misses.at
      (paired c n r has.parcel has.pair) (missed_of_parcel c n misses.parcel misses.missing) in
      let first = ap (λ (p : Parcel). p.first) same in
      absurd (omega (arith, has.pair.number_is, misses.missing.high, first));
}
