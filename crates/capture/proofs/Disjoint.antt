-- The parcels of a capture have no number in common.
use Rattle.std.proofs.Common.{◌≡◌, ◌∙◌, ℕ, zero, suc, ◌+◌, ◌≤◌, ◌<◌, List, [], ◌∷◌, length, Some, refl, sym, ap, subst}
use Rattle.std.proofs.Common.{arith}
use Rattle.std.specs.List.{slice_get}
use Rattle.std.proofs.lemmas.Option.{slice_get_within}
use Rattle.trace_model.specs.Record.{Record}
use Rattle.trace_model.specs.Parcel.{Parcel, IsPairOf, IsMissingOf}
use Rattle.trace_model.specs.Collection.{Agree}
use Rattle.capture.specs.Pages.{PageRead, Page, intact, damaged, parcel_at, parcels_from, behind}
use Rattle.capture.proofs.Numbers.{none_some, some_parcel}

-- a number is one of a parcel's records or of what it misses
abbrev IsOf : Parcel → ℕ → Type 0
IsOf p n = (p.first ≤ n + p.missed) × (n < p.first + length p.records)

-- the numbers of all parcels are not below the first that is given
pub above : (cpu fill next : ℕ) (pages : List Page) (k : ℕ) (p : Parcel)
    → slice_get (parcels_from cpu fill next pages) k ≡ Some p
    → (next + p.missed ≤ p.first)
above cpu fill next [] k p at = absurd (none_some at)
above cpu fill next (damaged cause ∷ pages) k p at = above cpu (suc fill) next pages k p at
above cpu fill next (intact read ∷ pages) zero p at =
    subst (λ (q : Parcel). next + q.missed ≤ q.first) (some_parcel (parcel_at cpu fill next read) p at) (omega arith)
above cpu fill next (intact read ∷ pages) (suc k) p at =
    let rest = above cpu (suc fill) (behind next (intact read)) pages k p at in omega arith

-- the first parcel's numbers are below those of the others
below : (cpu fill next : ℕ) (read : PageRead) (p : Parcel) (n : ℕ) → Some (parcel_at cpu fill next read) ≡ Some p
    → IsOf p n
    → n < behind next (intact read)
below cpu fill next read p n at is =
    let same = some_parcel (parcel_at cpu fill next read) p at in
    subst (λ (q : Parcel). IsOf q n → n < behind next (intact read)) same (λ of. of.1) is

-- a number is of one parcel
one_index : (cpu fill next : ℕ) (pages : List Page) (i j : ℕ) (p q : Parcel) (n : ℕ)
    → slice_get (parcels_from cpu fill next pages) i ≡ Some p → slice_get (parcels_from cpu fill next pages) j ≡ Some q
    → IsOf p n → IsOf q n → i ≡ j
one_index cpu fill next [] i j p q n at_i at_j of_p of_q = absurd (none_some at_i)
one_index cpu fill next (damaged cause ∷ pages) i j p q n at_i at_j of_p of_q =
    one_index cpu (suc fill) next pages i j p q n at_i at_j of_p of_q
one_index cpu fill next (intact read ∷ pages) zero zero p q n at_i at_j of_p of_q = refl
one_index cpu fill next (intact read ∷ pages) zero (suc j) p q n at_i at_j of_p of_q =
    let low = below cpu fill next read p n at_i of_p in
    let high = above cpu (suc fill) (behind next (intact read)) pages j q at_j in
    absurd (omega (arith, of_q.0, low, high))
one_index cpu fill next (intact read ∷ pages) (suc i) zero p q n at_i at_j of_p of_q =
    let low = below cpu fill next read q n at_j of_q in
    let high = above cpu (suc fill) (behind next (intact read)) pages i p at_i in
    absurd (omega (arith, of_p.0, low, high))
one_index cpu fill next (intact read ∷ pages) (suc i) (suc j) p q n at_i at_j of_p of_q =
    ap suc (one_index cpu (suc fill) (behind next (intact read)) pages i j p q n at_i at_j of_p of_q)

one_parcel : (cpu fill next : ℕ) (pages : List Page) (i j : ℕ) (p q : Parcel) (n : ℕ)
    → slice_get (parcels_from cpu fill next pages) i ≡ Some p → slice_get (parcels_from cpu fill next pages) j ≡ Some q
    → IsOf p n → IsOf q n → p ≡ q
one_parcel cpu fill next pages i j p q n at_i at_j of_p of_q =
    let same = one_index cpu fill next pages i j p q n at_i at_j of_p of_q in
    some_parcel p q (sym at_i ∙ ap (λ (k : ℕ). slice_get (parcels_from cpu fill next pages) k) same ∙ at_j)

some_record : (a b : Record) → Some a ≡ Some b → a ≡ b
some_record a b e = cc

paired : (cpu number : ℕ) (r : Record) (p : Parcel) → IsPairOf p cpu number r → IsOf p number
paired cpu number r p pair = let inside = slice_get_within p.records pair.index r pair.record_is in
    (omega (arith, pair.number_is), omega (arith, pair.number_is, inside))

missed_of_parcel : (cpu number : ℕ) (p : Parcel) → IsMissingOf p cpu number → IsOf p number
missed_of_parcel cpu number p missing = (missing.low, omega (arith, missing.high))

pub agree : (cpu fill next : ℕ) (pages : List Page) → Agree (parcels_from cpu fill next pages)
agree cpu fill next pages = record {
  one_record = λ c n r other has has_too.
      let same = one_parcel cpu fill next pages has.index has_too.index has.parcel has_too.parcel n has.at has_too.at
      (paired c n r has.parcel has.pair) (paired c n other has_too.parcel has_too.pair) in
      let first = ap (λ (p : Parcel). p.first) same in
      let place : has.pair.index ≡ has_too.pair.index =
      omega (arith, has.pair.number_is, has_too.pair.number_is, first) in
      some_record r other (sym has.pair.record_is ∙ ap (λ (p : Parcel). slice_get p.records has.pair.index) same
      ∙ ap (λ (k : ℕ). slice_get has_too.parcel.records k) place ∙ has_too.pair.record_is);
  not_missing = λ c n r has misses.
      let same = one_parcel cpu fill next pages has.index misses.index has.parcel misses.parcel n has.at misses.at
      (paired c n r has.parcel has.pair) (missed_of_parcel c n misses.parcel misses.missing) in
      let first = ap (λ (p : Parcel). p.first) same in
      absurd (omega (arith, has.pair.number_is, misses.missing.high, first));
}
