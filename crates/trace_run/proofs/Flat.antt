-- The parcels of ledgers, one ledger after the other.
use Rattle.std.proofs.Common.{◌≡◌, ⊎_elim, ℕ, zero, suc, ◌+◌, ◌<◌, ◌≤◌, List, [], ◌∷◌, ◌++◌, length, get_or, take, Some}
use Rattle.std.proofs.Common.{refl, sym, ap, ◌∙◌, subst, arith}
use Rattle.std.specs.Prelude.{Contains}
use Rattle.std.specs.List.{slice_get}
use Rattle.std.proofs.lemmas.List.{take_more, flat_map_more}
use Rattle.std.proofs.lemmas.List.Elements.{Contains-append_left, Contains-append_right, Contains-append_cases}
use Rattle.std.proofs.lemmas.Option.{none-some, slice_get-get_or, slice_get_within}
use Rattle.trace_model.specs.Parcel.{Parcel}
use Rattle.trace_model.proofs.collections.Elements.{some_is}
use Rattle.world_model.proofs.Lookups.{element_at}
use Rattle.trace_run.specs.declared.ledgers.ledger.Ledger.{Ledger}
use Rattle.trace_run.specs.ledgers.Audit.{taken_of, taken_in}
use Rattle.trace_run.specs.ledgers.Order.{AreOwn}

-- a parcel of one of the ledgers
pub record IsOfOne (ledgers : List Ledger) (parcel : Parcel) : Type 0 where
  pub index : ℕ
  pub ledger : Ledger
  pub at : slice_get ledgers index ≡ Some ledger
  pub has : Contains (taken_of ledger) parcel

pub of_one : (ledgers : List Ledger) (parcel : Parcel) → Contains (taken_in ledgers) parcel → IsOfOne ledgers parcel
of_one [] parcel has = absurd (omega (arith, has.1))
of_one (l ∷ ls) parcel has = ⊎_elim
    (λ here. record { index = 0; ledger = l; at = refl; has = here })
    (λ later. let o = of_one ls parcel later in
    record { index = suc o.index; ledger = o.ledger; at = o.at; has = o.has })
    (Contains-append_cases (taken_of l) (taken_in ls) parcel has)

pub of_all : (ledgers : List Ledger) (k : ℕ) (ledger : Ledger) (parcel : Parcel) → slice_get ledgers k ≡ Some ledger
    → Contains (taken_of ledger) parcel → Contains (taken_in ledgers) parcel
of_all [] k ledger parcel at has = absurd (none-some ledger at)
of_all (l ∷ ls) zero ledger parcel at has =
    Contains-append_left (taken_of l) (taken_in ls) parcel
    (subst (λ (x : Ledger). Contains (taken_of x) parcel) (sym (some_is l ledger at)) has)
of_all (l ∷ ls) (suc k) ledger parcel at has =
    Contains-append_right (taken_of l) (taken_in ls) parcel (of_all ls k ledger parcel at has)

-- an element that was read
pub item_at : (ledgers : List Ledger) (k : ℕ) (ledger : Ledger) → k < length ledgers → ledger ≡ get_or ledgers k ledger
    → slice_get ledgers k ≡ Some ledger
item_at ledgers k ledger within is = slice_get-get_or ledgers k ledger within ∙ ap (λ (l : Ledger). Some l) (sym is)

-- one ledger more
pub ledger_more : (ledgers : List Ledger) (i : ℕ) (l : Ledger) → i < length ledgers → l ≡ get_or ledgers i l
    → taken_in (take (i + 1) ledgers) ≡ taken_in (take i ledgers) ++ (taken_of l)
ledger_more ledgers i l within is =
    ap taken_in (take_more ledgers i l within ∙ ap (λ (y : Ledger). take i ledgers ++ y ∷ []) (sym is))
    ∙ sym (flat_map_more taken_of [] (take i ledgers) l)

-- ---- if each ledger has parcels of its own CPU alone

module _ (ledgers : List Ledger) (own : AreOwn ledgers) where
  -- what was taken of a CPU is in the ledger of that CPU
  pub in_own : (cpu : ℕ) (ledger : Ledger) (parcel : Parcel) → slice_get ledgers cpu ≡ Some ledger → parcel.cpu ≡ cpu
      → Contains (taken_in ledgers) parcel → Contains (taken_of ledger) parcel
  in_own cpu ledger parcel at is has =
      let o = of_one ledgers parcel has in
      let (k, there) = element_at (taken_of o.ledger) parcel o.has in
      let here : o.index ≡ cpu = sym (own o.index o.ledger o.at k parcel there) ∙ is in
      subst (λ (l : Ledger). Contains (taken_of l) parcel)
      (some_is o.ledger ledger (sym o.at ∙ ap (slice_get ledgers) here ∙ at)) o.has

  -- nothing was taken of a CPU without a ledger
  pub in_none : (parcel : Parcel) → length ledgers ≤ parcel.cpu → Contains (taken_in ledgers) parcel → ⊥
  in_none parcel past has =
      let o = of_one ledgers parcel has in
      let (k, there) = element_at (taken_of o.ledger) parcel o.has in
      let here = own o.index o.ledger o.at k parcel there in
      let within = slice_get_within ledgers o.index o.ledger o.at in omega arith
