-- A search by fill among parcels whose fills rise.
use Rattle.std.proofs.Common.{◌≡◌, ◌≢◌, ℕ, ◌+◌, List, get_or, sym, ap, ◌∙◌, arith, ⊎_elim}
use Rattle.std.specs.Prelude.{All}
use Rattle.std.specs.Cmp.{ranked, nat_cmp_is}
use Rattle.std.specs.Ordering.{nat_cmp, is_lt, ordering_index}
use Rattle.std.specs.declared.cmp.Ordering.TheVariants.{Less, Equal, Greater}
use Rattle.std.specs.List.Sorted.{IsNonDecreasingBy, IsPartitionPoint, IsSortedBy}
use Rattle.std.proofs.lemmas.Cmp.{nat_cmp_total}
use Rattle.std.proofs.lemmas.List.Sorted.{searchable_from_sorted}
use Rattle.std.proofs.lemmas.Bool.{cases_lt}
use Rattle.std.proofs.lemmas.List.Elements.{All-map}
use Rattle.trace_model.specs.Parcel.{Parcel}
use Rattle.page_numbers.specs.Parcels.{ParcelValue, as_parcel, as_parcels}
use Rattle.page_numbers.proofs.AsParcels.{parcel_at}
use Rattle.collector.specs.deliveries.Deliveries.{AreRising}

fills_sorted : (parcels : List ParcelValue) → AreRising (as_parcels parcels)
    → IsSortedBy (λ a b. is_lt (nat_cmp a.page.fill b.page.fill)) parcels
fills_sorted parcels up = λ k d _ inside.
    let rises =
    up k (k + 1) (as_parcel (get_or parcels k d)) (as_parcel (get_or parcels (k + 1) d)) (omega arith)
    (parcel_at parcels k d (omega arith)) (parcel_at parcels (k + 1) d inside) in
    let greater =
    nat_cmp_is (get_or parcels (k + 1) d).page.fill (get_or parcels k d).page.fill Greater (omega arith) in
    ap is_lt (sym greater)

-- the search found the parcel of this fill
pub found_fill : (fill : ℕ) (parcels : List ParcelValue) (at : ℕ) (parcel : ParcelValue)
    → parcel ≡ get_or parcels at parcel → nat_cmp (get_or parcels at parcel).page.fill fill ≡ Equal
    → parcel.page.fill ≡ fill
found_fill fill parcels at parcel is tied =
    ap (λ (x : ParcelValue). x.page.fill) is ∙ ranked (get_or parcels at parcel).page.fill fill Equal (sym tied)

-- the search found no parcel of this fill
pub found_nowhere : (fill : ℕ) (parcels : List ParcelValue) (i : ℕ) → AreRising (as_parcels parcels)
    → (IsNonDecreasingBy (λ y. ordering_index (nat_cmp y.page.fill fill)) parcels
    → IsPartitionPoint (λ y. nat_cmp y.page.fill fill ≡ Less) (λ y. nat_cmp y.page.fill fill ≡ Greater) parcels i)
    → All (λ parcel. parcel.fill ≢ fill) (as_parcels parcels)
found_nowhere fill parcels i up search_says =
    All-map (λ (parcel : Parcel). parcel.fill ≢ fill) as_parcel parcels (λ k d inside e.
    let parts =
    search_says
    (searchable_from_sorted nat_cmp_total (λ (x : ParcelValue). x.page.fill) parcels fill
    (fills_sorted parcels up)) in
    ⊎_elim
    (λ below. let less = ranked (get_or parcels k d).page.fill fill Less (sym (parts.0 k d (omega arith) below)) in
    omega arith)
    (λ above. let greater = ranked (get_or parcels k d).page.fill fill Greater (sym (parts.1 k d above inside)) in
    omega arith)
    (cases_lt k i))
