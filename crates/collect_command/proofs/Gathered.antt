-- Parcels that are added to a collector, one after the other.
use Rattle.std.proofs.Common.{◌≡◌, ℕ, ◌+◌, List, [], ◌∷◌, ◌++◌, take, drop, append_assoc, take-append-drop, sym, ap}
use Rattle.std.proofs.Common.{◌∙◌, subst}
use Rattle.std.proofs.lemmas.List.{map-append}
use Rattle.trace_model.specs.Parcel.{Parcel}
use Rattle.trace_model.specs.Collection.{Agree, IsBelow, IsSame}
use Rattle.trace_model.proofs.collections.Collections.{below_itself, below_both, same_itself, same_same, same_joined}
use Rattle.trace_model.proofs.collections.Joined.{joined_left, joined_below, below_agrees}
use Rattle.page_numbers.specs.Parcels.{ParcelValue, as_parcel, as_parcels}
use Rattle.collector.specs.declared.added.Added.{Added}
use Rattle.collector.specs.declared.added.Added.TheVariants.{New, Known}
use Rattle.collector.specs.deliveries.Deliveries.{Adds}

-- those that were added, and one parcel more
same_beside : (start joined : List Parcel) (given : List ParcelValue) (q : ParcelValue)
    → IsSame joined (start ++ as_parcels given)
    → IsSame (joined ++ as_parcel q ∷ []) (start ++ as_parcels (given ++ q ∷ []))
same_beside start joined given q same =
    let one = as_parcel q ∷ [] in
    let more : (start ++ as_parcels given) ++ one ≡ start ++ as_parcels (given ++ q ∷ []) =
    append_assoc start (as_parcels given) one
    ∙ ap (λ (xs : List Parcel). start ++ xs) (sym (map-append as_parcel given (q ∷ []))) in
    subst (IsSame (joined ++ one)) more (same_joined joined one (start ++ as_parcels given) one same (same_itself one))

-- a collector to which a parcel was added has and misses what both had and missed
adds_both : (added : Added) (old : List Parcel) (p : Parcel) (new : List Parcel) → Adds added old p new
    → IsSame new (old ++ p ∷ [])
adds_both New old p new adds =
    subst (λ (ps : List Parcel). IsSame ps (old ++ p ∷ [])) (sym adds.1) (same_itself (old ++ p ∷ []))
adds_both Known old p new adds =
    subst (λ (ps : List Parcel). IsSame ps (old ++ p ∷ [])) (sym adds.1)
    (below_both old (old ++ p ∷ []) (joined_left old (p ∷ []))
    (joined_below old (p ∷ []) old (below_itself old) adds.0))

-- one parcel more is added
pub same_more : (start joined new : List Parcel) (given : List ParcelValue) (q : ParcelValue) (added : Added)
    → IsSame joined (start ++ as_parcels given) → Adds added joined (as_parcel q) new
    → IsSame new (start ++ as_parcels (given ++ q ∷ []))
same_more start joined new given q added same adds =
    same_same new (joined ++ as_parcel q ∷ []) (start ++ as_parcels (given ++ q ∷ []))
    (adds_both added joined (as_parcel q) new adds) (same_beside start joined given q same)

-- ---- none contradicts another

front_below : (start : List Parcel) (k : ℕ) (given : List ParcelValue)
    → IsBelow (start ++ as_parcels (take k given)) (start ++ as_parcels given)
front_below start k given =
    let front = as_parcels (take k given) in
    let back = as_parcels (drop k given) in
    let both = sym (map-append as_parcel (take k given) (drop k given)) ∙ ap as_parcels (take-append-drop k given) in
    let whole : (start ++ front) ++ back ≡ start ++ as_parcels given =
    append_assoc start front back ∙ ap (λ (xs : List Parcel). start ++ xs) both in
    subst (IsBelow (start ++ front)) whole (joined_left (start ++ front) back)

-- the next parcel agrees with those that were added
pub next_agrees : (start joined : List Parcel) (given : List ParcelValue) (k : ℕ) (q : ParcelValue)
    → IsSame joined (start ++ as_parcels (take k given)) → take k given ++ q ∷ [] ≡ take (k + 1) given
    → Agree (start ++ as_parcels given) → Agree (joined ++ as_parcel q ∷ [])
next_agrees start joined given k q same more agree =
    let front : Agree (start ++ as_parcels (take (k + 1) given)) =
    below_agrees (start ++ as_parcels (take (k + 1) given)) (start ++ as_parcels given)
    (front_below start (k + 1) given) agree in
    below_agrees (joined ++ as_parcel q ∷ []) (start ++ as_parcels (take k given ++ q ∷ []))
    (same_beside start joined (take k given) q same).below
    (subst (λ (xs : List ParcelValue). Agree (start ++ as_parcels xs)) (sym more) front)
