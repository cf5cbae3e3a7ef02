-- Collections: an order up to having and missing the same, whatever the order and the repeats of parcels.
use Rattle.std.proofs.Common.{◌≡◌, ℕ, ◌↔◌, List, [], ◌∷◌, ◌++◌, Some, ⊎_elim, subst, append_assoc}
use Rattle.std.specs.List.{Contains, slice_get}
use Rattle.std.proofs.lemmas.List.Elements.{Contains-append_left, Contains-push_cases}
use Rattle.std.proofs.lemmas.Option.{slice_get_within, get_or_from_slice_get, slice_get-get_or}
use Rattle.trace_model.specs.Parcel.{Parcel}
use Rattle.trace_model.specs.Collection.{IsBelow, IsSame}
use Rattle.trace_model.proofs.collections.Joined.{joined_left, joined_right, joined_below}

pub below_itself : (ps : List Parcel) → IsBelow ps ps
below_itself ps = record { has = λ cpu number r h. h; misses = λ cpu number h. h }

pub below_below : (ps qs rs : List Parcel) → IsBelow ps qs → IsBelow qs rs → IsBelow ps rs
below_below ps qs rs a b = record {
  has = λ cpu number r h. b.has cpu number r (a.has cpu number r h);
  misses = λ cpu number h. b.misses cpu number (a.misses cpu number h);
}

pub below_both : (ps qs : List Parcel) → IsBelow ps qs → IsBelow qs ps → IsSame ps qs
below_both ps qs a b = record { below = a; above = b }

pub same_itself : (ps : List Parcel) → IsSame ps ps
same_itself ps = below_both ps ps (below_itself ps) (below_itself ps)

pub same_back : (ps qs : List Parcel) → IsSame ps qs → IsSame qs ps
same_back ps qs s = below_both qs ps s.above s.below

pub same_same : (ps qs rs : List Parcel) → IsSame ps qs → IsSame qs rs → IsSame ps rs
same_same ps qs rs a b = below_both ps rs (below_below ps qs rs a.below b.below) (below_below rs qs ps b.above a.above)

-- ---- the same parcels

element_at : (ps : List Parcel) (p : Parcel) → Contains ps p → (k : ℕ) × (slice_get ps k ≡ Some p)
element_at ps p (k, within, is) =
    (k, subst (λ (x : Parcel). slice_get ps k ≡ Some x) is (slice_get-get_or ps k p within))

contains_at : (ps : List Parcel) (k : ℕ) (p : Parcel) → slice_get ps k ≡ Some p → Contains ps p
contains_at ps k p at = (k, slice_get_within ps k p at, get_or_from_slice_get ps k p p at)

-- more parcels have and miss more
pub below_more : (ps qs : List Parcel) → ((p : Parcel) → Contains ps p → Contains qs p) → IsBelow ps qs
below_more ps qs more = record {
  has = λ cpu number r h. let (k, at) = element_at qs h.parcel (more h.parcel (contains_at ps h.index h.parcel h.at)) in
      record { index = k; parcel = h.parcel; at = at; pair = h.pair };
  misses =
      λ cpu number h. let (k, at) =
      element_at qs h.parcel (more h.parcel (contains_at ps h.index h.parcel h.at)) in
      record { index = k; parcel = h.parcel; at = at; missing = h.missing };
}

-- two collections of the same parcels, in any order and with any repeats, are the same
pub same_parcels : (ps qs : List Parcel) → ((p : Parcel) → (Contains ps p ↔ Contains qs p)) → IsSame ps qs
same_parcels ps qs each = below_both ps qs (below_more ps qs (λ p. (each p).0)) (below_more qs ps (λ p. (each p).1))

pub repeated : (ps : List Parcel) (p : Parcel) → Contains ps p → IsSame (ps ++ p ∷ []) ps
repeated ps p there = below_both (ps ++ p ∷ []) ps
    (below_more (ps ++ p ∷ []) ps
    (λ q here. ⊎_elim (λ h. h) (λ is. subst (Contains ps) is there) (Contains-push_cases ps p q here)))
    (below_more ps (ps ++ p ∷ []) (λ q here. Contains-append_left ps (p ∷ []) q here))

-- ---- joined

commuted : (ps qs : List Parcel) → IsBelow (ps ++ qs) (qs ++ ps)
commuted ps qs = joined_below ps qs (qs ++ ps) (joined_right qs ps) (joined_left qs ps)

pub joined_commutes : (ps qs : List Parcel) → IsSame (ps ++ qs) (qs ++ ps)
joined_commutes ps qs = below_both (ps ++ qs) (qs ++ ps) (commuted ps qs) (commuted qs ps)

pub joined_regrouped : (ps qs rs : List Parcel) → IsSame ((ps ++ qs) ++ rs) (ps ++ (qs ++ rs))
joined_regrouped ps qs rs = subst (IsSame ((ps ++ qs) ++ rs)) (append_assoc ps qs rs) (same_itself ((ps ++ qs) ++ rs))

pub joined_twice : (ps : List Parcel) → IsSame (ps ++ ps) ps
joined_twice ps =
    below_both (ps ++ ps) ps (joined_below ps ps ps (below_itself ps) (below_itself ps)) (joined_left ps ps)

-- the joins of what is below are below
pub below_joined : (ps qs above others : List Parcel) → IsBelow ps above → IsBelow qs others
    → IsBelow (ps ++ qs) (above ++ others)
below_joined ps qs above others a b = joined_below ps qs (above ++ others)
    (below_below ps above (above ++ others) a (joined_left above others))
    (below_below qs others (above ++ others) b (joined_right above others))

pub same_joined : (ps qs like others : List Parcel) → IsSame ps like → IsSame qs others
    → IsSame (ps ++ qs) (like ++ others)
same_joined ps qs like others a b =
    below_both (ps ++ qs) (like ++ others) (below_joined ps qs like others a.below b.below)
    (below_joined like others ps qs a.above b.above)
