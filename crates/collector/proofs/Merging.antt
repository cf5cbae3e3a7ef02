-- A collector that is made parcel by parcel: what it has, and which parcels it keeps.
use Rattle.std.proofs.Common.{◌≡◌, inl, inr, ℕ, ◌+◌, ◌<◌, ◌≤◌, ◌↔◌, Bool, true, false, MatchBool, List, [], ◌∷◌, ◌++◌}
use Rattle.std.proofs.Common.{length, take, drop, get_or, append_assoc, append-nil, ⊎_elim, refl, sym, ap, ◌∙◌, subst}
use Rattle.std.proofs.lemmas.List.{take_more, take_all, take-append-drop}
use Rattle.trace_model.specs.Parcel.{Parcel}
use Rattle.trace_model.specs.Collection.{Agree, IsBelow, IsSame, IsLeastUpperBound}
use Rattle.trace_model.proofs.collections.Joined.{joined_left, joined_right, joined_below, below_agrees}
use Rattle.trace_model.proofs.collections.Collections.{below_itself, below_below, same_itself, same_same, same_joined}
use Rattle.collector.specs.declared.added.Added.{Added}
use Rattle.collector.specs.declared.added.Added.TheVariants.{New, Known}
use Rattle.collector.specs.Merged.{IsKeptBehind, IsMerged}

-- ---- one more of the other's

pub next_same : (ps qs joined new : List Parcel) (k : ℕ) (q : Parcel) → k < length qs → q ≡ get_or qs k q
    → IsSame joined (ps ++ take k qs)
    → IsSame new (joined ++ q ∷ []) → IsSame new (ps ++ take (k + 1) qs)
next_same ps qs joined new k q within is same union =
    let more : (ps ++ take k qs) ++ q ∷ [] ≡ ps ++ take (k + 1) qs =
    append_assoc ps (take k qs) (q ∷ [])
    ∙ ap (λ (xs : List Parcel). ps ++ xs)
    (ap (λ (x : Parcel). take k qs ++ x ∷ []) is ∙ sym (take_more qs k q within)) in
    same_same new (joined ++ q ∷ []) (ps ++ take (k + 1) qs) union
    (subst (IsSame (joined ++ q ∷ [])) more
    (same_joined joined (q ∷ []) (ps ++ take k qs) (q ∷ []) same (same_itself (q ∷ []))))

pub kept_behind : (joined new : List Parcel) (q : Parcel) (a : Added) → (a ≡ New → new ≡ joined ++ q ∷ [])
    → (a ≡ Known → new ≡ joined)
    → ((a ≡ Known) ↔ IsBelow (q ∷ []) joined) → IsKeptBehind joined q new
kept_behind joined new q New is_new is_known known = inr ((λ below. let e = known.1 below in cc), is_new refl)
kept_behind joined new q Known is_new is_known known = inl (known.0 refl, is_known refl)

merged_more : (old xs mid new : List Parcel) (q : Parcel) → IsMerged old xs mid → IsKeptBehind mid q new
    → IsMerged old (xs ++ q ∷ []) new
merged_more old [] mid new q merged kept = (new, subst (λ (ps : List Parcel). IsKeptBehind ps q new) merged kept, refl)
merged_more old (x ∷ xs) mid new q merged kept = (merged.0, merged.1, merged_more merged.0 xs mid new q merged.2 kept)

pub next_merged : (old qs mid new : List Parcel) (k : ℕ) (q : Parcel) → k < length qs → q ≡ get_or qs k q
    → IsMerged old (take k qs) mid
    → IsKeptBehind mid q new → IsMerged old (take (k + 1) qs) new
next_merged old qs mid new k q within is merged kept =
    subst (λ (xs : List Parcel). IsMerged old xs new)
    (ap (λ (x : Parcel). take k qs ++ x ∷ []) is ∙ sym (take_more qs k q within))
    (merged_more old (take k qs) mid new q merged kept)

-- ---- back to the own parcels

-- those of a merged collector begin with its own
starts_with : (old xs new : List Parcel) → IsMerged old xs new → (rest : List Parcel) × (new ≡ old ++ rest)
starts_with old [] new merged = ([], merged ∙ sym (append-nil old))
starts_with old (x ∷ xs) new merged =
    let h : (rest : List Parcel) × (new ≡ merged.0 ++ rest) = starts_with merged.0 xs new merged.2 in
    ⊎_elim
    (λ (known : IsBelow (x ∷ []) old × (merged.0 ≡ old)). (h.0, h.1 ∙ ap (λ (ps : List Parcel). ps ++ h.0) known.1))
    (λ (kept : (IsBelow (x ∷ []) old → ⊥) × (merged.0 ≡ old ++ x ∷ [])).
    (x ∷ h.0, h.1 ∙ ap (λ (ps : List Parcel). ps ++ h.0) kept.1 ∙ append_assoc old (x ∷ []) h.0))
    merged.1

take_own : (ps rest : List Parcel) → take (length ps) (ps ++ rest) ≡ ps
take_own [] rest = refl
take_own (p ∷ ps) rest = ap (λ (xs : List Parcel). p ∷ xs) (take_own ps rest)

pub merged_goes_back : (old xs new : List Parcel) → IsMerged old xs new → take (length old) new ≡ old
merged_goes_back old xs new merged =
    let h = starts_with old xs new merged in ap (take (length old)) h.1 ∙ take_own old h.0

-- ---- all of them

pub same_least : (ps qs joined : List Parcel) (k : ℕ) → length qs ≤ k → Agree (ps ++ qs)
    → IsSame joined (ps ++ take k qs) → IsLeastUpperBound ps qs joined
same_least ps qs joined k all agree partly =
    let same : IsSame joined (ps ++ qs) =
    subst (λ (xs : List Parcel). IsSame joined (ps ++ xs)) (take_all k qs all) partly in
    record {
      agree = below_agrees joined (ps ++ qs) same.below agree;
      left = below_below ps (ps ++ qs) joined (joined_left ps qs) same.above;
      right = below_below qs (ps ++ qs) joined (joined_right ps qs) same.above;
      least = λ above a b. below_below joined (ps ++ qs) above same.below (joined_below ps qs above a b);
    }

-- ---- nothing new

more_taken : (qs : List Parcel) (k : ℕ) (q : Parcel) → k < length qs → q ≡ get_or qs k q
    → take k qs ++ q ∷ [] ≡ take (k + 1) qs
more_taken qs k q within is = ap (λ (x : Parcel). take k qs ++ x ∷ []) is ∙ sym (take_more qs k q within)

pub taken_below : (ps qs : List Parcel) (k : ℕ) (q : Parcel) → k < length qs → q ≡ get_or qs k q
    → IsBelow (take k qs) ps
    → IsBelow (q ∷ []) ps → IsBelow (take (k + 1) qs) ps
taken_below ps qs k q within is below next =
    subst (λ (xs : List Parcel). IsBelow xs ps) (more_taken qs k q within is)
    (joined_below (take k qs) (q ∷ []) ps below next)

pub all_below : (ps qs : List Parcel) (k : ℕ) → length qs ≤ k → IsBelow (take k qs) ps → IsBelow qs ps
all_below ps qs k all below = subst (λ (xs : List Parcel). IsBelow xs ps) (take_all k qs all) below

-- each is below all of them
pub one_below : (qs : List Parcel) (k : ℕ) (q : Parcel) → k < length qs → q ≡ get_or qs k q → IsBelow (q ∷ []) qs
one_below qs k q within is =
    below_below (q ∷ []) (take (k + 1) qs) qs
    (subst (IsBelow (q ∷ [])) (more_taken qs k q within is) (joined_right (take k qs) (q ∷ [])))
    (subst (IsBelow (take (k + 1) qs)) (take-append-drop (k + 1) qs) (joined_left (take (k + 1) qs) (drop (k + 1) qs)))

pub merged_known : (ps qs : List Parcel) → IsBelow qs ps → IsMerged ps qs ps
merged_known ps [] below = refl
merged_known ps (q ∷ qs) below = (
  ps,
  inl (below_below (q ∷ []) (q ∷ qs) ps (joined_left (q ∷ []) qs) below, refl),
  merged_known ps qs (below_below qs (q ∷ qs) ps (joined_right (q ∷ []) qs) below),
)

pub least_known : (ps qs : List Parcel) → Agree (ps ++ qs) → IsBelow qs ps → IsLeastUpperBound ps qs ps
least_known ps qs agree below = record {
  agree = below_agrees ps (ps ++ qs) (joined_left ps qs) agree;
  left = below_itself ps;
  right = below;
  least = λ above a b. a;
}

-- ---- what a test says

pub when_true : (b : Bool) (X Y : Type 0) → b ≡ true → MatchBool b X Y → X
when_true true X Y e h = h
when_true false X Y e h = cc

pub when_false : (b : Bool) (X Y : Type 0) → b ≡ false → MatchBool b X Y → Y
when_false true X Y e h = cc
when_false false X Y e h = h
