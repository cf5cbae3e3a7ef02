-- The least of rising numbers, from one on, as they are walked.
use Rattle.std.proofs.Common.{◌≡◌, ◌⊎◌, ◌↔◌, inl, inr, ⊎_elim, ℕ, ◌+◌, ◌<◌, ◌≤◌, List, length, get_or, Option, Some}
use Rattle.std.proofs.Common.{None, IfSome, IfNone, IsSomeAnd, sym, ◌∙◌, subst, arith}
use Rattle.std.specs.List.{Contains}
use Rattle.std.specs.List.Sorted.{IsStrictlyIncreasing}
use Rattle.std.proofs.lemmas.Bool.{cases_lt}
use Rattle.std.proofs.lemmas.Grind.{get_or_default_zero}
use Rattle.std.proofs.lemmas.List.Kept.{AllPairs-from_increasing}
use Rattle.collector.specs.Known.{AreCpusOf}
use Rattle.stream_collector.specs.Marks.{AreMarkedCpus}
use Rattle.stream_collector.specs.Stream.{Stream}
use Rattle.library_values.specs.Cpus.{IsToldOf, by_parcels, by_given_up, by_marks, IsLeastFrom, HasNoneFrom}

-- those before this place are below a number
abbrev pub AreBelow : List ℕ → (count from : ℕ) → Type 0
AreBelow xs count from = (k : ℕ) → k < count → get_or xs k 0 < from

-- so is the one at this place, if it is
pub one_more : (xs : List ℕ) (count from x : ℕ) → AreBelow xs count from → count < length xs → x ≡ get_or xs count x
    → x < from → AreBelow xs (count + 1) from
one_more xs count from x below lt is under k less =
    let same : get_or xs count x ≡ get_or xs count 0 = get_or_default_zero xs count x lt in
    let here : get_or xs count 0 < from = subst (λ (n : ℕ). n < from) (is ∙ same) under in
    ⊎_elim (λ (l : k < count). below k l)
    (λ (g : count ≤ k). let k_is : count ≡ k = omega arith in subst (λ (n : ℕ). get_or xs n 0 < from) k_is here)
    (cases_lt k count)

-- the first one that isn't is the least
pub least_is : (xs : List ℕ) → IsStrictlyIncreasing xs → (count from x : ℕ) → AreBelow xs count from → count < length xs
    → x ≡ get_or xs count x → from ≤ x → IsLeastFrom (Contains xs) from x
least_is xs rising count from x below lt is above = record {
  there = (count, lt, sym is);
  above = above;
  least = λ other from_on at.
      let k : ℕ = at.0 in
      let in_list : k < length xs = at.1 in
      let value : get_or xs k 0 ≡ other = sym (get_or_default_zero xs k other in_list) ∙ at.2 in
      let here : x ≡ get_or xs count 0 = is ∙ get_or_default_zero xs count x lt in
      ⊎_elim (λ (l : k < count). let low = below k l in absurd (omega arith))
      (λ (g : count ≤ k).
      ⊎_elim (λ (l : count < k). let pair = AllPairs-from_increasing xs rising count k 0 l in_list in omega arith)
      (λ (e : k ≤ count). let k_is : k ≡ count = omega arith in
      let same : get_or xs k 0 ≡ get_or xs count 0 = λ i. get_or xs (k_is i) 0 in
      omega arith)
      (cases_lt count k))
      (cases_lt k count);
}

-- ---- the least of several kinds

-- the least number, from one on, of which this holds, or that there is none
pub record Finds (holds : ℕ → Type 0) (from : ℕ) (found : Option ℕ) : Type 0 where
  pub least : IfSome found (IsLeastFrom holds from)
  pub none : IfNone found (HasNoneFrom holds from)

-- what isn't above what is found isn't above what it holds of
not_above : (holds : ℕ → Type 0) (from : ℕ) (found : Option ℕ) → Finds holds from found → (x : ℕ)
    → IfSome found (λ y. IsSomeAnd (Some x) (λ low. low ≤ y)) → (other : ℕ) → from ≤ other → holds other → x ≤ other
not_above holds from None finds x low other above there = absurd (finds.none other above there)
not_above holds from (Some y) finds x low other above there =
    let far : y ≤ other = finds.least.least other above there in
    let near : x ≤ y = low in
    omega arith

-- the lower of two that are found is the least of either kind
pub either : (left right : ℕ → Type 0) (from : ℕ) (a b c : Option ℕ) → Finds left from a → Finds right from b
    → (c ≡ a) ⊎ (c ≡ b) → IfSome a (λ y. IsSomeAnd c (λ low. low ≤ y)) → IfSome b (λ y. IsSomeAnd c (λ low. low ≤ y))
    → Finds (λ n. left n ⊎ right n) from c
either left right from None None None l r one low high = record {
  least = tt;
  none = λ other above. ⊎_elim (λ there. l.none other above there) (λ there. r.none other above there);
}
either left right from None (Some y) None l r one low high = absurd high
either left right from (Some x) b None l r one low high = absurd low
either left right from a b (Some x) l r one low high =
    let far : (other : ℕ) → from ≤ other → (left other ⊎ right other) → x ≤ other =
    λ other above.
    ⊎_elim (λ there. not_above left from a l x low other above there)
    (λ there. not_above right from b r x high other above there) in
    ⊎_elim
    (λ (is : Some x ≡ a).
    let here : IsLeastFrom left from x = subst (λ (o : Option ℕ). IfSome o (IsLeastFrom left from)) (sym is) l.least in
    record { least = record { there = inl here.there; above = here.above; least = far }; none = tt })
    (λ (is : Some x ≡ b).
    let here : IsLeastFrom right from x =
    subst (λ (o : Option ℕ). IfSome o (IsLeastFrom right from)) (sym is) r.least in
    record { least = record { there = inr here.there; above = here.above; least = far }; none = tt })
    one

-- so it is with what says the same
pub found_as : (holds other : ℕ → Type 0) (from : ℕ) (found : Option ℕ) → ((n : ℕ) → (holds n ↔ other n))
    → Finds holds from found → Finds other from found
found_as holds other from None same f = record { least = tt; none = λ n above there. f.none n above ((same n).1 there) }
found_as holds other from (Some x) same f = record {
  least = record {
    there = (same x).0 f.least.there;
    above = f.least.above;
    least = λ n above there. f.least.least n above ((same n).1 there);
  };
  none = tt;
}

-- the CPUs of a stream of which something is there
pub told_of : (stream : Stream) (kept given_up marked : List ℕ) → AreCpusOf stream.parcels kept
    → AreCpusOf stream.given_up given_up → AreMarkedCpus stream.marks marked → (n : ℕ)
    → ((Contains kept n ⊎ Contains given_up n) ⊎ Contains marked n) ↔ IsToldOf stream n
told_of stream kept given_up marked are_kept are_given_up are_marked n = (told, there)
  where
    told : ((Contains kept n ⊎ Contains given_up n) ⊎ Contains marked n) → IsToldOf stream n
    told = ⊎_elim
        (⊎_elim (λ k. by_parcels ((are_kept.known n).0 k)) (λ g. by_given_up ((are_given_up.known n).0 g)))
        (λ m. by_marks ((are_marked.marked n).0 m))

    there : IsToldOf stream n → ((Contains kept n ⊎ Contains given_up n) ⊎ Contains marked n)
    there (by_parcels k) = inl (inl ((are_kept.known n).1 k))
    there (by_given_up g) = inl (inr ((are_given_up.known n).1 g))
    there (by_marks m) = inr ((are_marked.marked n).1 m)
