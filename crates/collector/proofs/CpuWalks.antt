-- A walk over the CPUs of which something is known, in rising order.
use Rattle.std.proofs.Common.{◌≡◌, ◌⊎◌, ⊎_elim, inl, inr, ℕ, zero, suc, ◌-◌, ◌^◌, ◌<◌, ◌≤◌, List, [], ◌∷◌, length}
use Rattle.std.proofs.Common.{get_or, refl, subst, arith}
use Rattle.std.specs.Ordering.{nat_cmp}
use Rattle.std.specs.List.{Contains}
use Rattle.std.specs.List.Sorted.{IsStrictlyIncreasing}
use Rattle.std.proofs.lemmas.Map.Keys.{sorted_tail, sorted_from_strictly_increasing, below_from_sorted}
use Rattle.std.proofs.lemmas.Map.Keys.{IsStrictlyIncreasing-from_sorted}
use Rattle.trace_model.specs.Parcel.{Parcel}
use Rattle.trace_model.specs.Collection.{IsSame}
use Rattle.collector.specs.Sound.{AreSound}
use Rattle.collector.specs.Known.{IsCpuKnown, AreCpusOf}
use Rattle.collector.specs.Beside.{IsSameAt}
use Rattle.collector.proofs.OfKind.{known_or_unknown, known_fits}
use Rattle.collector.proofs.SideBySide.{both_unknown, same_of}
use Rattle.collector.proofs.Known.{known_above}

first_or_rest : (x c : ℕ) (xs : List ℕ) (k : ℕ) → k < length (x ∷ xs) → get_or (x ∷ xs) k c ≡ c
    → (x ≡ c) ⊎ Contains xs c
first_or_rest x c xs zero within is = inl is
first_or_rest x c xs (suc k) within is = inr (k, omega arith, is)

not_before_first : (x c : ℕ) (xs : List ℕ) → IsStrictlyIncreasing (x ∷ xs)
    → (k : ℕ) → k < length (x ∷ xs) → get_or (x ∷ xs) k c ≡ c → x ≤ c
not_before_first x c xs rising zero within is = omega arith
not_before_first x c xs rising (suc k) within is =
    let lt = below_from_sorted (x ∷ xs) 0 (suc k) c (sorted_from_strictly_increasing (x ∷ xs) rising) (omega arith)
    within in
    omega arith

rest_rises : (x : ℕ) (xs : List ℕ) → IsStrictlyIncreasing (x ∷ xs) → IsStrictlyIncreasing xs
rest_rises x xs rising = IsStrictlyIncreasing-from_sorted xs
    (sorted_tail nat_cmp x xs (sorted_from_strictly_increasing (x ∷ xs) rising))

-- the numbers that are left rise and are there, and what is there and isn't left is done
pub record Leaves (IsThere IsDone : ℕ → Type 0) (left : List ℕ) : Type 0 where
  pub rising : IsStrictlyIncreasing left
  pub of_them : (c : ℕ) → Contains left c → IsThere c
  pub done : (c : ℕ) → IsThere c → (Contains left c) ⊎ (IsDone c)

pub all_left : (IsDone : ℕ → Type 0) (ps : List Parcel) (cpus : List ℕ) → AreCpusOf ps cpus
    → Leaves (IsCpuKnown ps) IsDone cpus
all_left IsDone ps cpus are = record {
  rising = are.rising;
  of_them = λ c h. (are.known c).0 h;
  done = λ c known. inl ((are.known c).1 known);
}

module _ (IsThere IsDone : ℕ → Type 0) where
  -- the next one is there
  pub next_there : (left rest : List ℕ) (x : ℕ) → left ≡ x ∷ rest → Leaves IsThere IsDone left → IsThere x
  next_there left rest x e l =
      let here : Leaves IsThere IsDone (x ∷ rest) = subst (Leaves IsThere IsDone) e l in
      here.of_them x (0, omega arith, refl)

  -- one more is done
  pub next_done : (left rest : List ℕ) (x : ℕ) → left ≡ x ∷ rest → IsDone x → Leaves IsThere IsDone left
      → Leaves IsThere IsDone rest
  next_done left rest x e done l =
      let here : Leaves IsThere IsDone (x ∷ rest) = subst (Leaves IsThere IsDone) e l in
      record {
        rising = rest_rises x rest here.rising;
        of_them = λ c h. here.of_them c (suc h.0, omega (arith, h.1), h.2);
        done = λ c there. ⊎_elim
            (λ (h : Contains (x ∷ rest) c). ⊎_elim
            (λ (same : x ≡ c). inr (subst IsDone same done))
            (λ behind. inl behind)
            (first_or_rest x c rest h.0 h.1 h.2))
            (λ before. inr before)
            (here.done c there);
      }

  -- what is before the next one is done
  pub done_before : (left rest : List ℕ) (x : ℕ) → left ≡ x ∷ rest → Leaves IsThere IsDone left
      → (c : ℕ) → c < x → IsThere c → IsDone c
  done_before left rest x e l c lt there =
      let here : Leaves IsThere IsDone (x ∷ rest) = subst (Leaves IsThere IsDone) e l in
      ⊎_elim
      (λ (h : Contains (x ∷ rest) c).
      let le = not_before_first x c rest here.rising h.0 h.1 h.2 in absurd (omega arith))
      (λ done. done)
      (here.done c there)

  -- at the end all is done
  pub all_done : (left : List ℕ) → left ≡ [] → Leaves IsThere IsDone left → (c : ℕ) → IsThere c → IsDone c
  all_done left e l c there = ⊎_elim
      (λ (h : Contains left c). let within : h.0 < length {A = ℕ} [] = subst (λ (xs : List ℕ). h.0 < length xs) e
      h.1 in absurd (omega arith))
      (λ done. done)
      (l.done c there)

-- ---- the same of all CPUs

-- if all CPUs of one are the same, and the other has no CPU besides
pub all_same : (ps qs : List Parcel) → AreSound ps → AreSound qs
    → ((c : ℕ) → IsCpuKnown ps c → (n : ℕ) → n < 2 ^ 64 - 1 → IsSameAt ps qs c n)
    → ((c : ℕ) → IsCpuKnown qs c → IsCpuKnown ps c) → IsSame ps qs
all_same ps qs sound others_sound same none_besides = same_of ps qs (λ c n. ⊎_elim
    (λ known. same c (n, known) n (known_fits ps sound c n known))
    (λ unknown. ⊎_elim
    (λ others_known. same c (none_besides c (n, others_known)) n (known_fits qs others_sound c n others_known))
    (λ others_unknown. both_unknown ps qs c n unknown others_unknown)
    (known_or_unknown qs c n))
    (known_or_unknown ps c n))

pub same_known : (ps qs : List Parcel) → IsSame ps qs → (c : ℕ) → IsCpuKnown qs c → IsCpuKnown ps c
same_known ps qs same c known = (known.0, known_above qs ps c known.0 same.above known.1)
