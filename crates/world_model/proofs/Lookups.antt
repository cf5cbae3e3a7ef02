-- Elements of lists by their indexes: what is set, mapped and kept by a test.
use Rattle.std.proofs.Common.{◌≡◌, ◌≢◌, ℕ, zero, suc, ◌<◌, Bool, true, false, List, [], ◌∷◌, length, map, Some, refl}
use Rattle.std.proofs.Common.{ap, ◌∙◌, subst, arith}
use Rattle.std.specs.Prelude.{Contains, filter, slice_set}
use Rattle.std.specs.List.{slice_get}
use Rattle.std.proofs.lemmas.Option.{none-some, slice_get-get_or, slice_get_within, get_or_from_slice_get}
use Rattle.trace_model.proofs.collections.Elements.{some_is}

module _ {A : Type 0} where
  pub element_at : (xs : List A) (x : A) → Contains xs x → (k : ℕ) × (slice_get xs k ≡ Some x)
  element_at xs x (k, within, is) = (k, subst (λ (y : A). slice_get xs k ≡ Some y) is (slice_get-get_or xs k x within))

  pub contains_at : (xs : List A) (k : ℕ) (x : A) → slice_get xs k ≡ Some x → Contains xs x
  contains_at xs k x at = (k, slice_get_within xs k x at, get_or_from_slice_get xs k x x at)

  pub get_set_here : (xs : List A) (i : ℕ) (y : A) → i < length xs → slice_get (slice_set xs i y) i ≡ Some y
  get_set_here [] i y low = absurd (omega arith)
  get_set_here (x ∷ xs) zero y low = refl
  get_set_here (x ∷ xs) (suc i) y low = get_set_here xs i y (omega arith)

  pub get_set_other : (xs : List A) (i j : ℕ) (y : A) → j ≢ i → slice_get (slice_set xs i y) j ≡ slice_get xs j
  get_set_other [] i j y apart = refl
  get_set_other (x ∷ xs) zero zero y apart = absurd (apart refl)
  get_set_other (x ∷ xs) zero (suc j) y apart = refl
  get_set_other (x ∷ xs) (suc i) zero y apart = refl
  get_set_other (x ∷ xs) (suc i) (suc j) y apart = get_set_other xs i j y (λ e. apart (ap suc e))

  -- what passes a test is among what it keeps
  pub kept_by : (test : A → Bool) (xs : List A) (k : ℕ) (x : A) → slice_get xs k ≡ Some x → test x ≡ true
      → (j : ℕ) × (slice_get (filter test xs) j ≡ Some x)
  kept_by test [] k x at passes = absurd (none-some x at)
  kept_by test (y ∷ ys) zero x at passes = let here : test y ≡ true = ap test (some_is y x at) ∙ passes in
      (0, rw here at)
  kept_by test (y ∷ ys) (suc k) x at passes = by_test (test y) refl (kept_by test ys k x at passes)
    where
      by_test : (b : Bool) → test y ≡ b → (j : ℕ) × (slice_get (filter test ys) j ≡ Some x)
          → (j : ℕ) × (slice_get (filter test (y ∷ ys)) j ≡ Some x)
      by_test true e (j, there) = (suc j, rw e there)
      by_test false e (j, there) = (j, rw e there)

module _ {A B : Type 0} (f : A → B) where
  pub get_map : (xs : List A) (k : ℕ) (x : A) → slice_get xs k ≡ Some x → slice_get (map f xs) k ≡ Some (f x)
  get_map [] k x at = absurd (none-some x at)
  get_map (y ∷ ys) zero x at = ap (λ (z : A). Some (f z)) (some_is y x at)
  get_map (y ∷ ys) (suc k) x at = get_map ys k x at

  pub get_from_map : (xs : List A) (k : ℕ) (y : B) → slice_get (map f xs) k ≡ Some y
      → (x : A) × (slice_get xs k ≡ Some x) × (f x ≡ y)
  get_from_map [] k y at = absurd (none-some y at)
  get_from_map (x ∷ xs) zero y at = (x, refl, some_is (f x) y at)
  get_from_map (x ∷ xs) (suc k) y at = get_from_map xs k y at
