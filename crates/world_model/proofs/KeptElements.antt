-- What a test keeps of a list is of the list, and passes it.
use Rattle.std.proofs.Common.{◌≡◌, ℕ, zero, suc, Bool, true, false, List, [], ◌∷◌, Some, refl, sym, ap, ◌∙◌, subst}
use Rattle.std.specs.Prelude.{filter}
use Rattle.std.specs.List.{slice_get}
use Rattle.std.proofs.lemmas.Option.{none-some}
use Rattle.trace_model.proofs.collections.Elements.{some_is}

module _ {A : Type 0} where
  passes_first : (test : A → Bool) (y : A) (ys : List A) → test y ≡ true → filter test (y ∷ ys) ≡ y ∷ filter test ys
  passes_first test y ys e = rw e refl

  fails_first : (test : A → Bool) (y : A) (ys : List A) → test y ≡ false → filter test (y ∷ ys) ≡ filter test ys
  fails_first test y ys e = rw e refl

  abbrev IsKeptFrom : (test : A → Bool) → List A → A → Type 0
  IsKeptFrom test xs x = (k : ℕ) × (slice_get xs k ≡ Some x) × (test x ≡ true)

  one_more : (test : A → Bool) (y : A) (ys : List A) (x : A) → IsKeptFrom test ys x → IsKeptFrom test (y ∷ ys) x
  one_more test y ys x (k, place, is) = (suc k, place, is)

  from_first : (test : A → Bool) (y : A) (ys : List A) (j : ℕ) (x : A)
      → ((i : ℕ) → slice_get (filter test ys) i ≡ Some x → IsKeptFrom test ys x)
      → test y ≡ true → slice_get (y ∷ filter test ys) j ≡ Some x → IsKeptFrom test (y ∷ ys) x
  from_first test y ys zero x more e at = (0, at, ap test (sym (some_is y x at)) ∙ e)
  from_first test y ys (suc j) x more e at = one_more test y ys x (more j at)

  from_any : (test : A → Bool) (y : A) (ys : List A) (j : ℕ) (x : A)
      → ((i : ℕ) → slice_get (filter test ys) i ≡ Some x → IsKeptFrom test ys x)
      → (b : Bool) → test y ≡ b → slice_get (filter test (y ∷ ys)) j ≡ Some x → IsKeptFrom test (y ∷ ys) x
  from_any test y ys j x more true e at =
      from_first test y ys j x more e (subst (λ (l : List A). slice_get l j ≡ Some x) (passes_first test y ys e) at)
  from_any test y ys j x more false e at =
      one_more test y ys x (more j (subst (λ (l : List A). slice_get l j ≡ Some x) (fails_first test y ys e) at))

  pub kept_from : (test : A → Bool) (xs : List A) (j : ℕ) (x : A) → slice_get (filter test xs) j ≡ Some x
      → IsKeptFrom test xs x
  kept_from test [] j x at = absurd (none-some x at)
  kept_from test (y ∷ ys) j x at = from_any test y ys j x (λ i there. kept_from test ys i x there) (test y) refl at
