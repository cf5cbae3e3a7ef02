-- The element at an index of a list, also after one is appended.
use Rattle.std.proofs.Common.{◌≡◌, ℕ, zero, suc, ◌<◌, ◌⊎◌, inl, inr, ⊎_elim, List, [], ◌∷◌, ◌++◌, length, Some, refl}
use Rattle.std.proofs.Common.{sym, ap, arith}
use Rattle.std.proofs.lemmas.Option.{none-some}
use Rattle.std.specs.List.{slice_get}
use Rattle.trace_model.proofs.collections.Elements.{some_is}

pub get_pushed : {A : Type 0} (xs : List A) (y : A) (k : ℕ) (x : A) → slice_get (xs ++ y ∷ []) k ≡ Some x
    → (slice_get xs k ≡ Some x) ⊎ ((k ≡ length xs) × (x ≡ y))
get_pushed [] y zero x at = inr (refl, some_is x y (sym at))
get_pushed [] y (suc k) x at = absurd (none-some x at)
get_pushed (z ∷ xs) y zero x at = inl at
get_pushed (z ∷ xs) y (suc k) x at =
    ⊎_elim (λ there. inl there) (λ (e, is). inr (ap suc e, is)) (get_pushed xs y k x at)

pub get_last : {A : Type 0} (xs : List A) (y : A) → slice_get (xs ++ y ∷ []) (length xs) ≡ Some y
get_last [] y = refl
get_last (z ∷ xs) y = get_last xs y

pub get_within : {A : Type 0} (xs : List A) (k : ℕ) → k < length xs → (x : A) × (slice_get xs k ≡ Some x)
get_within [] k within = absurd (omega arith)
get_within (x ∷ xs) zero within = (x, refl)
get_within (x ∷ xs) (suc k) within = get_within xs k (omega arith)
