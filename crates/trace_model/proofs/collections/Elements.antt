-- The element at an index of two lists, one after the other.
use Rattle.std.proofs.Common.{◌≡◌, ℕ, zero, suc, ◌+◌, ◌⊎◌, List, [], ◌∷◌, ◌++◌, length, Some, inl, inr, ⊎_elim, ap, ◌∙◌}
use Rattle.std.proofs.Common.{arith}
use Rattle.std.proofs.lemmas.Option.{none-some}
use Rattle.std.specs.List.{slice_get}

pub some_is : {A : Type 0} (x y : A) → Some x ≡ Some y → x ≡ y
some_is x y e = cc

pub get_in_front : {A : Type 0} (xs ys : List A) (k : ℕ) (x : A) → slice_get xs k ≡ Some x
    → slice_get (xs ++ ys) k ≡ Some x
get_in_front [] ys k x at = absurd (none-some x at)
get_in_front (z ∷ xs) ys zero x at = at
get_in_front (z ∷ xs) ys (suc k) x at = get_in_front xs ys k x at

pub get_behind : {A : Type 0} (xs ys : List A) (k : ℕ) → slice_get (xs ++ ys) (length xs + k) ≡ slice_get ys k
get_behind [] ys k = ap (slice_get ys) (let e : 0 + k ≡ k = omega arith in e)
get_behind (x ∷ xs) ys k =
    ap (slice_get (x ∷ xs ++ ys)) (let e : suc (length xs) + k ≡ suc (length xs + k) = omega arith in e)
    ∙ get_behind xs ys k

pub get_in_either : {A : Type 0} (xs ys : List A) (k : ℕ) (x : A) → slice_get (xs ++ ys) k ≡ Some x
    → ((j : ℕ) × (slice_get xs j ≡ Some x)) ⊎ ((j : ℕ) × (slice_get ys j ≡ Some x))
get_in_either [] ys k x at = inr (k, at)
get_in_either (z ∷ xs) ys zero x at = inl (0, at)
get_in_either (z ∷ xs) ys (suc k) x at =
    ⊎_elim (λ (j, there). inl (suc j, there)) (λ found. inr found) (get_in_either xs ys k x at)
