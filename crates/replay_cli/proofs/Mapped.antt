-- The texts of words that the code finds one by one.
use Rattle.std.proofs.Common.{◌≡◌, ℕ, ◌<◌, ◌≤◌, List, [], ◌∷◌, drop, length, map, arith}
use lib.ListN.{get_or}

-- the texts of two words
pub map-two : {S : Type 0} (f : S → List ℕ) (xs : List S) (x y : S) (a b : List ℕ) → 2 ≤ length xs → length xs < 3
    → x ≡ get_or xs 0 x → y ≡ get_or xs 1 y → f x ≡ a → f y ≡ b → map f xs ≡ a ∷ b ∷ []
map-two f [] x y a b some few first second one two = absurd (omega arith)
map-two f (p ∷ []) x y a b some few first second one two = absurd (omega arith)
map-two f (p ∷ q ∷ []) x y a b some few first second one two = cc
map-two f (p ∷ q ∷ r ∷ rest) x y a b some few first second one two = absurd (omega arith)

-- the texts of two words and more
pub map-more : {S : Type 0} (f : S → List ℕ) (xs : List S) (y : S) (b : List ℕ) → 2 ≤ length xs
    → y ≡ get_or xs 1 y → f y ≡ b → (a : List ℕ) × (map f xs ≡ a ∷ b ∷ map f (drop 2 xs))
map-more f [] y b some second two = absurd (omega arith)
map-more f (p ∷ []) y b some second two = absurd (omega arith)
map-more f (p ∷ q ∷ rest) y b some second two = (f p, cc)
