-- What holds of each element up to a place.
use Rattle.std.proofs.Common.{ℕ, ◌<◌, List, get_or}

-- it holds of the elements before this place
abbrev pub AllBefore : {X : Type 0} → (X → Type 0) → List X → ℕ → Type 0
AllBefore {X} P xs n = (k : ℕ) (d : X) → k < n → P (get_or xs k d)
