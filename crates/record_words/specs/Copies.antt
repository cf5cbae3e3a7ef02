-- How far a payload is copied.
use Rattle.std.specs.Prelude.{◌≡◌, ℕ, List, take}

-- the first n bytes of out are those of the payload
abbrev pub HasFront : ℕ → List ℕ → List ℕ → Type 0
HasFront n payload out = take n out ≡ take n payload
