-- What is put to the front of a buffer.
use Rattle.std.specs.Prelude.{◌≡◌, ℕ, ◌++◌, List, drop, length}

-- The bytes are put to the front of the buffer, and the rest of that stays.
abbrev pub HasAtFront : List ℕ → List ℕ → List ℕ → Type 0
HasAtFront old bytes new = new ≡ bytes ++ drop (length bytes) old
