-- What a buffer has after bytes were put to its front, or weren't.
use Rattle.std.specs.Prelude.{◌≡◌, ℕ, ◌<◌, List, ◌++◌, drop, length}
use Rattle.library_values.specs.declared.buffer.Put.{Put}
use Rattle.library_values.specs.declared.buffer.Put.TheVariants.{Done, NoRoom}

-- The bytes are at the front of the buffer, and the rest of that stays; or it is shorter than they are, and stays as it
-- was. Their number is stated.
abbrev pub PutsSo : (bytes out : List ℕ) → Put → (left : List ℕ) → Type 0
PutsSo bytes out (Done len) left = (len ≡ length bytes) × (left ≡ bytes ++ drop len out)
PutsSo bytes out (NoRoom len) left = (len ≡ length bytes) × (length out < length bytes) × (left ≡ out)
