-- The hexadecimal digits of bytes, as `hex_text` has them, and of a number.
use Rattle.std.specs.Prelude.{ℕ, ◌/◌, ◌%◌, List, [], ◌∷◌, ◌++◌, flat_map, codes, false}
use Rattle.std.specs.Char.{digit_char}
use Rattle.std.specs.Fmt.{digits}

-- the two digits of a byte, in lower case
abbrev pub pair_of : ℕ → List ℕ
pair_of byte = digit_char (byte / 16) ∷ digit_char (byte % 16) ∷ []

-- those of bytes, one after the other
abbrev pub pairs_of : List ℕ → List ℕ
pairs_of bytes = flat_map pair_of bytes

-- a number in hexadecimal
abbrev pub hexadecimal : ℕ → List ℕ
hexadecimal n = codes "0x" ++ digits 16 false n
