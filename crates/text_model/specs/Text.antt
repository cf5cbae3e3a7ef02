-- Texts: their lines, the fields of a line, and what a field spells: a number or bytes.
-- After docs/formats/program.md, "Script".
use Rattle.std.specs.Prelude.{ℕ, ◌+◌, ◌*◌, ◌/◌, ◌%◌, ◌^◌, Bool, ◌&&◌, ◌||◌, if◌then◌else◌, ◌==◌, nat_lt, nat_le, List}
use Rattle.std.specs.Prelude.{[], ◌∷◌, length, flat_map, codes, bytes_eq}
use Rattle.std.specs.Char.{digit_value, digit_char, is_digit}
use Rattle.std.specs.List.{slice_split, list_all}
use Rattle.std.specs.Str.{all_ascii_digits}
use Rattle.std.specs.Str.Parse.{digits_value}
use Rattle.text_model.specs.declared.script_limits.TheConstants.{MAX_NUMBER_DIGITS}

-- the byte that ends a line
abbrev pub line_feed : ℕ
line_feed = 10

-- the byte between two fields
abbrev pub space : ℕ
space = 32

-- the lines of a text without the empty one after a last line feed
abbrev pub without_empty_end : List (List ℕ) → List (List ℕ)
without_empty_end [] = []
without_empty_end (line ∷ []) = if length line == 0 then [] else line ∷ []
without_empty_end (line ∷ next ∷ lines) = line ∷ without_empty_end (next ∷ lines)

-- The lines of a text: what is between its line feeds. The last line feed may lack, and begins no
-- line. A carriage return is a byte of its line.
abbrev pub lines_of : List ℕ → List (List ℕ)
lines_of text = without_empty_end (slice_split (λ b. b == line_feed) text)

-- The fields of a line: what is between its spaces. A space too many leaves an empty field.
abbrev pub fields_of : List ℕ → List (List ℕ)
fields_of line = slice_split (λ b. b == space) line

-- exactly one space is between two fields, and none at either end: no field is empty
abbrev pub is_well_spaced : List (List ℕ) → Bool
is_well_spaced fields = list_all (λ field. nat_lt 0 (length field)) fields

-- a decimal number that fits 64 bits, in one digit at least and not too many; it may begin with zeros
unfoldable pub is_decimal : List ℕ → Bool
is_decimal text = nat_lt 0 (length text) && nat_le (length text) MAX_NUMBER_DIGITS
    && all_ascii_digits text && nat_lt (digits_value 10 text) (2 ^ 64)

-- the bytes that pairs of hexadecimal digits spell, in lower or upper case, the high digit first; `-` is half a pair,
-- and so spells none
abbrev pub bytes_of_pairs : List ℕ → List ℕ
bytes_of_pairs (high ∷ low ∷ digits) = (16 * digit_value high + digit_value low) ∷ bytes_of_pairs digits
bytes_of_pairs _ = []

-- bytes as text: two hexadecimal digits for each, in lower or upper case; `-` where there is none
unfoldable pub is_hex : List ℕ → Bool
is_hex text = bytes_eq text (codes "-")
    || (nat_lt 0 (length text) && (length text % 2 == 0) && list_all (λ c. is_digit c 16) text)

-- bytes in lower case digits, and no byte as `-`
abbrev pub hex_text : List ℕ → List ℕ
hex_text [] = codes "-"
hex_text (b ∷ bytes) = flat_map (λ byte. digit_char (byte / 16) ∷ digit_char (byte % 16) ∷ []) (b ∷ bytes)
