-- Pieces of a text.
use Rattle.std.specs.Prelude.{ℕ, ◌+◌, ◌-◌, ◌^◌, ◌==◌, ◌&&◌, ◌||◌, Bool, false, not, List, [], ◌∷◌, length, take, drop}
use Rattle.std.specs.Prelude.{position, unwrap_or, Option, Some, None, nat_lt, nat_eq, if◌then◌else◌}
use Rattle.std.specs.Char.{is_ascii_alphabetic, is_ascii_digit}
use Rattle.std.specs.List.{starts_with, ends_with, list_all, slice_split, before_last, after_last}
use Rattle.std.specs.Option.{option_and_then, option_map}
use Rattle.trace_dat.specs.kernel_texts.Lines.{number_in}

-- what is after a front, if the text begins with it
unfoldable pub after : (front text : List ℕ) → Option (List ℕ)
after front text = if starts_with nat_eq text front then Some (drop (length front) text) else None

-- what is before an end, if the text ends with it
unfoldable pub before : (end text : List ℕ) → Option (List ℕ)
before end text = if ends_with nat_eq text end then Some (take (length text - length end) text) else None

-- what is before the first of this byte, and what is after it
unfoldable pub cut_at : (byte : ℕ) → List ℕ → Option (List ℕ × List ℕ)
cut_at byte text = option_map (λ at. (take at text, drop (at + 1) text)) (position (λ b. b == byte) text)

-- the parts of a text between two of this byte each
abbrev pub parts_of : (byte : ℕ) → List ℕ → List (List ℕ)
parts_of byte text = slice_split (λ b. b == byte) text

-- what is before the last space, and what is after it: nothing, and all of the text, if there is none
abbrev pub front_of : List ℕ → List ℕ
front_of text = before_last (λ b. b == 32) text

abbrev pub last_of : List ℕ → List ℕ
last_of text = after_last (λ b. b == 32) text

-- the number that a text spells in decimal, if it fits 32 bits
unfoldable pub number32_in : List ℕ → Option ℕ
number32_in text = option_and_then (λ n. if nat_lt n (2 ^ 32) then Some n else None) (number_in text)

-- the bytes up to the first zero byte
abbrev pub text_before_zero : List ℕ → List ℕ
text_before_zero bytes = take (unwrap_or (position (λ b. b == 0) bytes) (length bytes)) bytes

-- a byte of a name: a letter, a digit or `_`
abbrev pub is_name_byte : ℕ → Bool
is_name_byte b = is_ascii_alphabetic b || is_ascii_digit b || b == 95

-- a name: such bytes, one at least, and the first is no digit
abbrev pub is_name : List ℕ → Bool
is_name [] = false
is_name (b ∷ text) = not (is_ascii_digit b) && list_all is_name_byte (b ∷ text)

-- a text without `[` and `]`
abbrev pub has_no_bracket : List ℕ → Bool
has_no_bracket text = list_all (λ b. not (b == 91 || b == 93)) text
