-- Lines of the form KEY VALUE, and numbers.
use Rattle.std.specs.Prelude.{ℕ, ◌+◌, ◌-◌, ◌*◌, ◌^◌, ◌&&◌, ◌==◌, Bool, true, List, [], ◌∷◌, length, take, drop}
use Rattle.std.specs.Prelude.{position, unwrap_or, Option, Some, None, nat_lt, nat_eq, if◌then◌else◌}
use Rattle.std.specs.Char.{is_ascii_digit}
use Rattle.std.specs.Option.{option_and_then}
use Rattle.std.specs.List.{starts_with}

-- the bytes up to the first line feed
unfoldable pub line_at : List ℕ → List ℕ
line_at bytes = take (unwrap_or (position (λ b. b == 10) bytes) (length bytes)) bytes

-- what is after the key in the first line that begins with it; the test says whether a line begins at the front
abbrev pub value_from : List ℕ → Bool → List ℕ → Option (List ℕ)
value_from key is_start [] = None
value_from key is_start (b ∷ bytes) =
    if is_start && starts_with nat_eq (b ∷ bytes) key then Some (line_at (drop (length key) (b ∷ bytes)))
    else value_from key (b == 10) bytes

-- what is after the key in the first line of a text that begins with it
abbrev pub value_in : List ℕ → List ℕ → Option (List ℕ)
value_in key text = value_from key true text

-- the number whose last digit is this, after the digits of another, if it fits 64 bits
unfoldable pub next_number : ℕ → ℕ → Option ℕ
next_number front digit =
    if is_ascii_digit digit && nat_lt (front * 10 + (digit - 48)) (2 ^ 64) then Some (front * 10 + (digit - 48))
    else None

-- the number whose last digits are these, after the digits of another
abbrev pub number_after : ℕ → List ℕ → Option ℕ
number_after front [] = Some front
number_after front (digit ∷ digits) = option_and_then (λ next. number_after next digits) (next_number front digit)

-- the number that a text spells: one digit at least, and nothing else
abbrev pub number_in : List ℕ → Option ℕ
number_in [] = None
number_in (digit ∷ digits) = number_after 0 (digit ∷ digits)
