-- Numbers in a base of up to sixteen.
use Rattle.std.specs.Prelude.{ℕ, ◌+◌, ◌-◌, ◌*◌, ◌^◌, ◌&&◌, List, [], ◌∷◌, Option, Some, None, nat_lt, nat_le}
use Rattle.std.specs.Prelude.{if◌then◌else◌}
use Rattle.std.specs.Char.{is_ascii_digit}
use Rattle.std.specs.Option.{option_and_then}

-- the value of a digit: `0` to `9`, and `a` to `f` or `A` to `F` for ten to fifteen
unfoldable pub digit_value : ℕ → Option ℕ
digit_value b =
    if is_ascii_digit b then Some (b - 48)
    else if nat_le 97 b && nat_le b 102 then Some (b - 97 + 10)
    else if nat_le 65 b && nat_le b 70 then Some (b - 65 + 10)
    else None

-- a number with a digit of this value more, if it fits 64 bits and the base has the digit
abbrev pub with_value : (base front value : ℕ) → Option ℕ
with_value base front value =
    if nat_lt value base && nat_lt (front * base + value) (2 ^ 64) then Some (front * base + value) else None

-- the number whose last digit is this, after the digits of another
unfoldable pub next_number : (base front byte : ℕ) → Option ℕ
next_number base front byte = option_and_then (with_value base front) (digit_value byte)

-- the number whose last digits are these, after the digits of another
abbrev pub number_after : (base front : ℕ) → List ℕ → Option ℕ
number_after base front [] = Some front
number_after base front (byte ∷ bytes) =
    option_and_then (λ next. number_after base next bytes) (next_number base front byte)

-- the number that a text spells: one digit at least, and nothing else
abbrev pub digits_in : (base : ℕ) → List ℕ → Option ℕ
digits_in base [] = None
digits_in base (byte ∷ bytes) = number_after base 0 (byte ∷ bytes)
