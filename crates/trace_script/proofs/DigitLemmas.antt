-- Hexadecimal digits by arithmetic, one and many at once.
use Rattle.std.proofs.Common.{◌≡◌, ℕ, zero, suc, ◌+◌, ◌-◌, ◌*◌, ◌/◌, ◌%◌, ◌<◌, ◌==◌, ◌&&◌, Bool, true, List, [], ◌∷◌}
use Rattle.std.proofs.Common.{length, get_or, drop, bit_and, refl, sym, ap, subst, ◌∙◌, arith}
use Rattle.std.specs.Prelude.{⊤}
use Rattle.std.specs.Char.{digit_value, is_digit}
use Rattle.std.specs.List.{list_all}
use Rattle.std.proofs.lemmas.Bool.{and_parts, eqb-true}
use mathlib.Core.Logic.{dite}
use native.Mathlib.Decide.{ℕ_discrete}
use Rattle.text_model.specs.Text.{bytes_of_pairs}

abbrev is_hex_digit : ℕ → Bool
is_hex_digit c = is_digit c 16

abbrev are_hex_digits : List ℕ → Bool
are_hex_digits digits = list_all is_hex_digit digits

-- ---- elements by their index
-- the elements from an index on
abbrev gets : (count from : ℕ) → List ℕ → List ℕ
gets zero from xs = []
gets (suc count) from xs = get_or xs from 0 ∷ gets count (suc from) xs

one_dropped : (xs : List ℕ) (k : ℕ) → k < length xs → drop k xs ≡ get_or xs k 0 ∷ drop (suc k) xs
one_dropped [] k below = absurd (omega arith)
one_dropped (x ∷ xs) zero below = refl
one_dropped (x ∷ xs) (suc k) below = one_dropped xs k (omega arith)

all_gets : (count from : ℕ) (xs : List ℕ) → length xs ≡ from + count → drop from xs ≡ gets count from xs
all_gets zero from xs is = none_dropped xs from (omega (arith, is))
  where
    none_dropped : (xs : List ℕ) (k : ℕ) → length xs ≡ k → drop k xs ≡ []
    none_dropped [] k is = ap (λ (n : ℕ). drop {A = ℕ} n []) (sym is)
    none_dropped (x ∷ xs) zero is = absurd (omega (arith, is))
    none_dropped (x ∷ xs) (suc k) is = none_dropped xs k (omega (arith, is))
all_gets (suc count) from xs is =
    one_dropped xs from (omega (arith, is))
    ∙ ap (λ (ys : List ℕ). get_or xs from 0 ∷ ys) (all_gets count (suc from) xs (omega (arith, is)))

-- ---- one digit
-- what a test says of each number below a bound
abbrev all_below : ℕ → (ℕ → Bool) → Bool
all_below zero test = true
all_below (suc n) test = test n && all_below n test

one_below : (n : ℕ) (test : ℕ → Bool) (k : ℕ) → all_below n test ≡ true → k < n → test k ≡ true
one_below zero test k all below = absurd (omega arith)
one_below (suc n) test k all below = let parts = and_parts (test n) (all_below n test) all in
    dite (ℕ_discrete k n)
    (λ same. subst (λ (m : ℕ). test m ≡ true) (sym same) parts.0)
    (λ other. one_below n test k parts.1 (omega (arith, other)))

-- a byte without the bit by which lower case differs
pub without_32 : (byte : ℕ) → byte < 256 → bit_and byte 223 ≡ byte - 32 * (byte / 32 % 2)
without_32 byte below =
    eqb-true (bit_and byte 223) (byte - 32 * (byte / 32 % 2))
    (one_below 256 (λ b. bit_and b 223 == b - 32 * (b / 32 % 2)) byte refl below)

-- ---- pairs of digits
-- this is the byte of the two digits from an index on, if they are digits
abbrev pub IsPairAt : List ℕ → (index byte : ℕ) → Type 0
IsPairAt digits k byte = is_digit (get_or digits k 0) 16 ≡ true
    → is_digit (get_or digits (suc k) 0) 16 ≡ true
    → byte ≡ 16 * digit_value (get_or digits k 0) + digit_value (get_or digits (suc k) 0)

-- so it is of these bytes, pair by pair
abbrev pub ArePairs : List ℕ → (from : ℕ) (bytes : List ℕ) → Type 0
ArePairs digits from [] = ⊤
ArePairs digits from (byte ∷ bytes) = IsPairAt digits from byte × ArePairs digits (suc (suc from)) bytes

abbrev digits_of : List ℕ → ℕ
digits_of [] = zero
digits_of (byte ∷ bytes) = suc (suc (digits_of bytes))

spelled_from : (digits : List ℕ) (from : ℕ) (bytes : List ℕ)
    → are_hex_digits (gets (digits_of bytes) from digits) ≡ true
    → ArePairs digits from bytes
    → bytes ≡ bytes_of_pairs (gets (digits_of bytes) from digits)
spelled_from digits from [] all are = refl
spelled_from digits from (byte ∷ bytes) all (is, are) =
    let high = and_parts _ _ all in
    let low = and_parts _ _ high.1 in
    rw (is high.0 low.0)
    (ap (λ (bs : List ℕ). (16 * digit_value (get_or digits from 0) + digit_value (get_or digits (suc from) 0)) ∷ bs)
    (spelled_from digits (suc (suc from)) bytes low.1 are))

pub pairs_spelled : (digits bytes : List ℕ)
    → length digits ≡ digits_of bytes
    → are_hex_digits digits ≡ true
    → ArePairs digits 0 bytes
    → bytes ≡ bytes_of_pairs digits
pairs_spelled digits bytes count all are =
    let is : digits ≡ gets (digits_of bytes) 0 digits = all_gets (digits_of bytes) 0 digits (omega (arith, count)) in
    spelled_from digits 0 bytes (ap are_hex_digits (sym is) ∙ all) are ∙ ap bytes_of_pairs (sym is)
