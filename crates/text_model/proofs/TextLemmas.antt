-- Numbers and bytes, written as text, read back.
use Rattle.std.proofs.Common.{◌≡◌, ℕ, ◌+◌, ◌*◌, ◌/◌, ◌%◌, ◌^◌, ◌<◌, ◌≤◌, true, not, ◌==◌, ltb, List, [], ◌∷◌, length}
use Rattle.std.proofs.Common.{Result, Ok, refl, ◌∙◌, ap, arith, decimal, flat_map}
use Rattle.std.specs.Char.{digit_value, digit_char, is_digit}
use Rattle.std.specs.List.{list_all, AllByRecursion}
use Rattle.std.specs.Str.{all_ascii_digits}
use Rattle.std.specs.Str.Parse.{digits_value}
use Rattle.std.proofs.lemmas.Bool.{lt-ltb, ltb-true, le-leb, eq-eqb, ne_eqb, and_from, and_parts, or_right}
use Rattle.std.proofs.lemmas.Bool.{not_from_false, cond-true}
use Rattle.std.proofs.lemmas.Fmt.{decimal_nonempty, length-decimal-le, digits_decimal, digits_value-decimal}
use Rattle.std.proofs.lemmas.Str.{digit_value-digit_char}
use Rattle.std.proofs.lemmas.Str.Parse.{IsNumeralModel, numerals_by_value, tells_all_ascii_digits}
use Rattle.text_model.specs.Text.{is_decimal, is_hex, bytes_of_pairs, hex_text}
use Rattle.text_model.specs.ScriptLines.{LineFault, decimal_in, payload_in}

-- the digits of std's words
pub numerals : IsNumeralModel (λ ds. all_ascii_digits ds ≡ true) (digits_value 10)
numerals = numerals_by_value (λ ds. all_ascii_digits ds ≡ true) tells_all_ascii_digits

is_decimal-decimal : (n : ℕ) → n < 2 ^ 64 → is_decimal (decimal n) ≡ true
unfolding is_decimal
is_decimal-decimal n small =
    let some : 0 < length (decimal n) = decimal_nonempty n small in
    let few : length (decimal n) ≤ 20 = length-decimal-le 20 n (omega arith) (omega arith) small in
    let value : digits_value 10 (decimal n) < 2 ^ 64 = omega (arith, digits_value-decimal numerals n small) in
    and_from _ _
    (and_from _ _ (and_from _ _ (lt-ltb 0 (length (decimal n)) some) (le-leb (length (decimal n)) 20 few))
    (digits_decimal numerals n small)) (lt-ltb (digits_value 10 (decimal n)) (2 ^ 64) value)

pub decimal_in-decimal : (n : ℕ) → n < 2 ^ 64 → decimal_in (decimal n) ≡ Ok n
unfolding decimal_in
decimal_in-decimal n small =
    cond-true (is_decimal (decimal n)) _ _ (is_decimal-decimal n small)
    ∙ ap (λ (n : ℕ). let r : Result ℕ LineFault = Ok n in r) (digits_value-decimal numerals n small)

-- the two digits of a byte
abbrev pair_of : ℕ → List ℕ
pair_of byte = digit_char (byte / 16) ∷ digit_char (byte % 16) ∷ []

abbrev pairs_of : List ℕ → List ℕ
pairs_of bytes = flat_map pair_of bytes

length-pairs_of : (bytes : List ℕ) → length (pairs_of bytes) ≡ 2 * length bytes
length-pairs_of [] = refl
length-pairs_of (b ∷ bytes) = omega (arith, length-pairs_of bytes)

is_digit-digit_char : (d : ℕ) → d < 16 → is_digit (digit_char d) 16 ≡ true
is_digit-digit_char d small =
    let value = digit_value-digit_char d (omega arith) in
    lt-ltb (digit_value (digit_char d)) 16 (omega arith)

list_all-pairs_of : (bytes : List ℕ) → AllByRecursion (λ byte. byte < 256) bytes
    → list_all (λ c. is_digit c 16) (pairs_of bytes) ≡ true
list_all-pairs_of [] h = refl
list_all-pairs_of (b ∷ bytes) h =
    let small : b < 256 = h.0 in
    and_from _ _ (is_digit-digit_char (b / 16) (omega arith))
    (and_from _ _ (is_digit-digit_char (b % 16) (omega arith)) (list_all-pairs_of bytes h.1))

bytes_of_pairs-pairs_of : (bytes : List ℕ) → AllByRecursion (λ byte. byte < 256) bytes
    → bytes_of_pairs (pairs_of bytes) ≡ bytes
bytes_of_pairs-pairs_of [] h = refl
bytes_of_pairs-pairs_of (b ∷ bytes) h =
    let small : b < 256 = h.0 in
    let high = digit_value-digit_char (b / 16) (omega arith) in
    let low = digit_value-digit_char (b % 16) (omega arith) in
    let byte : 16 * digit_value (digit_char (b / 16)) + digit_value (digit_char (b % 16)) ≡ b =
    omega (arith, high, low) in
    ap (λ (c : ℕ). c ∷ bytes_of_pairs (pairs_of bytes)) byte
    ∙ ap (λ (bs : List ℕ). b ∷ bs) (bytes_of_pairs-pairs_of bytes h.1)

is_hex-pairs_of : (bytes : List ℕ) → AllByRecursion (λ byte. byte < 256) bytes → 0 < length bytes
    → is_hex (pairs_of bytes) ≡ true
unfolding is_hex
is_hex-pairs_of bytes h some =
    let len = length-pairs_of bytes in
    or_right _ _
    (and_from _ _
    (and_from _ _ (lt-ltb 0 (length (pairs_of bytes)) (omega arith))
    (eq-eqb (length (pairs_of bytes) % 2) 0 (omega arith))) (list_all-pairs_of bytes h))

pub payload_in-hex_text : (bytes : List ℕ) → AllByRecursion (λ byte. byte < 256) bytes
    → payload_in (hex_text bytes) ≡ Ok bytes
unfolding payload_in is_hex
payload_in-hex_text [] h = refl
payload_in-hex_text (b ∷ bytes) h =
    cond-true (is_hex (pairs_of (b ∷ bytes))) _ _ (is_hex-pairs_of (b ∷ bytes) h (omega arith))
    ∙ ap (λ (bs : List ℕ). let r : Result (List ℕ) LineFault = Ok bs in r) (bytes_of_pairs-pairs_of (b ∷ bytes) h)

-- ---- what the text of bytes is made of
low_is_no_digit : (c : ℕ) → c < 48 → digit_value c ≡ 36
low_is_no_digit c low = cond-true (ltb c 48) _ _ (lt-ltb c 48 low)

hex_digit_is_no : (c d : ℕ) → c < 48 → is_digit d 16 ≡ true → not (d == c) ≡ true
hex_digit_is_no c d low h =
    not_from_false (d == c) (ne_eqb d c (λ same.
    let small = ltb-true (digit_value d) 16 h in
    let value : digit_value d ≡ 36 = ap digit_value same ∙ low_is_no_digit c low in
    omega arith))

hex_digits_free : (c : ℕ) (text : List ℕ) → c < 48 → list_all (λ d. is_digit d 16) text ≡ true
    → list_all (λ d. not (d == c)) text ≡ true
hex_digits_free c [] low h = refl
hex_digits_free c (d ∷ text) low h =
    let parts = and_parts (is_digit d 16) _ h in
    and_from _ _ (hex_digit_is_no c d low parts.0) (hex_digits_free c text low parts.1)

-- a byte below the digits and other than `-` is in no text of bytes
pub hex_text_free : (c : ℕ) (bytes : List ℕ) → c < 45 → AllByRecursion (λ byte. byte < 256) bytes
    → list_all (λ d. not (d == c)) (hex_text bytes) ≡ true
hex_text_free c [] low h = and_from _ _ (not_from_false (45 == c) (ne_eqb 45 c (λ same. omega arith))) refl
hex_text_free c (b ∷ bytes) low h =
    hex_digits_free c (pairs_of (b ∷ bytes)) (omega arith) (list_all-pairs_of (b ∷ bytes) h)

pub some_hex_text : (bytes : List ℕ) → 0 < length (hex_text bytes)
some_hex_text [] = omega arith
some_hex_text (b ∷ bytes) = omega (arith, length-pairs_of (b ∷ bytes))
