-- Hexadecimal digits: those of the kit's table are those of the definition; and a number's, from the last one on.
use Rattle.std.proofs.Common.{Bool, ◌≡◌, ℕ, zero, suc, ◌+◌, ◌-◌, ◌*◌, ◌/◌, ◌%◌, ◌^◌, ◌<◌, ◌≤◌, ◌==◌, true, false, List}
use Rattle.std.proofs.Common.{[], ◌∷◌, length, get_or, set, drop, refl, sym, ap, subst, ◌∙◌, arith, rules}
use Rattle.std.proofs.Math.ListN.{drop_of_length-le}
use Rattle.std.proofs.Math.Nat.{pow-suc}
use Rattle.std.proofs.lemmas.List.{drop-set}
use Rattle.std.specs.Char.{digit_char}
use Rattle.std.specs.Fmt.{digits, digits_onto}
use Rattle.std.specs.List.{list_all, enumerate_from}
use Rattle.std.proofs.lemmas.Bool.{and_parts, eqb-true}
use Rattle.hex.specs.Hex.{encode_lower, encode_with, lower_digits}
use Rattle.text_values.specs.Digits.{pair_of, pairs_of}

abbrev is_digit_of : ℕ × ℕ → Bool
is_digit_of entry = entry.1 == digit_char entry.0

digit_in : (digits : List ℕ) (n i : ℕ) → list_all is_digit_of (enumerate_from n digits) ≡ true
    → i < length digits → get_or digits i 0 ≡ digit_char (n + i)
digit_in [] n i all below = absurd (omega arith)
digit_in (d ∷ digits) n zero all below =
    let here : n ≡ n + 0 = omega arith in eqb-true d (digit_char n) (and_parts _ _ all).0 ∙ ap digit_char here
digit_in (d ∷ digits) n (suc i) all below =
    digit_in digits (n + 1) i (and_parts _ _ all).1 (omega arith) ∙ ap digit_char (later n i)
  where
    later : (n i : ℕ) → n + 1 + i ≡ n + suc i
    later n i = omega arith

all_digits : list_all is_digit_of (enumerate_from 0 lower_digits) ≡ true
all_digits = refl

sixteen : length lower_digits ≡ 16
sixteen = refl

digit_is : (d : ℕ) → d < 16 → get_or lower_digits d 0 ≡ digit_char d
digit_is d small =
    let here : 0 + d ≡ d = omega arith in
    digit_in lower_digits 0 d all_digits (omega (arith, sixteen)) ∙ ap digit_char here

-- bytes in the kit's digits
pub digits_are : (bytes : List ℕ) → ((k : ℕ) → get_or bytes k 0 < 256) → encode_lower bytes ≡ pairs_of bytes
unfolding encode_with
digits_are [] small = refl
digits_are (b ∷ bytes) small =
    let byte = small 0 in
    let high = digit_is (b / 16) (omega arith) in
    let low = digit_is (b % 16) (omega arith) in
    let rest = digits_are bytes (λ k. small (suc k)) in
    cc

-- ---- of a number

is_zero : (n : ℕ) → n < 1 → (n == 0) ≡ true
is_zero zero none = refl
is_zero (suc n) none = absurd (omega arith)

is_more : (n : ℕ) → 0 < n → (n == 0) ≡ false
is_more n some = search (rules, some)

-- the last digit, before those that are there, and the others after it
pub last_digit : (k n : ℕ) (rest : List ℕ) → 16 ≤ n
    → digits_onto (suc k) 16 false n rest ≡ digits_onto k 16 false (n / 16) (digit_char (n % 16) ∷ rest)
last_digit k n rest more = let some = is_more (n / 16) (omega arith) in rw some refl

-- the first digit
pub first_digit : (k n : ℕ) (rest : List ℕ) → n < 16 → digits_onto (suc k) 16 false n rest ≡ digit_char n ∷ rest
first_digit k n rest one =
    let none = is_zero (n / 16) (omega arith) in
    let same : n % 16 ≡ n = omega arith in
    rw (none, same) refl

-- more than one digit
pub room_before : (at n : ℕ) → n < 16 ^ (at + 1) → 16 ≤ n → 0 < at
room_before zero n fits more = absurd (omega (arith, fits, more))
room_before (suc at) n fits more = omega arith

pub room_after : (at n : ℕ) → n < 16 ^ (at + 1) → 16 ≤ n → n / 16 < 16 ^ (at - 1 + 1)
room_after zero n fits more = absurd (omega (arith, fits, more))
room_after (suc at) n fits more =
    let here : suc at - 1 + 1 ≡ suc at = omega arith in
    let more_by_one : suc at + 1 ≡ suc (suc at) = omega arith in
    let wide : 16 ^ (suc at + 1) ≡ 16 ^ suc at * 16 = ap (λ (k : ℕ). 16 ^ k) more_by_one ∙ pow-suc 16 (suc at) in
    rw here (omega (arith, fits, wide))

-- no digit is there yet
pub no_digits : (n : ℕ) (place : List ℕ) → length place ≡ 16
    → digits_onto 64 16 false n (drop 16 place) ≡ digits 16 false n
unfolding digits
no_digits n place wide = ap (digits_onto 64 16 false n) (drop_of_length-le place {i = 16} (omega (arith, wide)))

-- the last digit is put before those that are there
pub one_more : (at n d : ℕ) (place all : List ℕ) → 0 < at → at < length place → 16 ≤ n → d ≡ digit_char (n % 16)
    → digits_onto (at + 49) 16 false n (drop (at + 1) place) ≡ all
    → digits_onto (at - 1 + 49) 16 false (n / 16) (drop (at - 1 + 1) (set place at d)) ≡ all
one_more at n d place all some inside more is so_far =
    let here : at - 1 + 1 ≡ at = omega (arith, some) in
    let fuel : suc (at - 1 + 49) ≡ at + 49 = omega (arith, some) in
    let rest = drop (at + 1) place in
    ap (digits_onto (at - 1 + 49) 16 false (n / 16))
    (ap (λ (i : ℕ). drop i (set place at d)) here ∙ drop-set place at d inside ∙ ap (λ (x : ℕ). x ∷ rest) is)
    ∙ sym (last_digit (at - 1 + 49) n rest more)
    ∙ ap (λ (k : ℕ). digits_onto k 16 false n rest) fuel
    ∙ so_far

-- more than two digits
pub room_before_two : (at n : ℕ) → n < 16 ^ (at + 1) → 256 ≤ n → 1 < at
room_before_two zero n fits more = absurd (omega (arith, fits, more))
room_before_two (suc zero) n fits more = absurd (omega (arith, fits, more))
room_before_two (suc (suc at)) n fits more = omega arith

pub room_after_two : (at n : ℕ) → n < 16 ^ (at + 1) → 256 ≤ n → n / 256 < 16 ^ (at - 2 + 1)
room_after_two at n fits more =
    let first = room_after at n fits (omega (arith, more)) in
    let second = room_after (at - 1) (n / 16) first (omega (arith, more)) in
    let here : at - 1 - 1 + 1 ≡ at - 2 + 1 = omega arith in
    let left : n / 16 / 16 ≡ n / 256 = omega arith in
    subst (λ (k : ℕ). n / 256 < 16 ^ k) here (subst (λ (m : ℕ). m < 16 ^ (at - 1 - 1 + 1)) left second)

-- the digits of a byte, in the code's words
pub high_digit : (n : ℕ) (pair : List ℕ) → pair ≡ pair_of (n % 256) → get_or pair 0 0 ≡ digit_char (n / 16 % 16)
high_digit n pair is =
    let here : n % 256 / 16 ≡ n / 16 % 16 = omega arith in rw is (ap digit_char here)

pub low_digit : (n : ℕ) (pair : List ℕ) → pair ≡ pair_of (n % 256) → get_or pair 1 0 ≡ digit_char (n % 16)
low_digit n pair is =
    let here : n % 256 % 16 ≡ n % 16 = omega arith in rw is (ap digit_char here)

-- the last two digits are put before those that are there
pub two_more : (at n : ℕ) (pair place all : List ℕ) → 1 < at → at < length place → 256 ≤ n
    → pair ≡ pair_of (n % 256)
    → digits_onto (at + 49) 16 false n (drop (at + 1) place) ≡ all
    → digits_onto (at - 2 + 49) 16 false (n / 256)
    (drop (at - 2 + 1) (set (set place at (get_or pair 1 0)) (at - 1) (get_or pair 0 0)))
    ≡ all
two_more at n pair place all some inside more is so_far =
    let low = get_or pair 1 0 in
    let one = set place at low in
    let long : length one ≡ length place = search rules in
    let first = one_more at n low place all (omega (arith, some)) inside (omega (arith, more)) (low_digit n pair is) so_far in
    let second =
    one_more (at - 1) (n / 16) (get_or pair 0 0) one all (omega (arith, some)) (omega (arith, inside, long))
    (omega (arith, more)) (high_digit n pair is) first in
    let here : at - 1 - 1 ≡ at - 2 = omega arith in
    let left : n / 16 / 16 ≡ n / 256 = omega arith in
    subst
    (λ (k : ℕ). digits_onto (k + 49) 16 false (n / 256) (drop (k + 1) (set one (at - 1) (get_or pair 0 0))) ≡ all)
    here
    (subst (λ (m : ℕ).
    digits_onto (at - 1 - 1 + 49) 16 false m (drop (at - 1 - 1 + 1) (set one (at - 1) (get_or pair 0 0))) ≡ all)
    left second)

-- the first digit is put before the others
pub all_there : (at n d : ℕ) (place all : List ℕ) → at < length place → n < 16 → d ≡ digit_char n
    → digits_onto (at + 49) 16 false n (drop (at + 1) place) ≡ all → drop at (set place at d) ≡ all
all_there at n d place all inside one is so_far =
    let fuel : suc (at + 48) ≡ at + 49 = omega arith in
    let rest = drop (at + 1) place in
    drop-set place at d inside
    ∙ ap (λ (x : ℕ). x ∷ rest) is
    ∙ sym (first_digit (at + 48) n rest one)
    ∙ ap (λ (k : ℕ). digits_onto k 16 false n rest) fuel
    ∙ so_far

-- the first two
pub both_there : (at n : ℕ) (pair place all : List ℕ) → at < length place → n < 16 ^ (at + 1) → 16 ≤ n → n < 256
    → pair ≡ pair_of n
    → digits_onto (at + 49) 16 false n (drop (at + 1) place) ≡ all
    → drop (at - 1) (set (set place at (get_or pair 1 0)) (at - 1) (get_or pair 0 0)) ≡ all
both_there at n pair place all inside fits more few is so_far =
    let low = get_or pair 1 0 in
    let one = set place at low in
    let long : length one ≡ length place = search rules in
    let whole : n % 256 ≡ n = omega (arith, few) in
    let of_byte = is ∙ ap pair_of (sym whole) in
    let some = room_before at n fits more in
    let first = one_more at n low place all some inside more (low_digit n pair of_byte) so_far in
    let last : n / 16 % 16 ≡ n / 16 = omega (arith, few) in
    all_there (at - 1) (n / 16) (get_or pair 0 0) one all (omega (arith, inside, long)) (omega (arith, few))
    (high_digit n pair of_byte ∙ ap digit_char last) first
