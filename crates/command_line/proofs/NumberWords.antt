-- A text of digits is a number by std's words too.
use Rattle.std.proofs.Common.{◌≡◌, ℕ, ◌^◌, ◌<◌, ◌≤◌, ◌&&◌, Bool, true, false, List, [], ◌∷◌, length, nat_lt, None}
use Rattle.std.proofs.Common.{Result, Err, refl, sym, ap, subst, ◌∙◌, arith}
use Rattle.std.specs.Char.{is_ascii_digit}
use Rattle.std.specs.List.{list_all}
use Rattle.std.specs.Result.{OkIff}
use Rattle.std.specs.Str.Parse.{digits_value, ParsesUnsigned}
use Rattle.std.proofs.lemmas.Str.Parse.{numerals_by_value, parse_digits, tells_all_ascii_digits}
use Rattle.std.proofs.lemmas.Bool.Decides.{nat_tests}
use Rattle.std.specs.Str.{all_ascii_digits}
use Rattle.command_line.specs.FileWords.{is_number, number_in}

same_test : (text : List ℕ) → list_all is_ascii_digit text ≡ all_ascii_digits text
same_test [] = refl
same_test (x ∷ xs) = ap (λ b. is_ascii_digit x && b) (same_test xs)

second : (a b : Bool) → (a && b) ≡ true → b ≡ true
second true b is = is
second false b is = absurd (cc)

first : (a b : Bool) → (a && b) ≡ true → a ≡ true
first true b is = refl
first false b is = absurd (cc)

-- what `parse` makes of digits
parsed : {E : Type 0} (bits : ℕ) (text : List ℕ) (r : Result ℕ E) → ParsesUnsigned bits 10 text r
    → is_number text ≡ true → OkIff r ((0 < length text) × (digits_value 10 text < 2 ^ bits)) (digits_value 10 text)
parsed bits text r h is =
    let digits : all_ascii_digits text ≡ true =
    sym (same_test text) ∙ second (nat_lt 0 (length text)) (list_all is_ascii_digit text) is in
    parse_digits (numerals_by_value (λ ds. all_ascii_digits ds ≡ true) tells_all_ascii_digits) bits text r h digits

-- a number that doesn't fit is above every bound that does
pub too_high : (bits low high : ℕ) (text : List ℕ) → is_number text ≡ true → 2 ^ bits ≤ digits_value 10 text
    → high < 2 ^ bits → None ≡ number_in low high text
too_high bits low high text is large fits = grind (arith, nat_tests)

pub refused : {E : Type 0} (bits low high : ℕ) (text : List ℕ) (r : Result ℕ E) (e : E)
    → ParsesUnsigned bits 10 text r → is_number text ≡ true → r ≡ Err e → high < 2 ^ bits
    → None ≡ number_in low high text
refused bits low high text r e h is failed fits =
    let some : 0 < length text =
    grind (arith, nat_tests, first (nat_lt 0 (length text)) (list_all is_ascii_digit text) is) in
    let no : ¬ ((0 < length text) × (digits_value 10 text < 2 ^ bits)) =
    subst (λ r. OkIff r ((0 < length text) × (digits_value 10 text < 2 ^ bits)) (digits_value 10 text)) failed
    (parsed bits text r h is) in
    let large : ¬ (digits_value 10 text < 2 ^ bits) = λ small. no (some, small) in
    too_high bits low high text is (omega (arith, large)) fits
