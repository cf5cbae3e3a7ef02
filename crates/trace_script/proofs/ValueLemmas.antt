-- What a field spells, from the front.
use Rattle.std.proofs.Common.{◌≡◌, ◌≢◌, ◌==◌, ℕ, ◌+◌, ◌-◌, ◌*◌, ◌%◌, ◌^◌, ◌<◌, ◌≤◌, ◌⊎◌, true, false, List, [], ◌∷◌}
use Rattle.std.proofs.Common.{◌++◌, suc, length, get_or, take, drop, Result, Ok, Err, refl, sym, ◌∙◌, ap, subst, inl}
use Rattle.std.proofs.Common.{inr, arith}
use Rattle.std.specs.Char.{digit_value}
use Rattle.std.specs.Int.{IsInRange}
use Rattle.std.specs.Str.{all_ascii_digits}
use Rattle.std.specs.Str.Parse.{digits_value}
use Rattle.std.proofs.lemmas.Bool.{ltb-true, leb-true, lt-ltb, le-leb, and_from, and_parts, cond-true, cond-false}
use Rattle.std.proofs.lemmas.Bool.{eqb-false, false_from_ne_true}
use Rattle.std.proofs.lemmas.Int.Digits.{digits_value_more, digits_more}
use Rattle.std.proofs.lemmas.List.{take_all, length-take, length-take-le, take_rest}
use Rattle.std.proofs.Math.Seq.{split_at}
use Rattle.std.proofs.lemmas.Str.{digit_value_digit}
use Rattle.std.proofs.lemmas.Str.Parse.{digit_at, digits_value-take-le, digits_value_short}
use Rattle.text_model.specs.Text.{is_decimal}
use Rattle.text_model.specs.ScriptLines.{LineFault, bad_number, decimal_in, number_below, names_cpu, cpu_in}
use Rattle.text_model.proofs.TextLemmas.{numerals}
use Rattle.text_model.proofs.Readings.{ok_is_no_err, chosen}

-- ---- numbers
no_number : (field : List ℕ) → is_decimal field ≡ false → decimal_in field ≡ Err bad_number
unfolding decimal_in
no_number field h = cond-false (is_decimal field) _ _ h

-- the parts of the test
pub decimal_parts : (field : List ℕ) → is_decimal field ≡ true
    → (0 < length field) × (length field ≤ 20) × (all_ascii_digits field ≡ true) × (digits_value 10 field < 2 ^ 64)
unfolding is_decimal
decimal_parts field h =
    let a = and_parts _ _ h in
    let b = and_parts _ _ a.0 in
    let d = and_parts _ _ b.0 in
    (ltb-true _ _ d.0, leb-true _ _ d.1, b.1, ltb-true _ _ a.1)

-- too few or too many digits
pub number_of_length : (field : List ℕ) → (length field ≡ 0) ⊎ (20 < length field) → decimal_in field ≡ Err bad_number
number_of_length field (inl h) =
    no_number field (false_from_ne_true _ (λ yes. let parts = decimal_parts field yes in omega arith))
number_of_length field (inr h) =
    no_number field (false_from_ne_true _ (λ yes. let parts = decimal_parts field yes in omega arith))

digit_there : (field : List ℕ) (i : ℕ) → all_ascii_digits field ≡ true → i < length field
    → IsInRange 48 57 (get_or field i 0)
digit_there field i digits below = digit_at field i (numerals.to field digits) below

more_value : (field : List ℕ) (i digit : ℕ) → i < length field → digit ≡ get_or field i 0 → IsInRange 48 57 digit
    → digits_value 10 (take (i + 1) field) ≡ digits_value 10 (take i field) * 10 + (digit - 48)
more_value field i digit below is range =
    let value = digit_value_digit digit range in
    digits_value_more 10 field i below
    ∙ ap (λ (c : ℕ). digits_value 10 (take i field) * 10 + digit_value c) (sym is)
    ∙ ap (λ (n : ℕ). digits_value 10 (take i field) * 10 + n) (omega arith)

-- a digit more
pub digits_turn : (field : List ℕ) (i digit : ℕ) → i < length field → digit ≡ get_or field i 0 → IsInRange 48 57 digit
    → all_ascii_digits (take i field) ≡ true
    → all_ascii_digits (take (i + 1) field) ≡ true
digits_turn field i digit below is range digits =
    let value = digit_value_digit digit range in
    let small : digit_value (get_or field i 0) < 10 = subst (λ (c : ℕ). digit_value c < 10) is (omega arith) in
    numerals.from (take (i + 1) field) (digits_more 10 field i below (numerals.to (take i field) digits) small)

pub value_turn : (field : List ℕ) (i digit number next : ℕ) → i < length field → digit ≡ get_or field i 0
    → IsInRange 48 57 digit
    → number ≡ digits_value 10 (take i field) → next ≡ number * 10 + (digit - 48)
    → next ≡ digits_value 10 (take (i + 1) field)
value_turn field i digit number next below is range value h =
    h ∙ ap (λ (n : ℕ). n * 10 + (digit - 48)) value ∙ sym (more_value field i digit below is range)

-- a byte that goes on to no number
pub number_stops : (field : List ℕ) (i digit number : ℕ) → i < length field → digit ≡ get_or field i 0
    → number ≡ digits_value 10 (take i field)
    → (IsInRange 48 57 digit × (number * 10 + (digit - 48) < 2 ^ 64) → ⊥) → decimal_in field ≡ Err bad_number
number_stops field i digit number below is value h =
    no_number field (false_from_ne_true _ (λ yes.
    let parts = decimal_parts field yes in
    let range : IsInRange 48 57 digit =
    subst (λ (c : ℕ). IsInRange 48 57 c) (sym is) (digit_there field i parts.2 below) in
    let more = value_turn field i digit number (number * 10 + (digit - 48)) below is range value refl in
    let front = digits_value-take-le 10 field (i + 1) (omega arith) in
    h (range, omega arith)))

pub number_whole : (field : List ℕ) (number : ℕ) → 0 < length field → length field ≤ 20 → all_ascii_digits field ≡ true
    → number ≡ digits_value 10 field → number < 2 ^ 64
    → decimal_in field ≡ Ok number
unfolding decimal_in is_decimal
number_whole field number some few digits value small =
    cond-true (is_decimal field) _ _
    (and_from _ _ (and_from _ _ (and_from _ _ (lt-ltb 0 (length field) some) (le-leb (length field) 20 few)) digits)
    (lt-ltb (digits_value 10 field) (2 ^ 64) (omega arith)))
    ∙ ap (λ (n : ℕ). let r : Result ℕ LineFault = Ok n in r) (sym value)

-- the last digit is read
pub number_ends : (field : List ℕ) (i number : ℕ) → (length field == 0) ≡ false → length field ≤ 20 → length field ≤ i
    → all_ascii_digits (take i field) ≡ true
    → number ≡ digits_value 10 (take i field) → number < 2 ^ 64 → decimal_in field ≡ Ok number
number_ends field i number some few whole digits value small =
    let all = take_all i field whole in
    let some_length : length field ≢ 0 = eqb-false (length field) 0 some in
    number_whole field number (omega arith) few
    (subst (λ (ds : List ℕ). all_ascii_digits ds ≡ true) all digits)
    (value ∙ ap (λ (ds : List ℕ). digits_value 10 ds) all) small

-- ---- a number at the beginning of a line
pub short_value : (line : List ℕ) (at number : ℕ) → at < 19 → all_ascii_digits (take at line) ≡ true
    → number ≡ digits_value 10 (take at line) → number < 10 ^ 18
short_value line at number short digits value =
    let few : length (take at line) ≤ 18 = omega (arith, length-take at line) in
    let small = digits_value_short numerals (take at line) 18 digits few in
    omega (arith, small)

-- a list round one of its places, in the code's words
pub around : (line : List ℕ) (at : ℕ) → at < length line
    → line ≡ take at line ++ get_or line at 0 ∷ take (length line - (at + 1)) (drop (at + 1) line)
around line at below =
    let next : suc at ≡ at + 1 = omega arith in
    split_at line at 0 below
    ∙ ap (λ (n : ℕ). take at line ++ get_or line at 0 ∷ drop n line) next
    ∙ ap (λ (bs : List ℕ). take at line ++ get_or line at 0 ∷ bs) (sym (take_rest line (at + 1)))

pub short_decimal : (line : List ℕ) (at number : ℕ) → at < length line → at < 19 → 0 < at
    → all_ascii_digits (take at line) ≡ true → number ≡ digits_value 10 (take at line)
    → decimal_in (take at line) ≡ Ok number
short_decimal line at number below short some digits value =
    let small = short_value line at number short digits value in
    let len = length-take-le at line (omega arith) in
    number_whole (take at line) number (omega (arith, len)) (omega (arith, len)) digits value (omega (arith, small))

-- ---- a CPU's name at the beginning of a line
named_cpu : (digits : List ℕ) (n : ℕ) → decimal_in digits ≡ Ok n → names_cpu (99 ∷ digits) ≡ true
unfolding decimal_in
named_cpu digits n h =
    chosen (is_decimal digits) _ _ n (λ is _.
    let parts = decimal_parts digits is in
    and_from _ _ (and_from _ _ refl (lt-ltb 0 (length digits) parts.0)) parts.2)
    (λ other. absurd (ok_is_no_err n bad_number (sym other))) h

pub below_limit : (limit : ℕ) (field : List ℕ) (n : ℕ) → decimal_in field ≡ Ok n → n < limit
    → number_below limit field ≡ Ok n
unfolding number_below
below_limit limit field n h small = rw h (cond-true _ _ _ (lt-ltb n limit small))

pub cpu_read : (cpus : ℕ) (digits : List ℕ) (cpu : ℕ) → decimal_in digits ≡ Ok cpu → cpu < cpus
    → cpu_in cpus (99 ∷ digits) ≡ Ok cpu
unfolding cpu_in
cpu_read cpus digits cpu h small =
    cond-true (names_cpu (99 ∷ digits)) _ _ (named_cpu digits cpu h) ∙ below_limit cpus digits cpu h small

-- a text with its first byte, in the code's words
pub first_and_rest : (text : List ℕ) (byte : ℕ) → 1 ≤ length text → get_or text 0 0 ≡ byte
    → text ≡ byte ∷ take (length text - 1) (drop 1 text)
first_and_rest [] byte some is = absurd (omega arith)
first_and_rest (b ∷ text) byte some is =
    ap (λ (n : ℕ). n ∷ text) is ∙ ap (λ (bs : List ℕ). byte ∷ bs) (sym (take_rest (b ∷ text) 1))

-- a text with its first two bytes
pub two_and_rest : (text : List ℕ) → 2 ≤ length text
    → text ≡ get_or text 0 0 ∷ get_or text 1 0 ∷ take (length text - 2) (drop 2 text)
two_and_rest [] some = absurd (omega arith)
two_and_rest (a ∷ []) some = absurd (omega arith)
two_and_rest (a ∷ b ∷ text) some = ap (λ (bs : List ℕ). a ∷ b ∷ bs) (sym (take_rest (a ∷ b ∷ text) 2))

pub two_with : (text : List ℕ) (second : ℕ) → 2 ≤ length text → get_or text 1 0 ≡ second
    → text ≡ get_or text 0 0 ∷ second ∷ take (length text - 2) (drop 2 text)
two_with text second some is =
    two_and_rest text some ∙ ap (λ (n : ℕ). get_or text 0 0 ∷ n ∷ take (length text - 2) (drop 2 text)) is

pub both_with : (text : List ℕ) (first second : ℕ) → 2 ≤ length text → get_or text 0 0 ≡ first
    → get_or text 1 0 ≡ second → text ≡ first ∷ second ∷ take (length text - 2) (drop 2 text)
both_with text first second some is also =
    two_with text second some also ∙ ap (λ (n : ℕ). n ∷ second ∷ take (length text - 2) (drop 2 text)) is

-- a byte less 48 that is below ten, if it wraps or not
pub wrapped_digit : (byte : ℕ) → byte < 256 → (byte + 208) % 256 ≤ 9
    → (48 ≤ byte) × (byte ≤ 57) × ((byte + 208) % 256 ≡ byte - 48)
wrapped_digit byte small low = (omega arith, omega arith, omega arith)
