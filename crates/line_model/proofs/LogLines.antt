-- What is printed of a line of the log is a line that begins with a digit.
use Rattle.std.proofs.Common.{◌≡◌, ℕ, zero, suc, ◌+◌, ◌<◌, ◌≤◌, ◌/◌, ◌%◌, Bool, true, false, not, ◌==◌, ltb, List, []}
use Rattle.std.proofs.Common.{◌∷◌, ◌++◌, length, map, flat_map, decimal, Some, Contains, refl, sym, ap, ◌∙◌, subst}
use Rattle.std.proofs.Common.{arith, ⊎_elim}
use Rattle.std.specs.Prelude.{All, codes, IsTrue, get_or}
use Rattle.std.specs.Char.{is_digit}
use Rattle.std.specs.Fmt.{digits, digits_onto, digit_glyph}
use Rattle.std.specs.List.{slice_get, list_all}
use Rattle.std.proofs.lemmas.Bool.{lt-ltb, cases_Bool, cond-true, cond-false, and_from, and_parts, ne_eqb}
use Rattle.std.proofs.lemmas.Bool.{not_from_false}
use Rattle.std.proofs.lemmas.Nat.{mod_below}
use Rattle.std.proofs.lemmas.Option.{none-some}
use Rattle.std.proofs.lemmas.Str.{digit_value_digit}
use Rattle.std.proofs.lemmas.List.Folds.{list_all-append, list_all_at}
use Rattle.std.proofs.lemmas.List.Elements.{All-map}
use Rattle.text_model.specs.Text.{line_feed}
use Rattle.text_model.specs.Log.{LogLine, refused, taken, empty, moving, asks, new_delivery, known_delivery}
use Rattle.text_model.specs.Log.{untaken_delivery}
use Rattle.text_model.specs.Printing.{refusal_text, line_text, page_text, delivery_text, log_line_text}
use Rattle.text_model.specs.Printing.{printed_log_line}
use Rattle.text_model.proofs.LineWrites.{is_free}
use Rattle.trace_model.specs.Frames.{WriteFault, too_deep, too_long, late_moment, crowded, worn, no_frame, not_reserved}
use Rattle.line_model.specs.Shown.{IsLogLine}

-- ---- numbers

abbrev are_digits : List ℕ → Bool
are_digits text = list_all (λ b. is_digit b 10) text

digit_is : (d : ℕ) → d < 10 → is_digit (48 + d) 10 ≡ true
digit_is d low = let value = digit_value_digit (48 + d) (omega arith, omega arith) in lt-ltb _ 10 (omega (arith, value))

glyph_is : (n : ℕ) → is_digit (digit_glyph false (n % 10)) 10 ≡ true
glyph_is n = let low : n % 10 < 10 = mod_below n 10 (omega arith) in
    subst (λ (c : ℕ). is_digit c 10 ≡ true) (sym (cond-true (ltb (n % 10) 10) _ _ (lt-ltb (n % 10) 10 low)))
    (digit_is (n % 10) low)

-- the last digits of a number before other digits are digits
onto_digits : (k n : ℕ) (after : List ℕ)
    → are_digits after ≡ true
    → are_digits (digits_onto k 10 false n after) ≡ true
onto_digits zero n after are = are
onto_digits (suc k) n after are =
    let more : are_digits (digit_glyph false (n % 10) ∷ after) ≡ true = and_from _ _ (glyph_is n) are in
    ⊎_elim
    (λ (last : (n / 10 == 0) ≡ true). subst (λ (text : List ℕ). are_digits text ≡ true)
    (sym (cond-true (n / 10 == 0) _ _ last)) more)
    (λ (on : (n / 10 == 0) ≡ false). subst (λ (text : List ℕ). are_digits text ≡ true)
    (sym (cond-false (n / 10 == 0) _ _ on)) (onto_digits k (n / 10) (digit_glyph false (n % 10) ∷ after) more))
    (cases_Bool (n / 10 == 0))

onto_longer : (k n : ℕ) (after : List ℕ) → length after ≤ length (digits_onto k 10 false n after)
onto_longer zero n after = omega arith
onto_longer (suc k) n after =
    let rest = onto_longer k (n / 10) (digit_glyph false (n % 10) ∷ after) in
    ⊎_elim
    (λ (last : (n / 10 == 0) ≡ true). subst (λ (text : List ℕ). length after ≤ length text)
    (sym (cond-true (n / 10 == 0) _ _ last)) (omega arith))
    (λ (on : (n / 10 == 0) ≡ false). subst (λ (text : List ℕ). length after ≤ length text)
    (sym (cond-false (n / 10 == 0) _ _ on)) (omega (arith, rest)))
    (cases_Bool (n / 10 == 0))

onto_some : (k n : ℕ) → 0 < length (digits_onto (suc k) 10 false n [])
onto_some k n =
    let rest = onto_longer k (n / 10) (digit_glyph false (n % 10) ∷ []) in
    ⊎_elim
    (λ (last : (n / 10 == 0) ≡ true). subst (λ (text : List ℕ). 0 < length text)
    (sym (cond-true (n / 10 == 0) _ _ last)) (omega arith))
    (λ (on : (n / 10 == 0) ≡ false). subst (λ (text : List ℕ). 0 < length text)
    (sym (cond-false (n / 10 == 0) _ _ on)) (omega (arith, rest)))
    (cases_Bool (n / 10 == 0))

decimal_digits : (n : ℕ) → are_digits (decimal n) ≡ true
unfolding digits
decimal_digits n = onto_digits 64 n [] refl

some_digits : (n : ℕ) → 0 < length (decimal n)
unfolding digits
some_digits n = onto_some 63 n

-- ---- no line feed

digit_no_feed : (b : ℕ) → is_digit b 10 ≡ true → not (b == 10) ≡ true
digit_no_feed b is = not_from_false (b == 10)
    (ne_eqb b 10 (λ same. let other : is_digit 10 10 ≡ true = subst (λ (c : ℕ). is_digit c 10 ≡ true) same is in cc))

digits_free : (text : List ℕ) → are_digits text ≡ true → is_free 10 text ≡ true
digits_free [] are = refl
digits_free (b ∷ text) are = let parts = and_parts (is_digit b 10) _ are in
    and_from _ _ (digit_no_feed b parts.0) (digits_free text parts.1)

-- ---- texts that go on, without a line feed

record IsFree (text : List ℕ) : Type 0 where
  free : is_free 10 text ≡ true

free_on : {text : List ℕ} → IsFree text → (rest : List ℕ) → is_free 10 rest ≡ true → IsFree (text ++ rest)
free_on {text = text} before rest after =
    record { free = list_all-append (λ b. not (b == 10)) text rest ∙ and_from _ _ before.free after }

free_number : {text : List ℕ} → IsFree text → (n : ℕ) → IsFree (text ++ decimal n)
free_number before n = free_on before (decimal n) (digits_free (decimal n) (decimal_digits n))

-- and begin with a digit
record IsGood (text : List ℕ) : Type 0 where
  first : ℕ
  begins : slice_get text 0 ≡ Some first
  digit : IsTrue (is_digit first 10)
  free : IsFree text

some_good : (digits : List ℕ) → are_digits digits ≡ true → 0 < length digits → IsGood digits
some_good [] are some = absurd (omega arith)
some_good (d ∷ digits) are some = record {
  first = d;
  begins = refl;
  digit = (and_parts (is_digit d 10) _ are).0;
  free = record { free = digits_free (d ∷ digits) are };
}

first_on : (text rest : List ℕ) (first : ℕ) → slice_get text 0 ≡ Some first → slice_get (text ++ rest) 0 ≡ Some first
first_on [] rest first at = absurd (none-some first at)
first_on (b ∷ text) rest first at = at

on : {text : List ℕ} → IsGood text → (rest : List ℕ) → is_free 10 rest ≡ true → IsGood (text ++ rest)
on {text = text} good rest after = record {
  first = good.first;
  begins = first_on text rest good.first good.begins;
  digit = good.digit;
  free = free_on good.free rest after;
}

on_number : {text : List ℕ} → IsGood text → (n : ℕ) → IsGood (text ++ decimal n)
on_number good n = on good (decimal n) (digits_free (decimal n) (decimal_digits n))

-- ---- the lines

line_good : (line cpu : ℕ) → IsGood (line_text line cpu)
line_good line cpu =
    on_number (on (some_good (decimal line) (decimal_digits line) (some_digits line)) (codes " c") refl) cpu

delivery_good : (line collector cpu fill : ℕ) → IsGood (delivery_text line collector cpu fill)
delivery_good line collector cpu fill =
    let to : IsGood (decimal line ++ codes " d " ++ decimal collector) =
    on_number (on (some_good (decimal line) (decimal_digits line) (some_digits line)) (codes " d ") refl) collector in
    on_number (on (on_number (on to (codes " c") refl) cpu) (codes " ") refl) fill

page_free : (fill first count missed : ℕ) → IsFree (page_text fill first count missed)
page_free fill first count missed =
    let word : IsFree (codes " taken fill ") = record { free = refl } in
    let of_first : IsFree (codes " taken fill " ++ decimal fill ++ codes " first " ++ decimal first) =
    free_number (free_on (free_number word fill) (codes " first ") refl) first in
    free_number (free_on (free_number (free_on of_first (codes " count ") refl) count) (codes " missed ") refl) missed

refusal_free : (why : WriteFault) → is_free 10 (refusal_text why) ≡ true
refusal_free too_deep = refl
refusal_free too_long = refl
refusal_free late_moment = refl
refusal_free crowded = refl
refusal_free worn = refl
refusal_free no_frame = refl
refusal_free not_reserved = refl

log_line_good : (line : LogLine) → IsGood (log_line_text line)
log_line_good (refused line cpu why) =
    on (on (line_good line cpu) (codes " refused ") refl) (refusal_text why) (refusal_free why)
log_line_good (taken line cpu fill first count missed) =
    on (line_good line cpu) (page_text fill first count missed) (page_free fill first count missed).free
log_line_good (empty line cpu) = on (line_good line cpu) (codes " empty") refl
log_line_good (moving line cpu fill) = on_number (on (line_good line cpu) (codes " moving ") refl) fill
log_line_good (asks line cpu fill) = on_number (on (line_good line cpu) (codes " asks ") refl) fill
log_line_good (new_delivery line collector cpu fill) =
    on (delivery_good line collector cpu fill) (codes " new") refl
log_line_good (known_delivery line collector cpu fill) =
    on (delivery_good line collector cpu fill) (codes " known") refl
log_line_good (untaken_delivery line collector cpu fill) =
    on (delivery_good line collector cpu fill) (codes " not-taken") refl

free_of_feed : (text : List ℕ) → is_free 10 text ≡ true → Contains text line_feed → ⊥
free_of_feed text free (k, within, at) =
    let is : not (get_or text k 10 == 10) ≡ false = ap (λ (b : ℕ). not (b == 10)) at in
    let none : is_free 10 text ≡ false = list_all_at (λ b. not (b == 10)) text k 10 within is in
    (let no : ⊥ = cc in no)

log_line_is : (line : LogLine) → IsLogLine (log_line_text line)
log_line_is line = let good = log_line_good line in record {
  first = good.first;
  begins = good.begins;
  digit = good.digit;
  one_line = free_of_feed (log_line_text line) good.free.free;
}

-- the lines of a log
abbrev pub log_lines : List LogLine → List (List ℕ)
log_lines log = map log_line_text log

pub are_log_lines : (log : List LogLine) → All IsLogLine (log_lines log)
are_log_lines log = All-map IsLogLine log_line_text log (λ k d within. log_line_is (get_or log k d))

pub log_printed : (log : List LogLine)
    → flat_map printed_log_line log ≡ flat_map (λ line. line ++ line_feed ∷ []) (log_lines log)
log_printed [] = refl
log_printed (line ∷ log) = ap (λ (text : List ℕ). printed_log_line line ++ text) (log_printed log)
