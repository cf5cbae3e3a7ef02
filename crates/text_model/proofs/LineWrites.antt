-- Fields, lines and settings that are written are read back.
use Rattle.std.proofs.Common.{◌≡◌, ℕ, ◌+◌, ◌^◌, ◌<◌, ◌≤◌, ◌%◌, Bool, true, not, ◌==◌, cond, ltb, leb, List, [], ◌∷◌}
use Rattle.std.proofs.Common.{◌++◌, length, filter, decimal, Result, Ok, Err, refl, ◌∙◌, ap, arith, append_assoc}
use Rattle.std.specs.Char.{is_ascii_digit}
use Rattle.std.specs.List.{slice_split, onto_first, list_all, enumerate_from}
use Rattle.std.specs.Str.{all_ascii_digits, bytes_eq}
use Rattle.std.proofs.lemmas.Bool.{lt-ltb, leb-true, le-leb, eq-eqb, ne_eqb, and_from, and_parts, not-true}
use Rattle.std.proofs.lemmas.Bool.{not_from_false, cond-true}
use Rattle.std.proofs.lemmas.Fmt.{decimal_nonempty, digits_decimal}
use Rattle.std.proofs.lemmas.Slice.Eq.{bytes_eq-Decides}
use Rattle.std.proofs.lemmas.List.Splits.{slice_split-cons_no, slice_split-cons_yes}
use Rattle.text_model.specs.Text.{lines_of, fields_of, is_well_spaced, without_empty_end}
use Rattle.text_model.specs.ScriptLines.{LineFault, bad_line, out_of_range, NumberedLine, Setting, ◌>>=◌, number_below}
use Rattle.text_model.specs.ScriptLines.{names_cpu, cpu_in, value_of, value_in, allowed_for, is_significant}
use Rattle.text_model.specs.LineWriting.{line_of, text_of, cpu_text, setting_text}
use Rattle.text_model.proofs.TextLemmas.{numerals, decimal_in-decimal}

-- ---- a byte that a text hasn't
-- no byte of the text is c
abbrev pub is_free : ℕ → List ℕ → Bool
is_free c text = list_all (λ b. not (b == c)) text

same_byte : (c : ℕ) → (c == c) ≡ true
same_byte c = eq-eqb c c refl

split_free : (c : ℕ) (text rest : List ℕ) → is_free c text ≡ true
    → slice_split (λ b. b == c) (text ++ c ∷ rest) ≡ text ∷ slice_split (λ b. b == c) rest
split_free c [] rest h = slice_split-cons_yes (λ b. b == c) c rest (same_byte c)
split_free c (b ∷ text) rest h =
    let parts = and_parts (not (b == c)) _ h in
    slice_split-cons_no (λ b. b == c) b (text ++ c ∷ rest) (not-true (b == c) parts.0)
    ∙ ap (onto_first b) (split_free c text rest parts.1)

split_last : (c : ℕ) (text : List ℕ) → is_free c text ≡ true → slice_split (λ b. b == c) text ≡ text ∷ []
split_last c [] h = refl
split_last c (b ∷ text) h =
    let parts = and_parts (not (b == c)) _ h in
    slice_split-cons_no (λ b. b == c) b text (not-true (b == c) parts.0) ∙ ap (onto_first b) (split_last c text parts.1)

-- ---- fields
pub fields_of-line_of : (fields : List (List ℕ)) → 0 < length fields → list_all (is_free 32) fields ≡ true
    → fields_of (line_of fields) ≡ fields
fields_of-line_of [] some h = absurd (omega arith)
fields_of-line_of (f ∷ []) some h = split_last 32 f (and_parts (is_free 32 f) _ h).0
fields_of-line_of (f ∷ g ∷ fields) some h =
    let parts = and_parts (is_free 32 f) _ h in
    split_free 32 f (line_of (g ∷ fields)) parts.0
    ∙ ap (λ (fs : List (List ℕ)). f ∷ fs) (fields_of-line_of (g ∷ fields) (omega arith) parts.1)

is_free-append : (c : ℕ) (xs ys : List ℕ) → is_free c xs ≡ true → is_free c ys ≡ true → is_free c (xs ++ ys) ≡ true
is_free-append c [] ys h k = k
is_free-append c (b ∷ xs) ys h k = let parts = and_parts (not (b == c)) _ h in
    and_from _ _ parts.0 (is_free-append c xs ys parts.1 k)

pub is_free-line_of : (fields : List (List ℕ)) → list_all (is_free 10) fields ≡ true
    → is_free 10 (line_of fields) ≡ true
is_free-line_of [] h = refl
is_free-line_of (f ∷ []) h = (and_parts (is_free 10 f) _ h).0
is_free-line_of (f ∷ g ∷ fields) h =
    let parts = and_parts (is_free 10 f) _ h in
    is_free-append 10 f (32 ∷ line_of (g ∷ fields)) parts.0 (is_free-line_of (g ∷ fields) parts.1)

-- ---- lines
split-text_of : (lines : List (List ℕ)) → list_all (is_free 10) lines ≡ true
    → slice_split (λ b. b == 10) (text_of lines) ≡ lines ++ [] ∷ []
split-text_of [] h = refl
split-text_of (l ∷ lines) h =
    let parts = and_parts (is_free 10 l) _ h in
    ap (slice_split (λ b. b == 10)) (append_assoc l (10 ∷ []) (text_of lines))
    ∙ split_free 10 l (text_of lines) parts.0
    ∙ ap (λ (ls : List (List ℕ)). l ∷ ls) (split-text_of lines parts.1)

without_empty_end-push : (lines : List (List ℕ)) → without_empty_end (lines ++ [] ∷ []) ≡ lines
without_empty_end-push [] = refl
without_empty_end-push (l ∷ []) = refl
without_empty_end-push (l ∷ m ∷ lines) = ap (λ (ls : List (List ℕ)). l ∷ ls) (without_empty_end-push (m ∷ lines))

pub lines_of-text_of : (lines : List (List ℕ)) → list_all (is_free 10) lines ≡ true → lines_of (text_of lines) ≡ lines
lines_of-text_of lines h = ap without_empty_end (split-text_of lines h) ∙ without_empty_end-push lines

pub all_significant : (n : ℕ) (lines : List (List ℕ)) → list_all is_significant lines ≡ true
    → filter (λ (x : NumberedLine). is_significant x.1) (enumerate_from n lines) ≡ enumerate_from n lines
all_significant n [] h = refl
all_significant n (l ∷ lines) h =
    let parts = and_parts (is_significant l) _ h in
    cond-true (is_significant l) _ _ parts.0
    ∙ ap (λ (ls : List NumberedLine). (n, l) ∷ ls) (all_significant (n + 1) lines parts.1)

-- ---- what fields are made of
digit_is_no : (c b : ℕ) → c < 48 → is_ascii_digit b ≡ true → not (b == c) ≡ true
digit_is_no c b small h =
    not_from_false (b == c)
    (ne_eqb b c (λ same. let low : 48 ≤ b = leb-true 48 b (and_parts (leb 48 b) (leb b 57) h).0 in omega arith))

digits_free : (c : ℕ) (text : List ℕ) → c < 48 → all_ascii_digits text ≡ true → is_free c text ≡ true
digits_free c [] small h = refl
digits_free c (b ∷ text) small h = let parts = and_parts (is_ascii_digit b) _ h in
    and_from _ _ (digit_is_no c b small parts.0) (digits_free c text small parts.1)

pub decimal_free : (c n : ℕ) → c < 48 → n < 2 ^ 64 → is_free c (decimal n) ≡ true
decimal_free c n small fits = digits_free c (decimal n) small (digits_decimal numerals n fits)

pub cpu_free : (c cpu : ℕ) → c < 48 → cpu < 2 ^ 64 → is_free c (cpu_text cpu) ≡ true
cpu_free c cpu small fits =
    and_from _ _ (not_from_false (99 == c) (ne_eqb 99 c (λ same. omega arith))) (decimal_free c cpu small fits)

pub some_cpu : (cpu : ℕ) → ltb 0 (length (cpu_text cpu)) ≡ true
some_cpu cpu = lt-ltb 0 (length (cpu_text cpu)) (omega arith)

pub some_decimal : (n : ℕ) → n < 2 ^ 64 → ltb 0 (length (decimal n)) ≡ true
some_decimal n fits = lt-ltb 0 (length (decimal n)) (decimal_nonempty n fits)

-- ---- values read back
pub cpu_in-cpu_text : (cpus cpu : ℕ) → cpu < cpus → cpu < 2 ^ 64 → cpu_in cpus (cpu_text cpu) ≡ Ok cpu
unfolding cpu_in number_below
cpu_in-cpu_text cpus cpu below fits =
    cond-true (names_cpu (cpu_text cpu)) _ _ (and_from _ _ (some_decimal cpu fits) (digits_decimal numerals cpu fits))
    ∙ ap
    (λ (r : Result ℕ LineFault). r >>= λ n.
    cond (ltb n cpus) (let good : Result ℕ LineFault = Ok n in good) (Err out_of_range))
    (decimal_in-decimal cpu fits)
    ∙ cond-true (ltb cpu cpus) _ _ (lt-ltb cpu cpus below)

pub number_below-decimal : (limit n : ℕ) → n < limit → n < 2 ^ 64 → number_below limit (decimal n) ≡ Ok n
unfolding number_below
number_below-decimal limit n below fits =
    ap
    (λ (r : Result ℕ LineFault). r >>= λ n.
    cond (ltb n limit) (let good : Result ℕ LineFault = Ok n in good) (Err out_of_range))
    (decimal_in-decimal n fits)
    ∙ cond-true (ltb n limit) _ _ (lt-ltb n limit below)

-- ---- the header
value_in-setting_text : (s : Setting) (value : ℕ) → 0 < length s.word → is_free 32 s.word ≡ true → value < 2 ^ 64
    → allowed_for s value ≡ Ok value
    → value_in s (setting_text s value) ≡ Ok value
unfolding value_in value_of
value_in-setting_text s value some free fits allowed =
    let no_space = and_from _ _ free (and_from _ _ (decimal_free 32 value (omega arith) fits) refl) in
    let fields = fields_of-line_of (s.word ∷ decimal value ∷ []) (omega arith) no_space in
    let spaced = and_from _ _ (lt-ltb 0 (length s.word) some) (and_from _ _ (some_decimal value fits) refl) in
    ap (λ (fs : List (List ℕ)). cond (is_well_spaced fs) (value_of s fs) (Err bad_line)) fields
    ∙ cond-true (is_well_spaced (s.word ∷ decimal value ∷ [])) _ _ spaced
    ∙ cond-true (bytes_eq s.word s.word) _ _ ((bytes_eq-Decides s.word s.word).1 refl)
    ∙ ap (λ (r : Result ℕ LineFault). r >>= allowed_for s) (decimal_in-decimal value fits)
    ∙ allowed

pub setting_allowed : (s : Setting) (n : ℕ) → s.min ≤ n → n ≤ s.max → n % s.step ≡ 0 → allowed_for s n ≡ Ok n
setting_allowed s n low high step =
    cond-true _ _ _
    (and_from _ _ (and_from _ _ (le-leb s.min n low) (le-leb n s.max high)) (eq-eqb (n % s.step) 0 step))

-- what a line of the header is made of
pub record IsSetting (s : Setting) (value : ℕ) : Type 0 where
  pub read : value_in s (setting_text s value) ≡ Ok value
  pub no_feed : is_free 10 (setting_text s value) ≡ true

pub setting_spelled : (s : Setting) (value : ℕ) → 0 < length s.word → is_free 32 s.word ≡ true
    → is_free 10 s.word ≡ true → s.max < 2 ^ 64
    → s.min ≤ value → value ≤ s.max → value % s.step ≡ 0 → IsSetting s value
setting_spelled s value some free_space free_feed small low high step =
    let fits : value < 2 ^ 64 = omega arith in
    record {
      read = value_in-setting_text s value some free_space fits (setting_allowed s value low high step);
      no_feed =
          is_free-line_of (s.word ∷ decimal value ∷ [])
          (and_from _ _ free_feed (and_from _ _ (decimal_free 10 value (omega arith) fits) refl));
    }
