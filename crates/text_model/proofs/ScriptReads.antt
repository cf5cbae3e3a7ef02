-- The plain reader answers the script of a text, or its first fault.
use Rattle.std.proofs.Common.{◌≡◌, ◌↔◌, ℕ, ◌+◌, List, [], ◌∷◌, length, drop, Result, Ok, Err, refl, sym, ◌∙◌, ap, arith}
use Rattle.std.proofs.Common.{zero-add}
use Rattle.std.specs.Prelude.{slice_index_or}
use Rattle.text_model.specs.Text.{lines_of}
use Rattle.text_model.specs.ScriptLines.{LineFault, bad_line, ◌>>=◌, NumberedLine, Setting, value_in, significant_lines}
use Rattle.text_model.specs.ScriptLines.{pages_setting, size_setting}
use Rattle.text_model.specs.HeaderReading.{numbered_reading, setting_from, settings_from, significant_lines_after}
use Rattle.text_model.specs.HeaderReading.{end_line_after}
use Rattle.text_model.specs.Script.{Script, ParsesScript, FirstScriptFault, cpus_setting, collectors_setting}
use Rattle.text_model.specs.Script.{header_settings}
use Rattle.text_model.specs.ScriptReading.{commands_from, start_from, script_from, script_in}
use Rattle.text_model.proofs.ScriptLemmas.{Read, Settings, then_start, script_from_settings, script_ok, script_given}
use Rattle.text_model.proofs.ScriptLemmas.{script_err, script_fault_given}

-- ---- the header, by the index of each line, and by parts
-- the value that a line gives to a setting, by the line's index
abbrev value_at : (end : ℕ) (lines : List NumberedLine) (k : ℕ) (s : Setting) → Read ℕ
value_at end lines k s =
    let line : NumberedLine = slice_index_or lines k (end, []) in numbered_reading line.0 (value_in s line.1)

abbrev header_at : (end : ℕ) (lines : List NumberedLine) → Read Settings
header_at end lines =
    value_at end lines 0 pages_setting >>= λ pages. value_at end lines 1 size_setting >>= λ size.
    value_at end lines 2 cpus_setting >>= λ cpus. value_at end lines 3 collectors_setting >>= λ collectors.
    Ok (pages ∷ size ∷ cpus ∷ collectors ∷ [], drop 4 lines)

no_value : (s : Setting) → value_in s [] ≡ Err bad_line
unfolding value_in
no_value s = refl

-- of as many lines as there are, by what each is read as
of_none : (end : ℕ) → header_at end [] ≡ settings_from end header_settings []
unfolding settings_from setting_from
of_none end = rw (no_value pages_setting) refl

of_one : (end : ℕ) (a : NumberedLine) (r : Result ℕ LineFault) → value_in pages_setting a.1 ≡ r
    → header_at end (a ∷ []) ≡ settings_from end header_settings (a ∷ [])
unfolding settings_from setting_from
of_one end a (Err f) h = rw h refl
of_one end a (Ok v) h = rw (h, no_value size_setting) refl

of_two : (end : ℕ) (a b : NumberedLine) (r s : Result ℕ LineFault) → value_in pages_setting a.1 ≡ r
    → value_in size_setting b.1 ≡ s
    → header_at end (a ∷ b ∷ []) ≡ settings_from end header_settings (a ∷ b ∷ [])
unfolding settings_from setting_from
of_two end a b (Err f) s h i = rw h refl
of_two end a b (Ok v) (Err f) h i = rw (h, i) refl
of_two end a b (Ok v) (Ok w) h i = rw (h, i, no_value cpus_setting) refl

of_three : (end : ℕ) (a b c : NumberedLine) (r s t : Result ℕ LineFault) → value_in pages_setting a.1 ≡ r
    → value_in size_setting b.1 ≡ s → value_in cpus_setting c.1 ≡ t
    → header_at end (a ∷ b ∷ c ∷ []) ≡ settings_from end header_settings (a ∷ b ∷ c ∷ [])
unfolding settings_from setting_from
of_three end a b c (Err f) s t h i j = rw h refl
of_three end a b c (Ok v) (Err f) t h i j = rw (h, i) refl
of_three end a b c (Ok v) (Ok w) (Err f) h i j = rw (h, i, j) refl
of_three end a b c (Ok v) (Ok w) (Ok x) h i j = rw (h, i, j, no_value collectors_setting) refl

of_four : (end : ℕ) (a b c d : NumberedLine) (lines : List NumberedLine) (r s t u : Result ℕ LineFault)
    → value_in pages_setting a.1 ≡ r → value_in size_setting b.1 ≡ s → value_in cpus_setting c.1 ≡ t
    → value_in collectors_setting d.1 ≡ u
    → header_at end (a ∷ b ∷ c ∷ d ∷ lines) ≡ settings_from end header_settings (a ∷ b ∷ c ∷ d ∷ lines)
unfolding settings_from setting_from
of_four end a b c d lines (Err f) s t u h i j k = rw h refl
of_four end a b c d lines (Ok v) (Err f) t u h i j k = rw (h, i) refl
of_four end a b c d lines (Ok v) (Ok w) (Err f) u h i j k = rw (h, i, j) refl
of_four end a b c d lines (Ok v) (Ok w) (Ok x) (Err f) h i j k = rw (h, i, j, k) refl
of_four end a b c d lines (Ok v) (Ok w) (Ok x) (Ok y) h i j k = rw (h, i, j, k) refl

same_header : (end : ℕ) (lines : List NumberedLine) → header_at end lines ≡ settings_from end header_settings lines
same_header end [] = of_none end
same_header end (a ∷ []) = of_one end a _ refl
same_header end (a ∷ b ∷ []) = of_two end a b _ _ refl refl
same_header end (a ∷ b ∷ c ∷ []) = of_three end a b c _ _ _ refl refl refl
same_header end (a ∷ b ∷ c ∷ d ∷ lines) = of_four end a b c d lines _ _ _ _ refl refl refl refl

-- ---- the whole
-- one value after the other, and then what follows them
one_by_one : (r s t u : Read ℕ) (lines : List NumberedLine)
    → (r >>= λ pages. s >>= λ size. t >>= λ cpus. u >>= λ collectors. start_from pages lines >>= λ start.
    commands_from cpus collectors start.1 >>= λ commands. Ok record {
      pages = pages;
      size = size;
      cpus = cpus;
      collectors = collectors;
      start = start.0;
      commands = commands;
    })
    ≡ ((r >>= λ pages. s >>= λ size. t >>= λ cpus. u >>= λ collectors.
    let found : Read Settings = Ok (pages ∷ size ∷ cpus ∷ collectors ∷ [], lines) in found) >>= then_start)
one_by_one (Err e) s t u lines = refl
one_by_one (Ok v) (Err e) t u lines = refl
one_by_one (Ok v) (Ok w) (Err e) u lines = refl
one_by_one (Ok v) (Ok w) (Ok x) (Err e) lines = refl
one_by_one (Ok v) (Ok w) (Ok x) (Ok y) lines = refl

-- the script in a text, read line by line
abbrev pub by_lines : List ℕ → Read Script
by_lines text = script_from (end_line_after 0 text) (significant_lines_after 0 text)

lines_read : (text : List ℕ) (end : ℕ) → length (lines_of text) + 1 ≡ end
    → script_in text ≡ script_from end (significant_lines text)
unfolding script_in
lines_read text end is =
    let lines = significant_lines text in
    let at : ℕ → ℕ → Setting → Read ℕ = λ end k s. value_at end lines k s in
    let here : ℕ = length (lines_of text) + 1 in
    one_by_one (at here 0 pages_setting) (at here 1 size_setting) (at here 2 cpus_setting)
    (at here 3 collectors_setting) (drop 4 lines)
    ∙ ap (λ (r : Read Settings). r >>= then_start) (same_header here lines)
    ∙ ap (λ (end : ℕ). settings_from end header_settings lines >>= then_start) is
    ∙ sym (script_from_settings end lines)

pub script_in_by_lines : (text : List ℕ) → script_in text ≡ by_lines text
unfolding significant_lines_after end_line_after
script_in_by_lines text = lines_read text (end_line_after 0 text) (omega arith)

pub script_reads : (text : List ℕ) (script : Script) → (ParsesScript text script ↔ (script_in text ≡ Ok script))
unfolding significant_lines_after
script_reads text script = (
  λ h. script_in_by_lines text ∙ script_given (end_line_after 0 text) (significant_lines text) script h,
  λ h. script_ok (end_line_after 0 text) (significant_lines text) script (sym (script_in_by_lines text) ∙ h),
)

-- the line after the last one has one number more than the last
pub fault_reads : (text : List ℕ) (number : ℕ) (fault : LineFault)
    → (FirstScriptFault text number fault ↔ (script_in text ≡ Err (number, fault)))
unfolding significant_lines_after end_line_after
fault_reads text number fault = (
  λ h. script_in_by_lines text
      ∙ script_fault_given (end_line_after 0 text) (significant_lines text) (number, fault)
      (rw (← zero-add (length (lines_of text))) at h),
  λ h. rw zero-add at (script_err (end_line_after 0 text) (significant_lines text) (number, fault)
      (sym (script_in_by_lines text) ∙ h)),
)
