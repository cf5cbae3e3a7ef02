-- Without a start line a text is read as with `start 0` in its place.
use Rattle.std.proofs.Common.{◌≡◌, ◌↔◌, ℕ, List, [], ◌∷◌, ◌++◌, length, arith, codes, get_or, Result, Ok, Err, refl}
use Rattle.std.proofs.Common.{sym, ◌∙◌, ap}
use Rattle.text_model.specs.Text.{is_decimal}
use Rattle.text_model.specs.ScriptLines.{LineFault, ◌>>=◌, decimal_in, NumberedLine, Setting, value_of, value_in}
use Rattle.text_model.specs.HeaderReading.{numbered_reading, setting_from, settings_from, significant_lines_after}
use Rattle.text_model.specs.HeaderReading.{end_line_after}
use Rattle.text_model.specs.Script.{Script, header_settings, start_setting, BeginsNoStart, ParsesScript}
use Rattle.text_model.specs.Script.{FirstScriptFault, AddsStartZero}
use Rattle.text_model.specs.ScriptReading.{start_from, script_from, script_in}
use Rattle.text_model.proofs.LineWrites.{setting_allowed}
use Rattle.text_model.proofs.StartLines.{given_is_start}
use Rattle.text_model.proofs.ScriptLemmas.{Read, Settings, Start, then_commands, then_start, script_from_settings}
use Rattle.text_model.proofs.ScriptLemmas.{start_line_read, no_start_read}
use Rattle.text_model.proofs.ScriptReads.{by_lines, script_in_by_lines, script_reads, fault_reads}

-- ---- the header
-- these lines after what is read
abbrev in_front_of : List NumberedLine → Settings → Read Settings
in_front_of rest x = Ok (x.0, rest)

-- one setting, of the line whose reading is r, and then what is read of the others
abbrev value_then : NumberedLine → Result ℕ LineFault → Read Settings → Read Settings
value_then line r others =
    numbered_reading line.0 r >>= λ value. others >>= λ x. let found : Read Settings = Ok (value ∷ x.0, x.1) in found

value_then_from : (end : ℕ) (s : Setting) (settings : List Setting) (line : NumberedLine) (lines : List NumberedLine)
    (r : Result ℕ LineFault)
    → value_in s line.1 ≡ r → settings_from end (s ∷ settings) (line ∷ lines) ≡ value_then line r
    (settings_from end settings lines)
unfolding settings_from setting_from
value_then_from end s settings line lines (Ok value) is =
    ap (λ (r : Result ℕ LineFault).
    (numbered_reading line.0 r >>= λ value. let found : Read Start = Ok (value, lines) in found) >>= λ first.
    settings_from end settings first.1 >>= λ x. let found : Read Settings = Ok (first.0 ∷ x.0, x.1) in found) is
value_then_from end s settings line lines (Err fault) is =
    ap (λ (r : Result ℕ LineFault).
    (numbered_reading line.0 r >>= λ value. let found : Read Start = Ok (value, lines) in found) >>= λ first.
    settings_from end settings first.1 >>= λ x. let found : Read Settings = Ok (first.0 ∷ x.0, x.1) in found) is

value_then_in_front_of : (line : NumberedLine) (r : Result ℕ LineFault) (others : Read Settings)
    (rest : List NumberedLine)
    → value_then line r (others >>= in_front_of rest) ≡ (value_then line r others >>= in_front_of rest)
value_then_in_front_of line (Ok value) (Ok x) rest = refl
value_then_in_front_of line (Ok value) (Err e) rest = refl
value_then_in_front_of line (Err fault) others rest = refl

-- what is read is decided by as many lines as there are settings, and the number of the last line isn't looked at
settings_of_front : (end : ℕ) (settings : List Setting) (header rest : List NumberedLine)
    → length header ≡ length settings
    → settings_from end settings (header ++ rest) ≡ (settings_from 0 settings header >>= in_front_of rest)
unfolding settings_from
settings_of_front end [] [] rest whole = refl
settings_of_front end (s ∷ settings) (line ∷ header) rest whole =
    value_then_from end s settings line (header ++ rest) (value_in s line.1) refl
    ∙ ap (value_then line (value_in s line.1)) (settings_of_front end settings header rest (omega (arith, whole)))
    ∙ value_then_in_front_of line (value_in s line.1) (settings_from 0 settings header) rest
    ∙ ap (λ (r : Read Settings). r >>= in_front_of rest)
    (sym (value_then_from 0 s settings line header (value_in s line.1) refl))
settings_of_front end [] (line ∷ header) rest whole = absurd (omega (arith, whole))
settings_of_front end (s ∷ settings) [] rest whole = absurd (omega (arith, whole))

-- ---- the start line
zero_given : (pages : ℕ) → value_in (start_setting pages) (codes "start 0") ≡ Ok 0
unfolding value_in value_of decimal_in is_decimal
zero_given pages = setting_allowed (start_setting pages) 0 (omega arith) (omega arith) (omega arith)

zero_is_meant : (pages number : ℕ) (behind : List NumberedLine) → BeginsNoStart behind
    → start_from pages behind ≡ start_from pages ((number, codes "start 0") ∷ behind)
zero_is_meant pages number behind none =
    no_start_read pages behind none
    ∙ sym (start_line_read pages (number, codes "start 0") behind (Ok 0)
    (given_is_start pages 0 (codes "start 0") (zero_given pages)) (zero_given pages))

-- ---- the script
then_same : (header : Read Settings) (number : ℕ) (behind : List NumberedLine) → BeginsNoStart behind
    → ((header >>= in_front_of behind) >>= then_start) ≡
    ((header >>= in_front_of ((number, codes "start 0") ∷ behind)) >>= then_start)
then_same (Ok x) number behind none =
    ap (λ (r : Read Start). r >>= then_commands x) (zero_is_meant (get_or x.0 0 0) number behind none)
then_same (Err e) number behind none = refl

script_of_front : (end : ℕ) (header rest : List NumberedLine) → length header ≡ length header_settings
    → script_from end (header ++ rest) ≡ ((settings_from 0 header_settings header >>= in_front_of rest) >>= then_start)
script_of_front end header rest whole =
    script_from_settings end (header ++ rest)
    ∙ ap (λ (r : Read Settings). r >>= then_start) (settings_of_front end header_settings header rest whole)

same_by_lines : (text other : List ℕ) → AddsStartZero text other → by_lines text ≡ by_lines other
unfolding significant_lines_after
same_by_lines text other h =
    ap (script_from (end_line_after 0 text)) h.without
    ∙ script_of_front (end_line_after 0 text) h.header h.behind h.whole_header
    ∙ then_same (settings_from 0 header_settings h.header) h.number h.behind h.no_start
    ∙ sym (script_of_front (end_line_after 0 other) h.header ((h.number, codes "start 0") ∷ h.behind) h.whole_header)
    ∙ sym (ap (script_from (end_line_after 0 other)) h.with_zero)

same_script_in : (text other : List ℕ) → AddsStartZero text other → script_in text ≡ script_in other
same_script_in text other h =
    script_in_by_lines text ∙ same_by_lines text other h ∙ sym (script_in_by_lines other)

pub same_script : (text other : List ℕ) (script : Script) → AddsStartZero text other
    → (ParsesScript text script ↔ ParsesScript other script)
same_script text other script h = (
  λ one. (script_reads other script).1 (sym (same_script_in text other h) ∙ (script_reads text script).0 one),
  λ one. (script_reads text script).1 (same_script_in text other h ∙ (script_reads other script).0 one),
)

pub same_fault : (text other : List ℕ) (number : ℕ) (fault : LineFault) → AddsStartZero text other
    → (FirstScriptFault text number fault ↔ FirstScriptFault other number fault)
same_fault text other number fault h = (
  λ one. (fault_reads other number fault).1 (sym (same_script_in text other h) ∙ (fault_reads text number fault).0 one),
  λ one. (fault_reads text number fault).1 (same_script_in text other h ∙ (fault_reads other number fault).0 one),
)
