-- A start line is distinguished from a command by its word.
use Rattle.std.proofs.Common.{◌≡◌, ℕ, Bool, true, false, ◌&&◌, cond, List, [], ◌∷◌, ◌++◌, length, codes, Ok, Err, refl}
use Rattle.std.proofs.Common.{sym, ◌∙◌, ap, arith}
use Rattle.std.specs.Str.{bytes_eq}
use Rattle.std.proofs.lemmas.Bool.{false_from_ne_true, both_ways}
use Rattle.text_model.specs.Text.{fields_of, is_well_spaced}
use Rattle.text_model.specs.ScriptLines.{bad_line, decimal_in, ◌>>=◌, cpu_in, allowed_for, value_of, value_in}
use Rattle.text_model.specs.ScriptLines.{NumberedLine}
use Rattle.text_model.specs.Script.{Command, command_of, command_in, start_setting, are_of_start, is_start_line}
use Rattle.text_model.specs.Script.{BeginsNoStart, SpellCommands}
use Rattle.text_model.proofs.Readings.{ok_is_no_err}
use Rattle.text_model.proofs.FieldWords.{same_word}

-- ---- a line that gives the first fill is a start line
given_by_word : (pages start : ℕ) (word number : List ℕ) (same : Bool) → bytes_eq word (codes "start") ≡ same
    → cond same (decimal_in number >>= allowed_for (start_setting pages)) (Err bad_line) ≡ Ok start
    → bytes_eq word (codes "start") ≡ true
given_by_word pages start word number true is h = is
given_by_word pages start word number false is h = absurd (ok_is_no_err start bad_line (sym h))

given_by_fields : (pages start : ℕ) (fields : List (List ℕ)) (spaced : Bool)
    → cond spaced (value_of (start_setting pages) fields) (Err bad_line) ≡ Ok start
    → (spaced && are_of_start fields) ≡ true
unfolding value_of
given_by_fields pages start (word ∷ number ∷ []) true h =
    given_by_word pages start word number (bytes_eq word (codes "start")) refl h
given_by_fields pages start [] true h = absurd (ok_is_no_err start bad_line (sym h))
given_by_fields pages start (word ∷ []) true h = absurd (ok_is_no_err start bad_line (sym h))
given_by_fields pages start (word ∷ number ∷ more ∷ fields) true h = absurd (ok_is_no_err start bad_line (sym h))
given_by_fields pages start fields false h = absurd (ok_is_no_err start bad_line (sym h))

pub given_is_start : (pages start : ℕ) (line : List ℕ) → value_in (start_setting pages) line ≡ Ok start
    → is_start_line line ≡ true
unfolding value_in is_start_line
given_is_start pages start line h = given_by_fields pages start (fields_of line) (is_well_spaced (fields_of line)) h

-- ---- a start line is no command
-- where all four tests choose the same
four_same : {A : Type 0} (a b c d : Bool) (r : A) → cond a r (cond b r (cond c r (cond d r r))) ≡ r
four_same true b c d r = refl
four_same false true c d r = refl
four_same false false true d r = refl
four_same false false false true r = refl
four_same false false false false r = refl

start_is_no_command : (cpus collectors : ℕ) (number : List ℕ)
    → command_of cpus collectors (codes "start" ∷ number ∷ []) ≡ Err bad_line
unfolding command_of cpu_in
start_is_no_command cpus collectors number =
    four_same (bytes_eq number (codes "f")) (bytes_eq number (codes "c")) (bytes_eq number (codes "t"))
    (bytes_eq number (codes "a")) (Err bad_line)

no_command_by_fields : (cpus collectors : ℕ) (fields : List (List ℕ)) (spaced : Bool)
    → (spaced && are_of_start fields) ≡ true
    → cond spaced (command_of cpus collectors fields) (Err bad_line) ≡ Err bad_line
no_command_by_fields cpus collectors (word ∷ number ∷ []) true h =
    ap (λ (w : List ℕ). command_of cpus collectors (w ∷ number ∷ [])) (same_word word (codes "start") h)
    ∙ start_is_no_command cpus collectors number
no_command_by_fields cpus collectors [] true h = absurd (both_ways false refl h)
no_command_by_fields cpus collectors (word ∷ []) true h = absurd (both_ways false refl h)
no_command_by_fields cpus collectors (word ∷ number ∷ more ∷ fields) true h = absurd (both_ways false refl h)
no_command_by_fields cpus collectors fields false h = refl

pub start_line_is_no_command : (cpus collectors : ℕ) (line : List ℕ) → is_start_line line ≡ true
    → command_in cpus collectors line ≡ Err bad_line
unfolding command_in is_start_line
start_line_is_no_command cpus collectors line h =
    no_command_by_fields cpus collectors (fields_of line) (is_well_spaced (fields_of line)) h

pub command_is_no_start : (cpus collectors : ℕ) (line : List ℕ) (command : Command)
    → command_in cpus collectors line ≡ Ok command → is_start_line line ≡ false
command_is_no_start cpus collectors line command h =
    false_from_ne_true (is_start_line line)
    (λ yes. ok_is_no_err command bad_line (sym h ∙ start_line_is_no_command cpus collectors line yes))

-- ---- lines that don't begin with one
pub commands_begin_no_start : (cpus collectors : ℕ) (lines : List NumberedLine) (commands : List (ℕ × Command))
    → SpellCommands cpus collectors lines commands → BeginsNoStart lines
commands_begin_no_start cpus collectors [] commands h = tt
commands_begin_no_start cpus collectors (line ∷ lines) (command ∷ commands) h =
    command_is_no_start cpus collectors line.1 command.1 h.0
commands_begin_no_start cpus collectors (line ∷ lines) [] h = absurd h

-- no start line is first, with more lines after these
pub begins_no_start_before : (front : List NumberedLine) (line : NumberedLine) (behind : List NumberedLine)
    → BeginsNoStart front → (length front ≡ 0 → is_start_line line.1 ≡ false) → BeginsNoStart (front ++ line ∷ behind)
begins_no_start_before [] line behind h first = first refl
begins_no_start_before (other ∷ front) line behind h first = h

pub first_is_no_start : (front : List NumberedLine) (line : NumberedLine) (behind : List NumberedLine)
    → BeginsNoStart (front ++ line ∷ behind) → length front ≡ 0 → is_start_line line.1 ≡ false
first_is_no_start [] line behind h none = h
first_is_no_start (other ∷ front) line behind h none = absurd (omega (arith, none))
