-- The calls of a print format by which the kernel prints a field's number as names: `__print_flags(REC->FIELD,
-- "DELIMITER", TABLE)` and `__print_symbolic(REC->FIELD, TABLE)`. After the macros of these names of the kernel's
-- include/trace/stages/stage3_trace_output.h.
use Rattle.std.specs.Prelude.{ℕ, ◌+◌, ◌==◌, Bool, false, List, [], ◌∷◌, ◌++◌, take, drop, position, codes}
use Rattle.std.specs.Prelude.{Option, Some, None, if◌then◌else◌}
use Rattle.std.specs.Option.{option_and_then, option_map, option_or, option_to_list}
use Rattle.std.specs.List.{list_all, list_any}
use Rattle.event_fields.specs.Texts.{after, cut_at}
use Rattle.kernel_names.specs.declared.calls.TableKind.{TableKind}
use Rattle.kernel_names.specs.declared.calls.TableKind.TheVariants.{Flags, Symbols}
use Rattle.kernel_names.specs.declared.calls.Call as lent
use Rattle.kernel_names.specs.Constants.{cast_in}
use Rattle.kernel_names.specs.Pieces.{is_closing, unopened, unseparated}

-- a call: how the names stand for the number, what is between two of them, and the text from the table on
pub record Call : Type 0 where
  pub kind : TableKind
  pub delimiter : List ℕ
  pub entries : List ℕ

-- a call without its place in memory
abbrev pub call_seen : lent.Call → Call
call_seen call = record { kind = call.kind; delimiter = call.delimiter.now; entries = call.entries.now }

-- what is before the first of this byte, and what is after it, if it is one of the first 256 bytes
abbrev pub cut_near : (byte : ℕ) → List ℕ → Option (List ℕ × List ℕ)
cut_near byte text = option_map (λ at. (take at text, drop (at + 1) text)) (position (λ b. b == byte) (take 256 text))

-- ---- the field

-- what is after `REC->`, which may be in brackets
unfoldable pub bare_name : List ℕ → Option (List ℕ)
bare_name text = after (codes "REC->") (unopened text)

-- what is after a cast to a type of eight bytes, which can't change a number, and `REC->`
unfoldable pub cast_name : List ℕ → Option (List ℕ)
cast_name text =
    option_and_then (λ parts. option_and_then (λ is_narrow. if is_narrow then None else bare_name parts.1)
    (cast_in parts.0)) (cut_at 41 (unopened text))

-- what is after `REC->`, which may be in brackets and behind such a cast
unfoldable pub named_in : List ℕ → Option (List ℕ)
named_in text = option_or (bare_name text) (cast_name text)

-- whether a text, if there is one, consists of closing brackets and blanks
abbrev pub is_closing_text : Option (List ℕ) → Bool
is_closing_text None = false
is_closing_text (Some text) = list_all is_closing text

-- whether a text is this name, with brackets closed behind it
abbrev pub is_closed_name : (name text : List ℕ) → Bool
is_closed_name name text = is_closing_text (after name text)

abbrev pub is_name_there : (name : List ℕ) → Option (List ℕ) → Bool
is_name_there name None = false
is_name_there name (Some text) = is_closed_name name text

-- whether an argument is the field of this name, as it is
abbrev pub is_field : (name argument : List ℕ) → Bool
is_field name argument = is_name_there name (named_in argument)

-- ---- the call

-- the call of this delimiter, which has no escape
abbrev pub delimited : (delimiter entries : List ℕ) → Option Call
delimited delimiter entries =
    if list_any (λ b. b == 92) delimiter then None
    else Some (record { kind = Flags; delimiter = delimiter; entries = entries })

-- a call of `__print_flags` of the field of this name, by its arguments
unfoldable pub flags_in : (name arguments : List ℕ) → Option Call
flags_in name arguments =
    option_and_then (λ parts. if is_field name parts.0
    then option_and_then (λ quoted. option_and_then (λ named. delimited named.0 named.1) (cut_near 34 quoted))
    (after (codes "\"") (unseparated parts.1)) else None) (cut_near 44 arguments)

-- a call of `__print_symbolic` of the field of this name, by its arguments
unfoldable pub symbols_in : (name arguments : List ℕ) → Option Call
symbols_in name arguments =
    option_and_then (λ parts. if is_field name parts.0
    then Some (record { kind = Symbols; delimiter = []; entries = parts.1 }) else None) (cut_near 44 arguments)

-- a call whose text is this, and after `__print_flags(` this
abbrev pub call_of : (name text : List ℕ) → Option (List ℕ) → Option Call
call_of name text (Some arguments) = flags_in name arguments
call_of name text None = option_and_then (symbols_in name) (after (codes "__print_symbolic(") text)

-- the call of the field of this name that a text begins with
unfoldable pub call_at : (name text : List ℕ) → Option Call
call_at name text = call_of name text (after (codes "__print_flags(") text)

-- the calls of the field of this name, wherever they begin in a text
abbrev pub calls_of : (name : List ℕ) → List ℕ → List Call
calls_of name [] = []
calls_of name (b ∷ text) = option_to_list (call_at name (b ∷ text)) ++ calls_of name text

-- the only one of calls
abbrev pub sole : List Call → Option Call
sole [] = None
sole (call ∷ []) = Some call
sole (call ∷ (other ∷ calls)) = None

-- what is behind `print fmt: ` in the first line that begins with it
abbrev pub print_in : List (List ℕ) → Option (List ℕ)
print_in [] = None
print_in (line ∷ lines) = option_or (after (codes "print fmt: ") line) (print_in lines)
