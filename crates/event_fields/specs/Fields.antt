-- The fields of a format.
use Rattle.std.specs.Prelude.{◌≡◌, ℕ, ◌+◌, ◌++◌, ◌∷◌, ◌||◌, ⊤, Bool, not, List, [], length, map, filter, codes}
use Rattle.std.specs.Prelude.{bytes_eq}
use Rattle.std.specs.Prelude.{Option, Some, None, Result, Ok, Err, nat_le, nat_eq, if◌then◌else◌}
use Rattle.std.specs.List.{list_any, starts_with, take_while}
use Rattle.std.specs.Option.{option_and_then}
use Rattle.std.specs.Global.{Vec}
use Rattle.event_fields.specs.declared.field.Field.{Field}
use Rattle.event_fields.specs.declared.fields.TheConstants.{MOST_FIELDS}
use Rattle.event_fields.specs.declared.fields.FormatError.{FormatError}
use Rattle.event_fields.specs.declared.fields.FormatError.TheVariants as errors
use Rattle.event_fields.specs.Lines.{EventField, field_seen, field_in, tab}
use Rattle.event_fields.specs.Texts.{parts_of}

-- a line, and its offset in the text
abbrev pub PlacedLine : Type 0
PlacedLine = ℕ × List ℕ

-- lines with their offsets, the first of which is this
abbrev pub with_offsets : ℕ → List (List ℕ) → List PlacedLine
with_offsets at [] = []
with_offsets at (line ∷ lines) = (at, line) ∷ with_offsets (at + length line + 1) lines

-- a line after which none speaks of fields
unfoldable pub ends_fields : List ℕ → Bool
ends_fields line = starts_with nat_eq line (codes "print fmt: ")

-- a line that is to describe a field
unfoldable pub begins_field : List ℕ → Bool
begins_field line = starts_with nat_eq line (tab ∷ codes "field")

-- those of these lines that are to describe fields
abbrev pub field_lines_among : List PlacedLine → List PlacedLine
field_lines_among lines =
    filter (λ line. begins_field line.1) (take_while (λ line. not (ends_fields line.1)) lines)

-- the lines of a text that are to describe fields, if the text is at this offset
unfoldable pub field_lines_at : ℕ → List ℕ → List PlacedLine
field_lines_at at text = field_lines_among (with_offsets at (parts_of 10 text))

-- whether one of the fields has this name
abbrev pub has_name : List ℕ → List EventField → Bool
has_name name fields = list_any (λ field. bytes_eq field.name name) fields

-- a field after others: not one too many, and of another name than these
abbrev pub further : List EventField → EventField → Option EventField
further fields field = if nat_le MOST_FIELDS (length fields) || has_name field.name fields then None else Some field

-- the field that a line describes after others
unfoldable pub further_in : List EventField → List ℕ → Option EventField
further_in fields line = option_and_then (further fields) (field_in line)

-- what is made of a field, or else the offset of its line
abbrev pub made_of : Option EventField → ℕ → (EventField → Result (List EventField) ℕ) → Result (List EventField) ℕ
made_of (Some field) at make = make field
made_of None at make = Err at

-- the fields that lines describe after others, or the offset of the first line that describes none
abbrev pub fields_after : List EventField → List PlacedLine → Result (List EventField) ℕ
fields_after fields [] = Ok fields
fields_after fields (line ∷ lines) =
    made_of (further_in fields line.1) line.0 (λ field. fields_after (fields ++ field ∷ []) lines)

-- The fields of a format, in their order; or the offset of its first malformed line.
unfoldable pub fields_of : List ℕ → Result (List EventField) ℕ
fields_of text = fields_after [] (field_lines_at 0 text)

-- What a reader of a format answers is this. Of a refusal of memory nothing is said.
abbrev pub IsReading : Result (Vec Field) FormatError → Result (List EventField) ℕ → Type 0
IsReading (Ok fields) reading = reading ≡ Ok (map field_seen fields.items)
IsReading (Err errors.NoMemory) reading = ⊤
IsReading (Err (errors.Malformed at)) reading = reading ≡ Err at

-- those of one line, which is at this offset
abbrev pub field_lines_of : ℕ → List ℕ → List PlacedLine
field_lines_of at line = if begins_field line then (at, line) ∷ [] else []

-- What putting the field that a line describes, if it is to describe one, after others answers: whatever lines come
-- after it, the reading of all is what is read of these after the fields that are there now, or the fault.
abbrev pub ReadsOn : Result (Unit {0}) FormatError → (before : List EventField) → ℕ → List ℕ → (now : List EventField)
    → Type 0
ReadsOn (Ok done) before at line now = (lines : List PlacedLine)
    → fields_after before (field_lines_of at line ++ lines) ≡ fields_after now lines
ReadsOn (Err errors.NoMemory) before at line now = ⊤
ReadsOn (Err (errors.Malformed place)) before at line now = (lines : List PlacedLine)
    → fields_after before (field_lines_of at line ++ lines) ≡ Err place
