-- How the fields of a record are printed.
use Rattle.std.specs.Prelude.{ℕ, ℤ, Bool, true, false, List, [], ◌∷◌, ◌++◌, map, flat_map, codes, Option, Some, None}
use Rattle.std.specs.Prelude.{is_none, unsigned_abs, if◌then◌else◌}
use Rattle.std.specs.Fmt.{signed_decimal}
use Rattle.std.specs.List.{list_any}
use Rattle.text_model.specs.Text.{hex_text, space}
use Rattle.text_values.specs.Digits.{hexadecimal, pairs_of}
use Rattle.event_fields.specs.declared.field.NumberKind.{NumberKind}
use Rattle.event_fields.specs.declared.field.NumberKind.TheVariants.{Signed, Unsigned, Word, Address}
use Rattle.event_fields.specs.Lines.{EventField}
use Rattle.event_fields.specs.Shown.{is_shown, numbers_of_kind}
use Rattle.event_fields.specs.Values.{FieldValue, number, numbers, text, bytes, value_of}
use Rattle.capture_text.specs.declared.form.Form.{Form}
use Rattle.capture_text.specs.declared.form.Form.TheVariants.{Text, Json}
use Rattle.capture_text.specs.Quoting.{marked, quoted}
use Rattle.capture_text.specs.Beside.{NameSource, value_names, names_part, names_member}

-- texts with a comma between two
abbrev pub joined : List (List ℕ) → List ℕ
joined [] = []
joined (first ∷ others) = first ++ flat_map (λ other. 44 ∷ other) others

-- whether there is no text
abbrev pub is_no_text : List (List ℕ) → Bool
is_no_text [] = true
is_no_text (one ∷ others) = false

-- a comma, unless what comes is the first
abbrev pub comma : (is_first : Bool) → List ℕ
comma true = []
comma false = codes ","

-- texts with a comma between two, and a comma before them unless they are the first
abbrev pub continued : (is_first : Bool) → List (List ℕ) → List ℕ
continued is_first [] = []
continued is_first (one ∷ others) = comma is_first ++ joined (one ∷ others)

-- texts with a comma between two, in brackets
abbrev pub bracketed : List (List ℕ) → List ℕ
bracketed texts = codes "[" ++ joined texts ++ codes "]"

-- a field that is shown and has no value in the payload
abbrev pub is_uncut : (payload : List ℕ) → EventField → Bool
is_uncut payload field = if is_shown field then is_none (value_of field.layout payload) else false

-- one of the fields is such
abbrev pub has_uncut : (payload : List ℕ) → List EventField → Bool
has_uncut payload fields = list_any (is_uncut payload) fields

-- a number of a kind
abbrev pub number_text : Form → NumberKind → ℤ → List ℕ
number_text form Signed n = signed_decimal n
number_text form Unsigned n = signed_decimal n
number_text Text Word n = hexadecimal (unsigned_abs n)
number_text Text Address n = hexadecimal (unsigned_abs n)
number_text Json Word n = signed_decimal n
number_text Json Address n = marked (hexadecimal (unsigned_abs n))

-- a value, whose numbers are of this kind
abbrev pub value_text : Form → NumberKind → FieldValue → List ℕ
value_text form kind (number n) = number_text form kind n
value_text form kind (numbers ns) = bracketed (map (number_text form kind) ns)
value_text form kind (text given) = quoted given
value_text Text kind (bytes given) = hex_text given
value_text Json kind (bytes given) = marked (pairs_of given)

-- ---- in a line of text

-- a field's value, or `!` if it has none in the payload
abbrev pub value_or_mark : NumberKind → Option FieldValue → List ℕ
value_or_mark kind (Some value) = value_text Text kind value
value_or_mark kind None = codes "!"

-- a space, the name of a field, `=`, its value, and the names that this has
abbrev pub shown_text : (source : NameSource) → (payload : List ℕ) → EventField → List ℕ
shown_text source payload field =
    space ∷ field.name ++ 61 ∷ value_or_mark (numbers_of_kind field.layout.kind) (value_of field.layout payload)
    ++ names_part (value_names source (value_of field.layout payload))

-- the same, if the field is shown. The names of its numbers are from a source.
abbrev pub field_text : (source_of : EventField → NameSource) → (payload : List ℕ) → EventField → List ℕ
field_text source_of payload field = if is_shown field then shown_text (source_of field) payload field else []

-- The fields of a payload that are shown, in their order.
abbrev pub fields_text : (source_of : EventField → NameSource) → (payload : List ℕ) → List EventField → List ℕ
fields_text source_of payload fields = flat_map (field_text source_of payload) fields

-- ---- in a JSON line

-- the member of a field that has a value, or none
abbrev pub member_or_none : (name : List ℕ) → NumberKind → Option FieldValue → List (List ℕ)
member_or_none name kind (Some value) = (marked name ++ codes ":" ++ value_text Json kind value) ∷ []
member_or_none name kind None = []

-- the member of a field that is shown and has a value, or none
abbrev pub json_member : (payload : List ℕ) → EventField → List (List ℕ)
json_member payload field =
    if is_shown field then member_or_none field.name (numbers_of_kind field.layout.kind) (value_of field.layout payload)
    else []

-- the name of a field that is shown and has no value, or none
abbrev pub json_uncut : (payload : List ℕ) → EventField → List (List ℕ)
json_uncut payload field = if is_uncut payload field then marked field.name ∷ [] else []

-- the names of the fields that have no value, if there are any
abbrev pub uncut_part : List (List ℕ) → List ℕ
uncut_part [] = []
uncut_part (name ∷ names) = codes ",\"uncut\":" ++ bracketed (name ∷ names)

-- the member of the names of a field that is shown, and whose value has some, or none
abbrev pub shown_names : NameSource → (payload : List ℕ) → EventField → List (List ℕ)
shown_names source payload field =
    if is_shown field then names_member field.name (value_names source (value_of field.layout payload)) else []

abbrev pub json_names : (source_of : EventField → NameSource) → (payload : List ℕ) → EventField → List (List ℕ)
json_names source_of payload field = shown_names (source_of field) payload field

-- what is before a member of names: the beginning of all, or a comma
abbrev pub names_start : (is_first : Bool) → List ℕ
names_start true = codes ",\"names\":{"
names_start false = codes ","

-- the members of the names of a field, after what is before them
abbrev pub names_continued : (is_first : Bool) → List (List ℕ) → List ℕ
names_continued is_first [] = []
names_continued is_first (one ∷ others) = names_start is_first ++ joined (one ∷ others)

-- the names of fields, if there are any, but for the brace behind them
abbrev pub open_names : List (List ℕ) → List ℕ
open_names members = names_continued true members

abbrev pub closing_brace : (is_none : Bool) → List ℕ
closing_brace true = []
closing_brace false = codes "}"

-- the names of fields, if there are any
abbrev pub json_names_part : List (List ℕ) → List ℕ
json_names_part members = open_names members ++ closing_brace (is_no_text members)

-- The fields of a payload that are shown and have values, in their order, the names of these, and the names of the
-- fields that have none.
abbrev pub json_fields : (source_of : EventField → NameSource) → (payload : List ℕ) → List EventField → List ℕ
json_fields source_of payload fields =
    codes ",\"fields\":{" ++ joined (flat_map (json_member payload) fields) ++ codes "}"
    ++ json_names_part (flat_map (json_names source_of payload) fields)
    ++ uncut_part (flat_map (json_uncut payload) fields)
