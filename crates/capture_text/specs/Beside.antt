-- The names that stand beside numbers: that of a process beside its number, and those that a field's number has.
use Rattle.std.specs.Prelude.{ℕ, ℤ, ◌==◌, ◌&&◌, ◌||◌, not, nat_lt, Bool, List, [], ◌∷◌}
use Rattle.std.specs.Prelude.{◌++◌, map, flat_map, codes, bytes_eq, Option, Some, None, if◌then◌else◌}
use Rattle.std.specs.Int.{w64, cast_unsigned}
use Rattle.std.specs.List.{list_all}
use Rattle.std.specs.Str.{is_utf8}
use Rattle.text_model.specs.Text.{space}
use Rattle.text_values.specs.Digits.{hexadecimal}
use Rattle.trace_dat.specs.kernel_texts.Names.{Event}
use Rattle.event_fields.specs.Lines.{EventField}
use Rattle.event_fields.specs.Values.{FieldValue, number, numbers, text, bytes}
use Rattle.kernel_names.specs.FieldTables.{Table, names_by, rest_by}
use Rattle.kernel_names.specs.EventTables.{table_for}
use Rattle.capture_text.specs.declared.form.Form.{Form}
use Rattle.capture_text.specs.declared.form.Form.TheVariants.{Text, Json}
use Rattle.capture_text.specs.Quoting.{quotation_mark, marked, quoted, escaped_text}

-- ---- processes

-- the name of a process, if it has one, after a space
abbrev pub task_part : Option (List ℕ) → List ℕ
task_part None = []
task_part (Some name) = space ∷ quoted name

abbrev pub json_task : Option (List ℕ) → List ℕ
json_task None = []
json_task (Some name) = codes ",\"task\":" ++ quoted name

-- ---- which names a field's number has

-- a name of a number: one of its field's table; bits that have none in it; or a function, and how many bytes behind its
-- beginning the address is that the number is
pub data NumberName : Type 0 where
  label : List ℕ → NumberName
  bits : ℕ → NumberName
  location : List ℕ × ℕ → NumberName

-- where the names of a field's numbers are from: nowhere, a table, or the functions by their addresses
pub data NameSource : Type 0 where
  nothing : NameSource
  table : Table → NameSource
  functions : (ℕ → Option (List ℕ × ℕ)) → NameSource

-- bits without a name, if there are any
abbrev pub rest_names : ℕ → List NumberName
rest_names rest = if rest == 0 then [] else bits rest ∷ []

-- names, and behind them the bits that have none; no names are no names
abbrev pub with_rest : List (List ℕ) → (rest : ℕ) → List NumberName
with_rest [] rest = []
with_rest (name ∷ names) rest = label name ∷ (map label names ++ rest_names rest)

abbrev pub location_names : Option (List ℕ × ℕ) → List NumberName
location_names None = []
location_names (Some found) = location found ∷ []

-- the names of 64 bits
abbrev pub bits_names : NameSource → ℕ → List NumberName
bits_names nothing n = []
bits_names (table t) n = with_rest (names_by t.kind t.entries n) (rest_by t.kind t.entries n)
bits_names (functions function_of) n = location_names (function_of n)

-- The names of a number, as 64 bits in two's complement.
abbrev pub names_of : NameSource → ℤ → List NumberName
names_of source n = bits_names source (cast_unsigned w64 n)

-- the names of a value: only one number has some
abbrev pub value_names : NameSource → Option FieldValue → List NumberName
value_names source None = []
value_names source (Some (number n)) = names_of source n
value_names source (Some (numbers ns)) = []
value_names source (Some (text given)) = []
value_names source (Some (bytes given)) = []

-- ---- where the names of an event's fields are from

-- What names the numbers of fields: tables or not, and the functions by their addresses, if these are known.
pub record FieldNaming : Type 0 where
  pub tables : Bool
  pub functions : Option (ℕ → Option (List ℕ × ℕ))

-- whether a field has addresses of functions: three of the function tracers' events (kernel/trace/trace_entries.h)
abbrev pub is_address_name : List ℕ → Bool
is_address_name name =
    bytes_eq name (codes "ip") || (bytes_eq name (codes "parent_ip") || bytes_eq name (codes "func"))

abbrev pub has_addresses : Event → EventField → Bool
has_addresses event field = bytes_eq event.system (codes "ftrace") && is_address_name field.name

abbrev pub table_source : Option Table → NameSource
table_source None = nothing
table_source (Some t) = table t

abbrev pub source_or_table : Option (ℕ → Option (List ℕ × ℕ)) → Option Table → NameSource
source_or_table None t = table_source t
source_or_table (Some function_of) t = functions function_of

-- The names of a field of addresses are functions, if these are known; those of others are from its table.
abbrev pub source_of : FieldNaming → Event → EventField → NameSource
source_of naming event field =
    source_or_table (if has_addresses event field then naming.functions else None)
    (if naming.tables then table_for event.format field else None)

-- ---- how they are printed

-- a byte that a name has without quotation marks: a printable one of ASCII, and none that ends or joins names
abbrev pub is_label_byte : ℕ → Bool
is_label_byte b =
    nat_lt 32 b && (nat_lt b 127 && not (b == 34 || (b == 92 || (b == 124 || b == 58))))

-- a name in a line of text: between quotation marks if it has another byte
abbrev pub label_text : List ℕ → List ℕ
label_text name = if list_all is_label_byte name then name else quoted name

abbrev pub name_text : Form → NumberName → List ℕ
name_text Text (label name) = label_text name
name_text Text (bits n) = hexadecimal n
name_text Text (location found) = label_text found.0 ++ codes "+" ++ hexadecimal found.1
name_text Json (label name) = quoted name
name_text Json (bits n) = marked (hexadecimal n)
name_text Json (location found) =
    quotation_mark ∷ escaped_text (is_utf8 found.0) found.0 ++ codes "+" ++ hexadecimal found.1
    ++ quotation_mark ∷ []

-- what is between two names: `|`, or a comma
abbrev pub separator : Form → ℕ
separator Text = 124
separator Json = 44

-- names, one after the other
abbrev pub names_text : Form → List NumberName → List ℕ
names_text form [] = []
names_text form (first ∷ others) =
    name_text form first ++ flat_map (λ name. separator form ∷ name_text form name) others

-- names behind a number in a line of text: after a colon, if there are any
abbrev pub names_part : List NumberName → List ℕ
names_part [] = []
names_part (first ∷ others) = codes ":" ++ names_text Text (first ∷ others)

-- the member of a field's names in JSON
abbrev pub member_of : (name : List ℕ) → List NumberName → List ℕ
member_of name names = marked name ++ codes ":[" ++ names_text Json names ++ codes "]"

-- the same, or none if there are no names
abbrev pub names_member : (name : List ℕ) → List NumberName → List (List ℕ)
names_member name [] = []
names_member name (first ∷ others) = member_of name (first ∷ others) ∷ []
