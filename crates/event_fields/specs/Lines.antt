-- What a line of a format says of a field: `field:DECLARATION;`, `offset:N;`, `size:N;` and `signed:B;`, each after
-- a tab, and nothing else. After f_show of the kernel's kernel/trace/trace_events.c.
use Rattle.std.specs.Prelude.{ℕ, ◌&&◌, ◌==◌, ◌/◌, ◌%◌, Bool, true, false, List, ◌∷◌, codes, bytes_eq}
use Rattle.std.specs.Prelude.{Option, Some, None, nat_lt, if◌then◌else◌}
use Rattle.std.specs.Option.{option_and_then, option_map}
use Rattle.event_fields.specs.declared.field.Layout.{Layout}
use Rattle.event_fields.specs.declared.field.Field.{Field}
use Rattle.event_fields.specs.declared.field.LentField.{LentField}
use Rattle.event_fields.specs.declared.field.Place.{Place}
use Rattle.event_fields.specs.declared.field.Place.TheVariants as places
use Rattle.event_fields.specs.declared.field.Kind.{Kind}
use Rattle.event_fields.specs.declared.field.Kind.TheVariants as kinds
use Rattle.event_fields.specs.declared.field.NumberKind.{NumberKind}
use Rattle.event_fields.specs.declared.field.NumberKind.TheVariants.{Signed, Unsigned, Word, Address}
use Rattle.event_fields.specs.declared.field.NumberSize.{NumberSize}
use Rattle.event_fields.specs.declared.declaration.Shape.{Shape}
use Rattle.event_fields.specs.declared.declaration.Shape.TheVariants.{Single, Array, Located, Relative}
use Rattle.event_fields.specs.Declarations.{Declaration, declaration_in}
use Rattle.event_fields.specs.Numbers.{size_for}
use Rattle.event_fields.specs.Texts.{after, cut_at, number32_in}
use Rattle.event_fields.specs.Types.{is_named, is_pointer, type_size}

-- a field: its name, where its bytes are, and what they say
pub record EventField : Type 0 where
  pub name : List ℕ
  pub layout : Layout

-- a field without its place in memory
abbrev pub field_seen : Field → EventField
field_seen field = record { name = field.name.items; layout = field.layout }

-- a field whose name is lent
abbrev pub lent_seen : LentField → EventField
lent_seen field = record { name = field.name.now; layout = field.layout }

-- ---- what the parts of a line mean

-- which numbers those of a type are
unfoldable pub number_kind : (type_text : List ℕ) → (is_signed : Bool) → NumberKind
number_kind type_text is_signed =
    if is_pointer type_text then Address
    else if is_signed then Signed
    else if is_named (codes "unsigned long") type_text then Word
    else Unsigned

-- The size of an element of an array that has `size` bytes: by the number of elements, if it is given and they have
-- the same size, else by their type.
abbrev pub element_size : Shape → (type_text : List ℕ) → (size : ℕ) → Option NumberSize
element_size (Array (Some count)) type_text size =
    if nat_lt 0 size && nat_lt 0 count && size % count == 0 then size_for (size / count) else type_size type_text
element_size (Array None) type_text size = type_size type_text
element_size Single type_text size = type_size type_text
element_size Located type_text size = type_size type_text
element_size Relative type_text size = type_size type_text

-- what one value says, if its bytes are a number of this size, or if they are not
abbrev pub single_kind : NumberKind → Option NumberSize → Kind
single_kind numbers (Some size) = kinds.Number numbers
single_kind numbers None = kinds.Bytes

-- what numbers of some size say
abbrev pub numbers_kind : NumberKind → Option NumberSize → Kind
numbers_kind numbers (Some size) = kinds.Numbers numbers size
numbers_kind numbers None = kinds.Bytes

-- what an array says
unfoldable pub array_kind : Shape → (type_text : List ℕ) → (size : ℕ) → (is_signed : Bool) → Kind
array_kind shape type_text size is_signed =
    if is_named (codes "char") type_text then kinds.Text
    else numbers_kind (number_kind type_text is_signed) (element_size shape type_text size)

-- what a field says
abbrev pub kind_of : Shape → (type_text : List ℕ) → (size : ℕ) → (is_signed : Bool) → Kind
kind_of Single type_text size is_signed = single_kind (number_kind type_text is_signed) (size_for size)
kind_of (Array count) type_text size is_signed = array_kind (Array count) type_text size is_signed
kind_of Located type_text size is_signed = array_kind Located type_text size is_signed
kind_of Relative type_text size is_signed = array_kind Relative type_text size is_signed

-- Where its bytes are. An array of no bytes is all that is left of the payload; of bytes that are elsewhere a field has
-- four.
abbrev pub place_of : Shape → (size : ℕ) → Option Place
place_of Single size = Some (places.Here size)
place_of (Array count) size = if size == 0 then Some places.Rest else Some (places.Here size)
place_of Located size = if size == 4 then Some places.Located else None
place_of Relative size = if size == 4 then Some places.Relative else None

-- ---- the line

-- the byte before each part
abbrev pub tab : ℕ
tab = 9

-- a number after a word and before a semicolon, and what is after that
unfoldable pub number_after : (word text : List ℕ) → Option (ℕ × List ℕ)
number_after word text =
    option_and_then (λ rest. option_and_then (λ parts. option_map (λ n. (n, parts.1)) (number32_in parts.0))
    (cut_at 59 rest)) (after word text)

-- whether the numbers are signed: the last part of a line
unfoldable pub sign_in : List ℕ → Option Bool
sign_in text =
    if bytes_eq text (tab ∷ codes "signed:1;") then Some true
    else if bytes_eq text (tab ∷ codes "signed:0;") then Some false
    else None

-- the offset and the size that a line states, and whether the numbers are signed
unfoldable pub measures_in : List ℕ → Option (ℕ × ℕ × Bool)
measures_in text =
    option_and_then (λ offset. option_and_then (λ size. option_map (λ is_signed. (offset.0, size.0, is_signed))
    (sign_in size.1)) (number_after (tab ∷ codes "size:") offset.1)) (number_after (tab ∷ codes "offset:") text)

-- the field of this declaration, with these measures
unfoldable pub field_of : Declaration → (ℕ × ℕ × Bool) → Option EventField
field_of declared (at, size, is_signed) = option_map (λ place. record {
  name = declared.name;
  layout = record {
    at = at;
    place = place;
    kind = kind_of declared.shape declared.type_text size is_signed;
  };
}) (place_of declared.shape size)

-- the field that a line describes
unfoldable pub field_in : List ℕ → Option EventField
field_in line =
    option_and_then (λ rest. option_and_then (λ parts. option_and_then (λ declared. option_and_then (λ measures.
    field_of declared measures) (measures_in parts.1)) (declaration_in parts.0)) (cut_at 59 rest))
    (after (tab ∷ codes "field:") line)
