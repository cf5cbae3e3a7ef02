-- The value of a field.
use Rattle.std.specs.Prelude.{ℕ, ℤ, ◌%◌, ◌==◌, List, length, Option, Some, None}
use Rattle.std.specs.Prelude.{if◌then◌else◌}
use Rattle.std.specs.Option.{option_map, option_and_then}
use Rattle.event_fields.specs.declared.field.Layout.{Layout}
use Rattle.event_fields.specs.declared.field.Kind.{Kind}
use Rattle.event_fields.specs.declared.field.Kind.TheVariants as kinds
use Rattle.event_fields.specs.declared.list.Numbers.{Numbers}
use Rattle.event_fields.specs.declared.value.Value.{Value}
use Rattle.event_fields.specs.declared.value.Value.TheVariants as values
use Rattle.event_fields.specs.Cutting.{bytes_of}
use Rattle.event_fields.specs.Texts.{text_before_zero}
use Rattle.event_fields.specs.Numbers.{number_seen, number_of, numbers_of, is_signed_kind, byte_count}

-- a value: a number, numbers, a text, or bytes of which nothing else is known
pub data FieldValue : Type 0 where
  number : ℤ → FieldValue
  numbers : List ℤ → FieldValue
  text : List ℕ → FieldValue
  bytes : List ℕ → FieldValue

-- the numbers of an answer
abbrev pub numbers_seen : Numbers → List ℤ
numbers_seen given = numbers_of given.is_signed given.size given.bytes.now

-- the value of an answer
abbrev pub value_seen : Value → FieldValue
value_seen (values.Number n) = number (number_seen n)
value_seen (values.Numbers given) = numbers (numbers_seen given)
value_seen (values.Text given) = text given.now
value_seen (values.Bytes given) = bytes given.now

-- the value that bytes are: numbers only if these are a whole number of elements
abbrev pub value_in : Kind → List ℕ → Option FieldValue
value_in (kinds.Number kind) given = option_map number (number_of (is_signed_kind kind) given)
value_in (kinds.Numbers kind size) given =
    if length given % byte_count size == 0 then Some (numbers (numbers_of (is_signed_kind kind) size given)) else None
value_in kinds.Text given = Some (text (text_before_zero given))
value_in kinds.Bytes given = Some (bytes given)

-- The value of a field in a payload. None if its bytes aren't all there, or aren't a whole number of elements.
unfoldable pub value_of : Layout → List ℕ → Option FieldValue
value_of layout payload = option_and_then (value_in layout.kind) (bytes_of layout payload)
