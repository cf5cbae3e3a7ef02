-- The numbers that a field's bytes are.
use Rattle.std.specs.Prelude.{ℕ, zero, suc, ℤ, pos, ◌==◌, ◌/◌, Bool, true, false, List, [], ◌∷◌, length, drop, Option}
use Rattle.std.specs.Prelude.{Some}
use Rattle.std.specs.Prelude.{None, if◌then◌else◌}
use Rattle.std.specs.Int.{Width, w8, w16, w32, w64, from_le_bytes, cast_signed}
use Rattle.std.specs.Option.{option_map}
use Rattle.event_fields.specs.declared.field.NumberKind.{NumberKind}
use Rattle.event_fields.specs.declared.field.NumberKind.TheVariants.{Signed, Unsigned, Word, Address}
use Rattle.event_fields.specs.declared.field.NumberSize.{NumberSize}
use Rattle.event_fields.specs.declared.field.NumberSize.TheVariants.{One, Two, Four, Eight}
use Rattle.event_fields.specs.declared.numbers.FieldNumber.{FieldNumber}
use Rattle.event_fields.specs.declared.numbers.FieldNumber.TheVariants as numbers

-- the value of an answer
abbrev pub number_seen : FieldNumber → ℤ
number_seen (numbers.Natural n) = pos n
number_seen (numbers.Integer z) = z

-- whether numbers of this kind are in two's complement
abbrev pub is_signed_kind : NumberKind → Bool
is_signed_kind Signed = true
is_signed_kind Unsigned = false
is_signed_kind Word = false
is_signed_kind Address = false

-- how many bytes a number has
abbrev pub byte_count : NumberSize → ℕ
byte_count One = 1
byte_count Two = 2
byte_count Four = 4
byte_count Eight = 8

-- the width of a number of this size
abbrev pub width_of : NumberSize → Width
width_of One = w8
width_of Two = w16
width_of Four = w32
width_of Eight = w64

-- the size of a number that has `count` bytes
abbrev pub size_for : ℕ → Option NumberSize
size_for count =
    if count == 1 then Some One
    else if count == 2 then Some Two
    else if count == 4 then Some Four
    else if count == 8 then Some Eight
    else None

-- The number that the first bytes are, the lowest byte first; in two's complement if it is signed.
abbrev pub number_at : (is_signed : Bool) → NumberSize → List ℕ → ℤ
number_at is_signed size bytes =
    if is_signed then cast_signed (width_of size) (from_le_bytes (width_of size) bytes)
    else pos (from_le_bytes (width_of size) bytes)

-- the number that all of these bytes are: 1, 2, 4 or 8
unfoldable pub number_of : (is_signed : Bool) → List ℕ → Option ℤ
number_of is_signed bytes = option_map (λ size. number_at is_signed size bytes) (size_for (length bytes))

-- `count` numbers, one after the other
abbrev pub numbers_from : (count : ℕ) → (is_signed : Bool) → NumberSize → List ℕ → List ℤ
numbers_from zero is_signed size bytes = []
numbers_from (suc count) is_signed size bytes =
    number_at is_signed size bytes ∷ numbers_from count is_signed size (drop (byte_count size) bytes)

-- the numbers that bytes are, one after the other
unfoldable pub numbers_of : (is_signed : Bool) → NumberSize → List ℕ → List ℤ
numbers_of is_signed size bytes = numbers_from (length bytes / byte_count size) is_signed size bytes
