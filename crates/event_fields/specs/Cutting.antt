-- Which bytes of a payload are a field's. After the kernel's TRACE_EVENT macros
-- (include/trace/stages/stage2_data_offsets.h, stage6_event_callback.h): `__data_loc` and `__rel_loc`.
use Rattle.std.specs.Prelude.{ℕ, ◌+◌, ◌/◌, ◌%◌, ◌^◌, List, length, take, drop, Option, Some, None, nat_lt}
use Rattle.std.specs.Prelude.{if◌then◌else◌}
use Rattle.std.specs.Int.{w32, from_le_bytes}
use Rattle.event_fields.specs.declared.field.Layout.{Layout}
use Rattle.event_fields.specs.declared.field.Place.{Place}
use Rattle.event_fields.specs.declared.field.Place.TheVariants.{Here, Rest, Located, Relative}

-- how many bytes a field has at its own offset
abbrev pub own_size : Place → ℕ
own_size (Here size) = size
own_size Rest = 0
own_size Located = 4
own_size Relative = 4

-- `count` bytes from an offset on, if all of them are there
unfoldable pub piece : (at count : ℕ) → List ℕ → Option (List ℕ)
piece at count bytes = if nat_lt (length bytes) (at + count) then None else Some (take count (drop at bytes))

-- the number of the four bytes at an offset
abbrev pub word_at : ℕ → List ℕ → ℕ
word_at at bytes = from_le_bytes w32 (drop at bytes)

-- the bytes that a word says: their offset, which counts from `base`, is its low half, and their number its high one
abbrev pub located : (base word : ℕ) → List ℕ → Option (List ℕ)
located base word bytes = piece (base + word % 2 ^ 16) (word / 2 ^ 16) bytes

-- the bytes of a field, if its own bytes are in the payload
abbrev pub placed : Place → (at : ℕ) → List ℕ → Option (List ℕ)
placed (Here size) at bytes = piece at size bytes
placed Rest at bytes = Some (drop at bytes)
placed Located at bytes = located 0 (word_at at bytes) bytes
placed Relative at bytes = located (at + 4) (word_at at bytes) bytes

-- The bytes of a field: none, unless its own bytes and those that it stands for are all in the payload.
unfoldable pub bytes_of : Layout → List ℕ → Option (List ℕ)
bytes_of layout payload =
    if nat_lt (length payload) (layout.at + own_size layout.place) then None
    else placed layout.place layout.at payload
