-- The fields that every event has, at the front of a record.
use Rattle.std.specs.Prelude.{ℕ, List, length, drop, Option, Some, None, nat_lt, if◌then◌else◌}
use Rattle.std.specs.Int.{w16, w32, from_le_bytes, cast_signed}
use Rattle.trace_dat.specs.declared.kernel_texts.record.CommonFields.{CommonFields}

-- the number of the event in the first two bytes, and the process in the fifth to the eighth, signed
unfoldable pub common_fields_in : List ℕ → Option CommonFields
common_fields_in payload =
    if nat_lt (length payload) 8 then None
    else Some (record {
      event = from_le_bytes w16 payload;
      pid = cast_signed w32 (from_le_bytes w32 (drop 4 payload));
    })
