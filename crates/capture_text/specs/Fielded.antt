-- What a line says of its record besides the numbers, if fields are known: the process that wrote it, its event, its
-- fields, and the payload if a field has no value, or no fields are known.
use Rattle.std.specs.Prelude.{ℕ, ℤ, Bool, false, if◌then◌else◌, List, [], ◌∷◌, ◌++◌, codes, Option, Some, None, Ok, Err}
use Rattle.text_model.specs.Text.{hex_text, space}
use Rattle.text_values.specs.Digits.{pairs_of}
use Rattle.trace_dat.specs.kernel_texts.Names.{Event}
use Rattle.trace_dat.specs.declared.kernel_texts.record.CommonFields.{CommonFields}
use Rattle.event_fields.specs.Events.{Listed, fields_of_event}
use Rattle.event_fields.specs.Fields.{fields_of}
use Rattle.event_fields.specs.Lines.{EventField}
use Rattle.capture_text.specs.Beside.{FieldNaming, NameSource, source_of}
use Rattle.capture_text.specs.Fields.{has_uncut, fields_text, json_fields}
use Rattle.capture_text.specs.Names.{event_or_number, process_part, json_event, json_process}

-- whether a field of a payload has no value
abbrev pub lacks_value : Option Listed → (payload : List ℕ) → Bool
lacks_value (Some (Ok fields)) payload = has_uncut payload fields
lacks_value (Some (Err at)) payload = false
lacks_value None payload = false

-- whether the record whose fields at its front are these has a field without a value
abbrev pub is_cut : (ℕ → Option Event) → (payload : List ℕ) → Option CommonFields → Bool
is_cut event_by payload None = false
is_cut event_by payload (Some common) = lacks_value (fields_of_event (event_by common.event)) payload

-- ---- in a line of text

abbrev pub payload_part : List ℕ → List ℕ
payload_part payload = space ∷ hex_text payload

-- the fields, and the payload if one of them has no value; or the payload
abbrev pub fields_or_payload : (source_of : EventField → NameSource) → Listed → (payload : List ℕ) → List ℕ
fields_or_payload source_of (Ok fields) payload =
    fields_text source_of payload fields ++ (if has_uncut payload fields then payload_part payload else [])
fields_or_payload source_of (Err at) payload = payload_part payload

-- those of an event, if there is one
abbrev pub event_part : FieldNaming → Option Event → (payload : List ℕ) → List ℕ
event_part naming None payload = payload_part payload
event_part naming (Some event) payload =
    fields_or_payload (source_of naming event) (fields_of event.format) payload

-- of a record without the fields that every event has neither its process nor its event is known
abbrev pub fielded_part : FieldNaming → (ℕ → Option Event) → (ℤ → Option (List ℕ)) → (payload : List ℕ)
    → Option CommonFields → List ℕ
fielded_part naming event_by task_by payload None = codes "- -" ++ payload_part payload
fielded_part naming event_by task_by payload (Some common) =
    process_part common.pid (task_by common.pid) ++ space ∷ event_or_number common.event (event_by common.event)
    ++ event_part naming (event_by common.event) payload

-- ---- in a JSON line

abbrev pub json_payload : List ℕ → List ℕ
json_payload payload = codes ",\"data\":\"" ++ pairs_of payload ++ codes "\""

abbrev pub json_fields_or_payload : (source_of : EventField → NameSource) → Listed → (payload : List ℕ) → List ℕ
json_fields_or_payload source_of (Ok fields) payload =
    json_fields source_of payload fields ++ (if has_uncut payload fields then json_payload payload else [])
json_fields_or_payload source_of (Err at) payload = json_payload payload

abbrev pub json_event_part : FieldNaming → Option Event → (payload : List ℕ) → List ℕ
json_event_part naming None payload = json_payload payload
json_event_part naming (Some event) payload =
    json_fields_or_payload (source_of naming event) (fields_of event.format) payload

abbrev pub json_fielded : FieldNaming → (ℕ → Option Event) → (ℤ → Option (List ℕ)) → (payload : List ℕ)
    → Option CommonFields → List ℕ
json_fielded naming event_by task_by payload None = json_payload payload
json_fielded naming event_by task_by payload (Some common) =
    json_process common.pid (task_by common.pid) ++ codes ",\"event\":"
    ++ json_event common.event (event_by common.event) ++ json_event_part naming (event_by common.event) payload
