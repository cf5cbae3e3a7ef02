-- What a line says of its record besides the numbers: the process that wrote it, its event, and the text of a print.
use Rattle.std.specs.Prelude.{ℕ, ℤ, Bool, false, ◌&&◌, if◌then◌else◌, List, [], ◌∷◌, ◌++◌, drop}
use Rattle.std.specs.Prelude.{codes, bytes_eq, Option, Some, None}
use Rattle.std.specs.Fmt.{decimal, signed_decimal}
use Rattle.text_model.specs.Text.{space}
use Rattle.trace_dat.specs.kernel_texts.Names.{Event}
use Rattle.trace_dat.specs.declared.kernel_texts.record.CommonFields.{CommonFields}
use Rattle.event_fields.specs.Texts.{text_before_zero}
use Rattle.capture_text.specs.Quoting.{quotation_mark, quoted, shown_name}
use Rattle.capture_text.specs.Beside.{task_part, json_task}

-- an event's system and its own name
abbrev pub event_text : Event → List ℕ
event_text event = shown_name event.system ++ codes ":" ++ shown_name event.name

-- whether the event is what a program prints (kernel/trace/trace_entries.h, `print`)
abbrev pub is_print : Option Event → Bool
is_print None = false
is_print (Some event) = bytes_eq event.system (codes "ftrace") && bytes_eq event.name (codes "print")

-- the text of such a record: after the fields that all events have and an address, up to the first zero byte
abbrev pub print_text : List ℕ → List ℕ
print_text bytes = text_before_zero (drop 16 bytes)

-- ---- in a line of text

-- the event, or its number if it has no name
abbrev pub event_or_number : ℕ → Option Event → List ℕ
event_or_number id None = decimal id
event_or_number id (Some event) = event_text event

abbrev pub print_part : Option Event → List ℕ → List ℕ
print_part event bytes = if is_print event then space ∷ quoted (print_text bytes) else []

-- a process, and its name if it has one
abbrev pub process_part : (pid : ℤ) → (task : Option (List ℕ)) → List ℕ
process_part pid task = signed_decimal pid ++ task_part task

-- the process, the event, and the text of a print
abbrev pub known_part : (ℕ → Option Event) → (ℤ → Option (List ℕ)) → List ℕ → (id : ℕ) → (pid : ℤ) → List ℕ
known_part event_by task_by bytes id pid =
    process_part pid (task_by pid) ++ space ∷ event_or_number id (event_by id) ++ print_part (event_by id) bytes

-- of a record without these fields neither is known
abbrev pub named_part : (ℕ → Option Event) → (ℤ → Option (List ℕ)) → List ℕ → Option CommonFields → List ℕ
named_part event_by task_by bytes None = codes "- -"
named_part event_by task_by bytes (Some fields) = known_part event_by task_by bytes fields.event fields.pid

-- ---- in a JSON line

abbrev pub json_event : ℕ → Option Event → List ℕ
json_event id None = decimal id
json_event id (Some event) = quotation_mark ∷ event_text event ++ quotation_mark ∷ []

abbrev pub json_print : Option Event → List ℕ → List ℕ
json_print event bytes = if is_print event then codes ",\"text\":" ++ quoted (print_text bytes) else []

abbrev pub json_process : (pid : ℤ) → (task : Option (List ℕ)) → List ℕ
json_process pid task = codes ",\"pid\":" ++ signed_decimal pid ++ json_task task

abbrev pub json_known : (ℕ → Option Event) → (ℤ → Option (List ℕ)) → List ℕ → (id : ℕ) → (pid : ℤ) → List ℕ
json_known event_by task_by bytes id pid =
    json_process pid (task_by pid) ++ codes ",\"event\":" ++ json_event id (event_by id)
    ++ json_print (event_by id) bytes

abbrev pub json_named : (ℕ → Option Event) → (ℤ → Option (List ℕ)) → List ℕ → Option CommonFields → List ℕ
json_named event_by task_by bytes None = []
json_named event_by task_by bytes (Some fields) = json_known event_by task_by bytes fields.event fields.pid
