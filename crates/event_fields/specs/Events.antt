-- The fields of events, by the numbers of these.
use Rattle.std.specs.Prelude.{◌≡◌, ℕ, ◌^◌, ◌<◌, List, map, Option, Result, Ok, Err}
use Rattle.std.specs.Option.{option_map}
use Rattle.std.specs.BTreeMap.{get}
use Rattle.std.specs.Ordering.{nat_cmp}
use Rattle.trace_dat.specs.kernel_texts.Names.{Event}
use Rattle.event_fields.specs.Fields.{fields_of}
use Rattle.event_fields.specs.Lines.{EventField, field_seen}
use Rattle.event_fields.specs.declared.events.EventFields.{EventFields}
use Rattle.event_fields.specs.declared.events.FieldList.{FieldList}
use Rattle.event_fields.specs.declared.events.FieldList.TheVariants.{Known, Malformed}

-- what a format says of fields: which they are, or the offset of its first malformed line
abbrev pub Listed : Type 0
Listed = Result (List EventField) ℕ

-- what an answer says
abbrev pub list_seen : FieldList → Listed
list_seen (Known fields) = Ok (map field_seen fields.items)
list_seen (Malformed at) = Err at

-- What the format of an event says of its fields, if there is an event.
abbrev pub fields_of_event : Option Event → Option Listed
fields_of_event event = option_map (λ e. fields_of e.format) event

-- what is known of the event of this number
abbrev pub known_by : EventFields → ℕ → Option Listed
known_by fields id = option_map list_seen (get nat_cmp fields.lists id)

-- of each event is known what its format says
abbrev pub HasFields : EventFields → (ℕ → Option Event) → Type 0
HasFields fields event_by = (id : ℕ) → id < 2 ^ 16 → known_by fields id ≡ fields_of_event (event_by id)
