-- Which event has a number, by the formats of events.
use Rattle.std.specs.Prelude.{◌≡◌, ℕ, ◌^◌, ◌==◌, ◌<◌, ◌++◌, List, [], ◌∷◌, length, take, codes, Option, Some, None}
use Rattle.std.specs.Prelude.{nat_lt, if◌then◌else◌}
use Rattle.std.specs.Option.{option_and_then, option_map}
use Rattle.std.specs.BTreeMap.{get}
use Rattle.std.specs.Ordering.{nat_cmp}
use Rattle.trace_dat.specs.Contents.{EventFormat}
use Rattle.trace_dat.specs.declared.kernel_texts.names.EventName.{EventName}
use Rattle.trace_dat.specs.declared.kernel_texts.names.OwnedEvent.{OwnedEvent}
use Rattle.trace_dat.specs.declared.kernel_texts.names.EventNames.{EventNames}
use Rattle.trace_dat.specs.kernel_texts.Lines.{value_in, number_in}

-- an event: its system, its own name, and its format
pub record Event : Type 0 where
  pub system : List ℕ
  pub name : List ℕ
  pub format : List ℕ

-- an event without its place in memory
abbrev pub event_seen : EventName → Event
event_seen event = record { system = event.system.now; name = event.name.now; format = event.format.now }

-- the number of the event that a format describes, if it fits 16 bits
unfoldable pub id_in : List ℕ → Option ℕ
id_in text =
    option_and_then (λ digits. option_and_then (λ id. if nat_lt id (2 ^ 16) then Some id else None) (number_in digits))
    (value_in (codes "ID: ") text)

-- the event that a format describes, with its number: both have a line
unfoldable pub described_in : EventFormat → Option (ℕ × Event)
described_in format =
    option_and_then (λ id. option_map
    (λ name. (id, record { system = format.system; name = name; format = format.text }))
    (value_in (codes "name: ") format.text)) (id_in format.text)

-- a described event, if its number is this
abbrev pub event_under : ℕ → Option (ℕ × Event) → Option Event
event_under id None = None
event_under id (Some found) = if found.0 == id then Some found.1 else None

-- the first of two
abbrev pub first_of : Option Event → Option Event → Option Event
first_of (Some event) other = Some event
first_of None other = other

-- The event of this number: what the last format of it describes.
abbrev pub event_of : ℕ → List EventFormat → Option Event
event_of id [] = None
event_of id (format ∷ formats) = first_of (event_of id formats) (event_under id (described_in format))

-- an event that owns its texts
abbrev pub event_held : OwnedEvent → Event
event_held event = record { system = event.system.items; name = event.name.items; format = event.format.items }

-- the event that is known by this number
abbrev pub events_of : EventNames → ℕ → Option Event
events_of names id = option_map event_held (get nat_cmp names.events id)

-- what is known by each number is the event of that number by these formats
abbrev pub HasEvents : EventNames → List EventFormat → Type 0
HasEvents names formats = (id : ℕ) → events_of names id ≡ event_of id formats

-- of further formats the first ones are known, and not all
abbrev pub HasEventsOfSome : EventNames → (known further : List EventFormat) → Type 0
HasEventsOfSome names known further =
    (count : ℕ) × (count < length further) × HasEvents names (known ++ take count further)
