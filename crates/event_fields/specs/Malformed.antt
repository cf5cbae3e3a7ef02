-- Events whose formats are malformed.
use Rattle.std.specs.Prelude.{ℕ, zero, suc, ◌^◌, List, [], ◌∷◌, ◌++◌, Option, Some, None, Ok, Err}
use Rattle.trace_dat.specs.kernel_texts.Names.{Event}
use Rattle.event_fields.specs.Events.{Listed, fields_of_event}
use Rattle.event_fields.specs.declared.malformed.MalformedEvent.{MalformedEvent}

-- an event, and the offset at which its format is malformed
pub record Malformed : Type 0 where
  pub system : List ℕ
  pub name : List ℕ
  pub at : ℕ

abbrev pub malformed_at : Event → (at : ℕ) → Malformed
malformed_at event at = record { system = event.system; name = event.name; at = at }

-- what an answer says
abbrev pub malformed_seen : MalformedEvent → Malformed
malformed_seen event = record { system = event.system.items; name = event.name.items; at = event.at }

-- an event, if its format is malformed by what it says of fields
abbrev pub malformed_in : Event → Option Listed → List Malformed
malformed_in event None = []
malformed_in event (Some (Ok fields)) = []
malformed_in event (Some (Err at)) = malformed_at event at ∷ []

-- an event, if there is one and its format is malformed
abbrev pub malformed_of : Option Event → List Malformed
malformed_of None = []
malformed_of (Some event) = malformed_in event (fields_of_event (Some event))

-- the event of this number, if its format is malformed
abbrev pub malformed_by : (ℕ → Option Event) → (id : ℕ) → List Malformed
malformed_by event_by id = malformed_of (event_by id)

-- the events of the numbers below this one whose formats are malformed
unfoldable pub malformed_below : (ℕ → Option Event) → ℕ → List Malformed
malformed_below event_by zero = []
malformed_below event_by (suc id) = malformed_below event_by id ++ malformed_by event_by id

-- The events whose formats are malformed, by their numbers.
abbrev pub malformed_events : (ℕ → Option Event) → List Malformed
malformed_events event_by = malformed_below event_by (2 ^ 16)
