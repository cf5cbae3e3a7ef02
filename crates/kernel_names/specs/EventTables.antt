-- The tables of names of all events' fields, by the numbers of the events.
use Rattle.std.specs.Prelude.{◌≡◌, ℕ, ◌^◌, ◌<◌, ◌&&◌, Bool, true, false, List, [], map, Option, Some, None, Ok, Err, ⊤}
use Rattle.std.specs.Prelude.{if◌then◌else◌, slice_index_or}
use Rattle.std.specs.Option.{option_map}
use Rattle.std.specs.List.{slice_get}
use Rattle.std.specs.Global.{Vec}
use Rattle.trace_dat.specs.kernel_texts.Names.{Event}
use Rattle.event_fields.specs.Events.{Listed}
use Rattle.event_fields.specs.Fields.{fields_of}
use Rattle.event_fields.specs.Lines.{EventField}
use Rattle.event_fields.specs.Shown.{is_shown}
use Rattle.event_fields.specs.declared.field.Kind.{Kind}
use Rattle.event_fields.specs.declared.field.Kind.TheVariants as kinds
use Rattle.kernel_names.specs.declared.event_tables.EventTables.{EventTables}
use Rattle.kernel_names.specs.declared.tables.FieldTable.{FieldTable}
use Rattle.kernel_names.specs.FieldTables.{Table, table_in_text, table_of, table_seen}

-- whether a value is one number
abbrev pub is_number : Kind → Bool
is_number (kinds.Number kind) = true
is_number (kinds.Numbers kind size) = false
is_number kinds.Text = false
is_number kinds.Bytes = false

-- the table, if the field is shown and is one number
abbrev pub if_number : EventField → Option Table → Option Table
if_number field table = if is_shown field && is_number field.layout.kind then table else None

-- The table of a field, by the format of its event: of a field that is shown and is one number.
abbrev pub table_for : (format : List ℕ) → EventField → Option Table
table_for format field = if_number field (table_of field.name format)

-- the same, by the calls in the format
abbrev pub table_by : (calls : List ℕ) → EventField → Option Table
table_by calls field = if_number field (table_in_text field.name calls)

-- at the place of each field is its table; nothing behind the end is no table
abbrev pub AreTablesOf : List (Option Table) → (format : List ℕ) → List EventField → Type 0
AreTablesOf tables format fields = (place : ℕ) (field : EventField) → slice_get fields place ≡ Some field
    → slice_index_or tables place None ≡ table_for format field

-- the same of the fields of an event, if these are known
abbrev pub AreTablesOfEvent : List (Option Table) → Event → Option Listed → Type 0
AreTablesOfEvent tables event (Some (Ok fields)) = AreTablesOf tables event.format fields
AreTablesOfEvent tables event (Some (Err at)) = ⊤
AreTablesOfEvent tables event None = ⊤

-- tables without their places in memory
abbrev pub tables_seen : List (Option FieldTable) → List (Option Table)
tables_seen tables = map (option_map table_seen) tables

abbrev pub list_or_none : Option (Vec (Option FieldTable)) → List (Option Table)
list_or_none None = []
list_or_none (Some list) = tables_seen list.items

-- the tables that are known of the event of this number
abbrev pub tables_known : EventTables → ℕ → List (Option Table)
tables_known tables id = list_or_none (slice_get tables.lists.items id)

-- Of each event are known the tables of its fields.
abbrev pub HasTables : EventTables → (ℕ → Option Event) → Type 0
HasTables tables event_by = (id : ℕ) (event : Event) (fields : List EventField) → id < 2 ^ 16
    → event_by id ≡ Some event → fields_of event.format ≡ Ok fields
    → AreTablesOf (tables_known tables id) event.format fields
