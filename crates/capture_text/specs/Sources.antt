-- What the printer knows of names of numbers, without places in memory.
use Rattle.std.specs.Prelude.{◌≡◌, ℕ, ◌++◌, ◌∷◌, List, [], map, flat_map, is_some, Option, Some, None, Ok, Err, ⊤}
use Rattle.std.specs.Prelude.{if◌then◌else◌, slice_index_or}
use Rattle.std.specs.Borrow.{Bor}
use Rattle.std.specs.Option.{option_map}
use Rattle.trace_dat.specs.kernel_texts.Names.{Event, event_seen}
use Rattle.event_fields.specs.Events.{Listed}
use Rattle.event_fields.specs.Fields.{fields_of}
use Rattle.event_fields.specs.Lines.{EventField}
use Rattle.kernel_names.specs.declared.event_tables.EventTables.{EventTables}
use Rattle.kernel_names.specs.declared.tables.FieldTable.{FieldTable}
use Rattle.kernel_names.specs.declared.tables.NumberNames as lent
use Rattle.kernel_names.specs.EventTables.{tables_known, tables_seen, AreTablesOf}
use Rattle.kernel_names.specs.FieldTables.{Table, table_seen, names_seen, rest_seen}
use Rattle.kernel_names.specs.SymbolNames.{symbol_seen}
use Rattle.capture_text.specs.declared.beside.FieldNames.{FieldNames}
use Rattle.capture_text.specs.declared.beside.FoundNames.{FoundNames}
use Rattle.capture_text.specs.declared.beside.FoundNames.TheVariants.{Labels, Place}
use Rattle.capture_text.specs.declared.beside.NameSource as sources
use Rattle.capture_text.specs.declared.beside.NameSource.TheVariants.{Nothing, Table as TableOf, Functions}
use Rattle.capture_text.specs.declared.form.Form.{Form}
use Rattle.capture_text.specs.Beside.{NumberName, NameSource, FieldNaming, label, location, nothing, table, functions}
use Rattle.capture_text.specs.Beside.{has_addresses, name_text, rest_names, separator, source_of, source_or_table}
use Rattle.capture_text.specs.Lent.{function_known, symbols_lent}

-- a source
abbrev pub source_seen : sources.NameSource → NameSource
source_seen Nothing = nothing
source_seen (TableOf t) = table (table_seen t.now)
source_seen (Functions symbols) = functions (function_known symbols.now)

-- the tables of an event's fields; none, if none are given
abbrev pub given_tables : Option (Bor (List (Option FieldTable))) → List (Option Table)
given_tables None = []
given_tables (Some tables) = tables_seen tables.now

abbrev pub tables_of : FieldNames → List (Option Table)
tables_of names = given_tables names.tables

-- the one at this place
abbrev pub table_at : List (Option Table) → (place : ℕ) → Option Table
table_at tables place = slice_index_or tables place None

-- what names the numbers of fields
abbrev pub names_naming : FieldNames → FieldNaming
names_naming names = record {
  tables = is_some names.tables;
  functions = option_map function_known (symbols_lent names.symbols);
}

-- where the names of the field at a place are from
abbrev pub source_at : FieldNames → (place : ℕ) → EventField → NameSource
source_at names place field =
    source_or_table (if has_addresses (event_seen names.event) field
    then option_map function_known (symbols_lent names.symbols) else None) (table_at (tables_of names) place)

-- where the names of an event's field are from
abbrev pub event_source : FieldNames → EventField → NameSource
event_source names field = source_of (names_naming names) (event_seen names.event) field

-- the tables are those of the event's fields, if they are given
abbrev pub HasTablesOf : FieldNames → List EventField → Type 0
HasTablesOf names fields = (tables : Bor (List (Option FieldTable))) → names.tables ≡ Some tables
    → AreTablesOf (tables_seen tables.now) names.event.format.now fields

-- the same of what a format says of fields
abbrev pub HasTablesOfList : FieldNames → Listed → Type 0
HasTablesOfList names (Ok fields) = HasTablesOf names fields
HasTablesOfList names (Err at) = ⊤

-- the tables of an event's fields, by its number
abbrev pub event_tables : Option EventTables → (id : ℕ) → List (Option Table)
event_tables None id = []
event_tables (Some tables) id = tables_known tables id

-- those of this number are those of the event's fields, if there are an event and tables
abbrev pub HasTablesAt : Option EventTables → Option Event → (id : ℕ) → Type 0
HasTablesAt tables None id = ⊤
HasTablesAt None (Some event) id = ⊤
HasTablesAt (Some tables) (Some event) id = (fields : List EventField) → fields_of event.format ≡ Ok fields
    → AreTablesOf (tables_known tables id) event.format fields

-- the names that are left of a number's, and the bits without a name
abbrev pub left_seen : lent.NumberNames → List NumberName
left_seen names = map label (names_seen names) ++ rest_names (rest_seen names)

-- names that were found
abbrev pub found_seen : FoundNames → List NumberName
found_seen (Labels first others) = label first.now ∷ left_seen others
found_seen (Place found) = location (symbol_seen found) ∷ []

-- names after a separator each
abbrev pub further_text : Form → List NumberName → List ℕ
further_text form names = flat_map (λ name. separator form ∷ name_text form name) names
