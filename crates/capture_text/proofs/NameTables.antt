-- The tables of fields, at their places.
use Rattle.std.proofs.Common.{◌≡◌, ℕ, zero, suc, ◌<◌, List, [], ◌∷◌, length, get_or, map, Option, Some, None, Bor, refl}
use Rattle.std.proofs.Common.{sym, ap, arith}
use Rattle.std.specs.Prelude.{is_some, if◌then◌else◌}
use Rattle.std.specs.Option.{option_map}
use Rattle.std.specs.List.{slice_get}
use Rattle.trace_dat.specs.kernel_texts.Names.{event_seen}
use Rattle.event_fields.specs.declared.field.Field.{Field}
use Rattle.event_fields.specs.Lines.{EventField, field_seen}
use Rattle.kernel_names.specs.declared.tables.FieldTable.{FieldTable}
use Rattle.kernel_names.specs.EventTables.{table_for}
use Rattle.kernel_names.specs.FieldTables.{Table}
use Rattle.capture_text.specs.declared.beside.FieldNames.{FieldNames}
use Rattle.capture_text.specs.Beside.{has_addresses, source_or_table}
use Rattle.capture_text.specs.Lent.{function_known, symbols_lent}
use Rattle.capture_text.specs.Sources.{HasTablesOf, event_source, given_tables, source_at, table_at}

module _ (names : FieldNames) (fields : List EventField) (place : ℕ) (field : EventField)
    (has : HasTablesOf names fields) (at : slice_get fields place ≡ Some field) where
  own_table : (tables : Option (Bor (List (Option FieldTable)))) → names.tables ≡ tables
      → table_at (given_tables tables) place
      ≡ (if is_some tables then table_for names.event.format.now field else None)
  own_table None none = refl
  own_table (Some tables) some = has tables some place field at

  -- the source at the place of a field is the field's
  pub own_source : source_at names place field ≡ event_source names field
  own_source =
      ap (source_or_table (if has_addresses (event_seen names.event) field
      then option_map function_known (symbols_lent names.symbols) else None)) (own_table names.tables refl)

-- the field at a place, without its place in memory
pub field_at : (fields : List Field) (place : ℕ) (default field : Field) → place < length fields
    → field ≡ get_or fields place default → slice_get (map field_seen fields) place ≡ Some (field_seen field)
field_at [] place default field below is = absurd (omega (arith, below))
field_at (one ∷ fields) zero default field below is = ap (λ f. Some (field_seen f)) (sym is)
field_at (one ∷ fields) (suc place) default field below is =
    field_at fields place default field (omega (arith, below)) is
