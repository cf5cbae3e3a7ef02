use Rattle.std.proofs.Common.{◌≡◌, take, map}
use Rattle.event_fields.specs.Lines.{field_seen}
use Rattle.kernel_names.specs.EventTables.{table_by, tables_seen}
use Rattle.kernel_names.proofs.event_tables.tables_for.Given as goal

abbrev pub invariant-loop-field : goal.invariant-loop-field
invariant-loop-field l =
    tables_seen l.tables.items ≡ map (table_by l.calls) (map field_seen (take l.field-index l.fields))
