use Rattle.std.proofs.Common.{◌-◌, ◌^◌, ◌≤◌, length}
use Rattle.trace_dat.specs.kernel_texts.Names.{events_of}
use Rattle.kernel_names.specs.EventTables.{tables_known}
use Rattle.kernel_names.proofs.TableLists.{AreTablesBelow}
use Rattle.kernel_names.proofs.event_tables.EventTables.new.Given as goal

abbrev pub invariant-loop-id : goal.invariant-loop-id
invariant-loop-id l = record {
  bound : l.from ≤ 2 ^ 16;
  rising : length l.tables.lists.items ≤ l.from;
  known : AreTablesBelow (tables_known l.tables) (events_of l.names) l.from;
}

abbrev pub decreases-loop-id : goal.decreases-loop-id
decreases-loop-id l = 2 ^ 16 - l.from
