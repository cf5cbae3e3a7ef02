use Rattle.std.proofs.Common.{◌≡◌, ◌≤◌, map, length}
use Rattle.kernel_names.specs.Entries.{entry_seen}
use Rattle.kernel_names.specs.FieldTables.{flag_names, flag_rest}
use Rattle.kernel_names.proofs.tables.first_flag.Given as goal

abbrev pub invariant-loop-left : goal.invariant-loop-left
invariant-loop-left l = record {
  within : length l.left ≤ length l.entries;
  names : flag_names (map entry_seen l.left) l.number ≡ flag_names (map entry_seen l.entries) l.number;
  rest : flag_rest (map entry_seen l.left) l.number ≡ flag_rest (map entry_seen l.entries) l.number;
}

abbrev pub decreases-loop-left : goal.decreases-loop-left
decreases-loop-left l = length l.left
