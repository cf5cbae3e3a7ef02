use Rattle.std.proofs.Common.{◌≡◌, map, length}
use Rattle.kernel_names.specs.Entries.{entry_seen}
use Rattle.kernel_names.specs.FieldTables.{symbol_names}
use Rattle.kernel_names.proofs.tables.first_symbol.Given as goal

abbrev pub invariant-loop-left : goal.invariant-loop-left
invariant-loop-left l =
    symbol_names (map entry_seen l.left) l.number ≡ symbol_names (map entry_seen l.entries) l.number

abbrev pub decreases-loop-left : goal.decreases-loop-left
decreases-loop-left l = length l.left
