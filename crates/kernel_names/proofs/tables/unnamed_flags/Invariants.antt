use Rattle.std.proofs.Common.{◌≡◌, map, length}
use Rattle.kernel_names.specs.Entries.{entry_seen}
use Rattle.kernel_names.specs.FieldTables.{flag_rest}
use Rattle.kernel_names.proofs.tables.unnamed_flags.Given as goal

abbrev pub invariant-loop-entry : goal.invariant-loop-entry
invariant-loop-entry l = flag_rest (map entry_seen l.left) l.bits ≡ flag_rest (map entry_seen l.entries) l.number

abbrev pub decreases-loop-entry : goal.decreases-loop-entry
decreases-loop-entry l = length l.left
