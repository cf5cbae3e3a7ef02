use Rattle.std.proofs.Common.{◌≡◌, ℕ, ◌-◌, ◌≤◌, length}
use Rattle.kernel_names.specs.EventTables.{tables_known}
use Rattle.kernel_names.proofs.event_tables.EventTables.fill.Given as goal

abbrev pub invariant-loop-alloc : goal.invariant-loop-alloc
invariant-loop-alloc l = record {
  inside : length l.self.lists.items ≤ l.end;
  same : (n : ℕ) → tables_known l.self n ≡ tables_known l.fn.self n;
}

abbrev pub decreases-loop-alloc : goal.decreases-loop-alloc
decreases-loop-alloc l = l.end - length l.self.lists.items
