use Rattle.std.proofs.Common.{◌≡◌, ℕ, ◌≤◌}
use Rattle.std.specs.Ordering.{nat_cmp}
use Rattle.std.specs.BTreeMap.{get, btree_map_len}
use Rattle.collector.proofs.ranges.clear_between.Given as goal

abbrev pub invariant-loop-first : goal.invariant-loop-first
invariant-loop-first l = record {
  up_to : (q : ℕ) → q ≤ l.front → get nat_cmp l.spans q ≡ get nat_cmp l.initial.spans q;
  from : (q : ℕ) → l.end ≤ q → get nat_cmp l.spans q ≡ get nat_cmp l.initial.spans q;
}

abbrev pub decreases-loop-first : goal.decreases-loop-first
decreases-loop-first l = btree_map_len l.spans
