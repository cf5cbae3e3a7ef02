use Rattle.std.proofs.Common.{◌≡◌, ℕ, suc, Bool, false, List, drop, ◌<◌, ◌≤◌, length, slice_index_or}
use Rattle.collect_command.specs.Patterns.{some_end, IsRow}
use Rattle.collect_command.proofs.pattern.put_star.Given as goal

abbrev pub invariant-loop-at : goal.invariant-loop-at
invariant-loop-at l = record {
  within : l.at ≤ length l.text;
  count : length l.row.items ≡ suc (length l.text);
  passed : (f : List ℕ → Bool) → IsRow f l.text l.fn.row.items → (k : ℕ) → l.at ≤ k → k ≤ length l.text
      → slice_index_or l.row.items k false ≡ some_end f (drop k l.text);
  left : (k : ℕ) → k < l.at → slice_index_or l.row.items k false ≡ slice_index_or l.fn.row.items k false;
}

abbrev pub decreases-loop-at : goal.decreases-loop-at
decreases-loop-at l = l.at
