use Rattle.std.proofs.Common.{◌≡◌, ℕ, suc, Bool, false, List, drop, ◌<◌, ◌≤◌, length, slice_index_or}
use Rattle.collect_command.specs.Patterns.{begins_with, IsRow}
use Rattle.collect_command.proofs.pattern.put_byte.Given as goal

abbrev pub invariant-loop-at : goal.invariant-loop-at
invariant-loop-at l = record {
  count : length l.row.items ≡ suc (length l.text);
  passed : (f : List ℕ → Bool) → IsRow f l.text l.fn.row.items → (k : ℕ) → k < l.at
      → slice_index_or l.row.items k false ≡ begins_with l.wanted f (drop k l.text);
  left : (k : ℕ) → l.at ≤ k → slice_index_or l.row.items k false ≡ slice_index_or l.fn.row.items k false;
}
