use Rattle.std.proofs.Common.{◌≤◌, length, drop}
use Rattle.collect_command.specs.Patterns.{matches, IsRow}
use Rattle.collect_command.proofs.pattern.matches.Given as goal

abbrev pub invariant-loop-at : goal.invariant-loop-at
invariant-loop-at l = record {
  within : l.at ≤ length l.pattern;
  row : IsRow (matches (drop l.at l.pattern)) l.text l.row.items;
}

abbrev pub decreases-loop-at : goal.decreases-loop-at
decreases-loop-at l = l.at
