use Rattle.std.proofs.Common.{ℕ, ◌-◌, ◌<◌, ◌≤◌}
use Rattle.collector.specs.Runs.{IsOfKind}
use Rattle.collector.proofs.kinds.end_of_run.Given as goal

abbrev pub invariant-loop-at : goal.invariant-loop-at
invariant-loop-at l = record {
  from : l.first ≤ l.at;
  up_to : l.at ≤ l.end;
  run : (m : ℕ) → l.first ≤ m → m < l.at → IsOfKind l.kind l.collector l.cpu.0 m;
}

abbrev pub decreases-loop-at : goal.decreases-loop-at
decreases-loop-at l = l.end - l.at
