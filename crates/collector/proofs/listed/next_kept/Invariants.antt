use Rattle.std.proofs.Common.{ℕ, ◌-◌, ◌^◌, ◌<◌, ◌≤◌}
use Rattle.trace_model.specs.Record.{Record}
use Rattle.trace_model.specs.Collection.{Has}
use Rattle.collector.proofs.listed.next_kept.Given as goal

abbrev pub invariant-loop-at : goal.invariant-loop-at
invariant-loop-at l = record {
  from : l.number ≤ l.at;
  passed : (m : ℕ) (r : Record) → l.number ≤ m → m < l.at → Has l.collector l.cpu.0 m r → ⊥;
}

abbrev pub decreases-loop-at : goal.decreases-loop-at
decreases-loop-at l = 2 ^ 64 - 1 - l.at
