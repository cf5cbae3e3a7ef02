use Rattle.std.proofs.Common.{ℕ, ◌-◌, ◌^◌, ◌<◌, ◌≤◌}
use Rattle.stream_collector.specs.Stream.{bound_of, HasOutcome}
use Rattle.stream_collector.proofs.stream.StreamCollector.watermark.Given as goal

abbrev pub invariant-loop-self : goal.invariant-loop-self
invariant-loop-self l = record {
  from : bound_of l.self l.cpu.0 ≤ l.at.0;
  accounted : (n : ℕ) → bound_of l.self l.cpu.0 ≤ n → n < l.at.0 → HasOutcome l.self l.cpu.0 n;
}

abbrev pub decreases-loop-self : goal.decreases-loop-self
decreases-loop-self l = 2 ^ 64 - l.at.0
