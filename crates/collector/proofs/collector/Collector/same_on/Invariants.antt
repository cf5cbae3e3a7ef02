use Rattle.std.proofs.Common.{◌-◌, ℕ, ◌<◌}
use Rattle.collector.specs.Beside.{IsSameAt}
use Rattle.collector.proofs.collector.Collector.same_on.Given as goal

abbrev pub invariant-loop-at : goal.invariant-loop-at
invariant-loop-at l = (n : ℕ) → n < l.at → IsSameAt l.self l.other l.cpu.0 n

abbrev pub decreases-loop-at : goal.decreases-loop-at
decreases-loop-at l = 18446744073709551615 - l.at
