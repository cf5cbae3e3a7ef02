use Rattle.std.proofs.Common.{◌-◌, ◌^◌, ℕ, ◌<◌}
use Rattle.collector.specs.Known.{IsCpuKnown}
use Rattle.collector.specs.Beside.{FitTogether}
use Rattle.collector.proofs.CpuWalks.{Leaves}
use Rattle.collector.proofs.collector.Collector.look_at_all.Given as goal

abbrev pub invariant-loop-cpu : goal.invariant-loop-cpu
invariant-loop-cpu l =
    Leaves (IsCpuKnown l.other) (λ c. (n : ℕ) → n < 2 ^ 64 - 1 → FitTogether l.self l.other c n) l.cpu-iterator
