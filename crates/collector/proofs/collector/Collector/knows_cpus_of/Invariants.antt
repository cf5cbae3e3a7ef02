use Rattle.collector.specs.Known.{IsCpuKnown}
use Rattle.collector.proofs.CpuWalks.{Leaves}
use Rattle.collector.proofs.collector.Collector.knows_cpus_of.Given as goal

abbrev pub invariant-loop-cpu : goal.invariant-loop-cpu
invariant-loop-cpu l = Leaves (IsCpuKnown l.other) (IsCpuKnown l.self) l.cpu-iterator
