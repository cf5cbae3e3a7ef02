use Rattle.collector.proofs.CpuWalks.{Leaves}
use Rattle.collector.specs.Known.{IsCpuKnown}
use Rattle.stream_collector.specs.Same.{IsKnownSame}
use Rattle.stream_collector.proofs.stream.StreamCollector.known_same.Given as goal

abbrev pub invariant-loop-cpu : goal.invariant-loop-cpu
invariant-loop-cpu l = Leaves (IsCpuKnown l.self.parcels) (IsKnownSame l.self l.other) l.cpu-iterator
