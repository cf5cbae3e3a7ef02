use Rattle.collector.proofs.CpuWalks.{Leaves}
use Rattle.collector.specs.Known.{IsCpuKnown}
use Rattle.stream_collector.specs.Same.{IsUndeliveredSame}
use Rattle.stream_collector.proofs.stream.StreamCollector.undelivered_same.Given as goal

abbrev pub invariant-loop-cpu : goal.invariant-loop-cpu
invariant-loop-cpu l = Leaves (IsCpuKnown l.self.given_up) (IsUndeliveredSame l.self l.other) l.cpu-iterator
