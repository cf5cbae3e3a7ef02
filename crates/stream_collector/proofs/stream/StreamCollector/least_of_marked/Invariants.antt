use Rattle.collector.proofs.CpuWalks.{Leaves}
use Rattle.stream_collector.specs.Frontier.{IsNotAfter, IsOfOne}
use Rattle.stream_collector.proofs.MarkWalks.{HasMarks}
use Rattle.stream_collector.proofs.stream.StreamCollector.least_of_marked.Given as goal

abbrev pub invariant-loop-cpu : goal.invariant-loop-cpu
invariant-loop-cpu l = record {
  walk : Leaves (HasMarks l.self.marks) (IsNotAfter l.self l.least) l.cpu-iterator;
  of_one : IsOfOne l.self l.least;
}
