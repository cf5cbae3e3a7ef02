use Rattle.std.proofs.Common.{ℕ}
use Rattle.std.specs.List.{Contains}
use Rattle.collector.proofs.CpuWalks.{Leaves}
use Rattle.stream_collector.specs.Frontier.{IsNotAfter, IsOfOne}
use Rattle.stream_collector.proofs.stream.StreamCollector.least_of.Given as goal

abbrev pub invariant-loop-cpu : goal.invariant-loop-cpu
invariant-loop-cpu l = record {
  walk : Leaves (Contains l.fn.cpus) (IsNotAfter l.self l.least) l.cpu-iterator;
  before : (cpu : ℕ) → IsNotAfter l.self l.fn.before cpu → IsNotAfter l.self l.least cpu;
  of_one : IsOfOne l.self l.least;
}
