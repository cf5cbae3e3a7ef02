use Rattle.std.proofs.Common.{◌≡◌, ◌⊎◌, ℕ}
use Rattle.std.specs.List.{Contains}
use Rattle.collector.proofs.CpuWalks.{Leaves}
use Rattle.stream_collector.specs.Marks.{marks_at, AllSaySomething}
use Rattle.stream_collector.specs.Frontier.{HasCutMarks}
use Rattle.stream_collector.proofs.stream.StreamCollector.put_cuts.Given as goal

abbrev pub invariant-loop-cpu : goal.invariant-loop-cpu
invariant-loop-cpu l = record {
  walk : Leaves (Contains l.fn.cpus) (HasCutMarks l.self l.moment.0 l.marks.cpus.entries) l.cpu-iterator;
  so_far : (cpu : ℕ) → HasCutMarks l.self l.moment.0 l.marks.cpus.entries cpu
      ⊎ (marks_at l.marks.cpus.entries cpu ≡ marks_at l.self.marks cpu);
  stay : (cpu : ℕ) → HasCutMarks l.self l.moment.0 l.fn.marks.cpus.entries cpu
      → HasCutMarks l.self l.moment.0 l.marks.cpus.entries cpu;
  says : AllSaySomething l.marks.cpus.entries;
}
