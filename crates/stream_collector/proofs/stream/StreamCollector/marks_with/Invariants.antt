use Rattle.std.proofs.Common.{◌≡◌, ◌⊎◌, ℕ}
use Rattle.collector.proofs.CpuWalks.{Leaves}
use Rattle.stream_collector.specs.Marks.{marks_at, AllSaySomething}
use Rattle.stream_collector.specs.Merging.{joined_marks}
use Rattle.stream_collector.proofs.MarkWalks.{HasMarks}
use Rattle.stream_collector.proofs.stream.StreamCollector.marks_with.Given as goal

abbrev pub invariant-loop-cpu : goal.invariant-loop-cpu
invariant-loop-cpu l = record {
  walk : Leaves (HasMarks l.other.marks)
      (λ cpu. marks_at l.marks.cpus.entries cpu ≡ joined_marks (marks_at l.self.marks cpu) (marks_at l.other.marks cpu))
      l.cpu-iterator;
  either : (cpu : ℕ)
      → (marks_at l.marks.cpus.entries cpu ≡ joined_marks (marks_at l.self.marks cpu) (marks_at l.other.marks cpu))
      ⊎ (marks_at l.marks.cpus.entries cpu ≡ marks_at l.self.marks cpu);
  says : AllSaySomething l.marks.cpus.entries;
}
