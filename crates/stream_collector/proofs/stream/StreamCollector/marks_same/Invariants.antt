use Rattle.std.proofs.Common.{◌≡◌}
use Rattle.collector.proofs.CpuWalks.{Leaves}
use Rattle.stream_collector.specs.Marks.{marks_at}
use Rattle.stream_collector.proofs.MarkWalks.{HasMarks}
use Rattle.stream_collector.proofs.stream.StreamCollector.marks_same.Given as goal

abbrev pub invariant-loop-cpu : goal.invariant-loop-cpu
invariant-loop-cpu l = Leaves (HasMarks l.self.marks)
    (λ cpu. marks_at l.self.marks cpu ≡ marks_at l.other.marks cpu) l.cpu-iterator
