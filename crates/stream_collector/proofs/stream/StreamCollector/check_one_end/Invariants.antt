use Rattle.std.proofs.Common.{◌≡◌, ℕ, Some}
use Rattle.collector.proofs.CpuWalks.{Leaves}
use Rattle.stream_collector.specs.Stream.{end_of}
use Rattle.stream_collector.proofs.MarkWalks.{HasMarks}
use Rattle.stream_collector.proofs.stream.StreamCollector.check_one_end.Given as goal

abbrev pub invariant-loop-cpu : goal.invariant-loop-cpu
invariant-loop-cpu l = Leaves (HasMarks l.self.marks)
    (λ cpu. (a b : ℕ) → end_of l.self cpu ≡ Some a → end_of l.other cpu ≡ Some b → a ≡ b) l.cpu-iterator
