use Rattle.std.proofs.Common.{◌≡◌, ℕ, ◌<◌, Some}
use Rattle.collector.proofs.CpuWalks.{Leaves}
use Rattle.stream_collector.specs.Stream.{end_of}
use Rattle.stream_collector.specs.Marking.{IsNotOpen}
use Rattle.stream_collector.proofs.MarkWalks.{HasMarks}
use Rattle.stream_collector.proofs.stream.StreamCollector.check_reach.Given as goal

abbrev pub invariant-loop-cpu : goal.invariant-loop-cpu
invariant-loop-cpu l = Leaves (HasMarks l.self.marks)
    (λ cpu. (end n : ℕ) → end_of l.self cpu ≡ Some end → IsNotOpen l.other cpu n → n < end) l.cpu-iterator
