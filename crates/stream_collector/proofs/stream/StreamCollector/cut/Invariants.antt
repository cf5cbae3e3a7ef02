use Rattle.stream_collector.proofs.Frontiers.{IsCutWalk}
use Rattle.stream_collector.proofs.stream.StreamCollector.cut.Given as goal

abbrev pub invariant-loop-entry : goal.invariant-loop-entry
invariant-loop-entry l = IsCutWalk l.self l.fn.cpu.0 l.fn.moment.0 l.entry-iterator
