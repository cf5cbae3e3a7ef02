use Rattle.collector.proofs.Ends.{NoneBehind, numbers_left}
use Rattle.collector.proofs.ranges.Ranges.end.Given as goal

abbrev pub invariant-loop-range : goal.invariant-loop-range
invariant-loop-range l = NoneBehind l.self l.range

abbrev pub decreases-loop-range : goal.decreases-loop-range
decreases-loop-range l = numbers_left l.range
