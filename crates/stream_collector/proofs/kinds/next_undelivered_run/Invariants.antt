use Rattle.std.proofs.Common.{◌-◌, ◌≤◌}
use Rattle.collector.specs.FirstRun.{HoldsOfNone}
use Rattle.stream_collector.specs.Kinds.{IsOfKind}
use Rattle.stream_collector.specs.declared.kinds.Kind.TheVariants.{Undelivered}
use Rattle.stream_collector.proofs.kinds.next_undelivered_run.Given as goal

abbrev pub invariant-loop-first : goal.invariant-loop-first
invariant-loop-first l = record {
  from : l.fn.from.0 ≤ l.at.0;
  none : HoldsOfNone (IsOfKind Undelivered l.stream l.cpu.0) l.fn.from.0 l.at.0;
}

abbrev pub decreases-loop-first : goal.decreases-loop-first
decreases-loop-first l = l.end.0 - l.at.0
