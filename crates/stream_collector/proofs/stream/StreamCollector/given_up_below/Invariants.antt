use Rattle.std.proofs.Common.{◌-◌, ◌≤◌}
use Rattle.stream_collector.specs.Stream.{bound_of, HaveNoRecord}
use Rattle.stream_collector.specs.Forgetting.{GivesUpBelow}
use Rattle.stream_collector.proofs.stream.StreamCollector.given_up_below.Given as goal

abbrev pub invariant-loop-first : goal.invariant-loop-first
invariant-loop-first l = record {
  none : HaveNoRecord l.given_up;
  from : bound_of l.self l.cpu.0 ≤ l.at.0;
  up_to : l.at.0 ≤ l.bound;
  so_far : GivesUpBelow l.self l.given_up l.cpu.0 l.at.0;
}

abbrev pub decreases-loop-first : goal.decreases-loop-first
decreases-loop-first l = l.bound - l.at.0
