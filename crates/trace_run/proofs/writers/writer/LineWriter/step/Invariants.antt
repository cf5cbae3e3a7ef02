use Rattle.std.proofs.Common.{◌≤◌, ◌-◌, Ok}
use Rattle.trace_run.specs.writers.Asking.{Asks}
use Rattle.trace_run.specs.writers.Runs.{HasMadeCalls}
use Rattle.trace_run.proofs.writers.writer.LineWriter.step.Given as goal

abbrev pub invariant-loop-made : goal.invariant-loop-made
invariant-loop-made g l = record {
  few : l.made ≤ l.count;
  part_way : HasMadeCalls l.depth l.made l.fn.self l.self;
  asks : Asks g.G.Gate.answers l.gate l.cpu.0 l.fn.self l.self (Ok tt);
}

abbrev pub decreases-loop-made : goal.decreases-loop-made
decreases-loop-made g l = l.count - l.made
