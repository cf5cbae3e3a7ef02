use Rattle.std.proofs.Common.{◌≡◌, ℕ, Ok, length}
use Rattle.trace_run.specs.writers.Asking.{Asks}
use Rattle.trace_run.specs.writers.Distance.{distance}
use Rattle.trace_run.specs.writers.Runs.{HasMadeCalls}
use Rattle.trace_run.proofs.writers.writer.LineWriter.finish.Given as goal

abbrev pub invariant-loop-self : goal.invariant-loop-self
invariant-loop-self g l = record {
  deep : length l.self.writer.part.frames ≡ l.depth;
  part_way : (count : ℕ) × HasMadeCalls l.depth count l.fn.self l.self;
  asks : Asks g.G.Gate.answers l.gate l.cpu.0 l.fn.self l.self (Ok tt);
}

abbrev pub decreases-loop-self : goal.decreases-loop-self
decreases-loop-self g l = distance l.self.writer
