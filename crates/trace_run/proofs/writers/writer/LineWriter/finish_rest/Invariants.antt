use Rattle.std.proofs.Common.{ℕ, Ok, length}
use Rattle.trace_run.specs.writers.Asking.{Asks}
use Rattle.trace_run.specs.writers.LineWriters.{MakesRest}
use Rattle.trace_run.proofs.writers.writer.LineWriter.finish_rest.Given as goal

abbrev pub invariant-loop-cpu : goal.invariant-loop-cpu
invariant-loop-cpu g l =
    ((count : ℕ) × MakesRest count l.fn.self l.self) × Asks g.G.Gate.answers l.gate l.cpu.0 l.fn.self l.self (Ok tt)

abbrev pub decreases-loop-cpu : goal.decreases-loop-cpu
decreases-loop-cpu g l = length l.self.writer.part.frames
