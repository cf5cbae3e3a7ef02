use Rattle.trace_run.specs.writers.Asking.{HavePassed}
use Rattle.trace_run.proofs.writers.writer.LineWriter.pass_closed.Given as goal

abbrev pub invariant-loop-closed : goal.invariant-loop-closed
invariant-loop-closed g l = HavePassed g.G.Gate.answers l.gate l.cpu.0 l.done l.closed
