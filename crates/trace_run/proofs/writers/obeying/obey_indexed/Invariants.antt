use Rattle.std.proofs.Common.{take, Ok}
use Rattle.line_model.specs.Lines.{writer_lines}
use Rattle.line_model.specs.ReplayedLines.{commands_of}
use Rattle.trace_run.specs.writers.Asking.{Asks}
use Rattle.trace_run.specs.writers.LineWriters.{MakesLines}
use Rattle.trace_run.proofs.writers.obeying.obey_indexed.Given as goal

abbrev pub invariant-loop-index : goal.invariant-loop-index
invariant-loop-index g l = record {
  lines : MakesLines (take l.index (writer_lines l.cpu.0 (commands_of l.script.commands))) l.fn.writer l.writer;
  asks : Asks g.G.Gate.answers l.gate l.cpu.0 l.fn.writer l.writer (Ok tt);
}
