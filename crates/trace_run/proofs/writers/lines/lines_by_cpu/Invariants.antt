use Rattle.std.proofs.Common.{◌≡◌, vec_len}
use Rattle.trace_run.specs.writers.LineIndexes.{AreIndexed}
use Rattle.trace_run.proofs.writers.lines.lines_by_cpu.Given as goal

abbrev pub invariant-loop-line_index : goal.invariant-loop-line_index
invariant-loop-line_index l = record {
  count : vec_len l.lists ≡ l.script.cpus;
  placed : AreIndexed l.script.commands l.line_index l.lists.items;
}
