use Rattle.std.proofs.Common.{◌≡◌, drop}
use Rattle.trace_dat.specs.kernel_texts.Lines.{value_from, value_in}
use Rattle.trace_dat.proofs.kernel_texts.lines.value_of.Given as goal

abbrev pub invariant-loop-at : goal.invariant-loop-at
invariant-loop-at l = value_from l.key l.is_start (drop l.at l.text) ≡ value_in l.key l.text
