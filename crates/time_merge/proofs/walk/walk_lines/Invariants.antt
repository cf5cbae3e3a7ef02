use Rattle.std.proofs.Common.{map}
use Rattle.time_merge.specs.Lines.{line_seen}
use Rattle.time_merge.specs.Walks.{TakesAll}
use Rattle.time_merge.proofs.walk.walk_lines.Given as goal

abbrev pub invariant-loop-line : goal.invariant-loop-line
invariant-loop-line g l = record {
  can : g.T.TakesLines.can_take (l.taker, l.writer);
  taken : TakesAll g.T.TakesLines.takes (l.initial.taker, l.initial.writer) (map line_seen l.yielded)
      (l.taker, l.writer);
}
