use Rattle.time_merge.proofs.SourceWalks.{IsUnderway, turns_of}
use Rattle.time_merge.proofs.source_walk.walk_sources.Given as goal

abbrev pub invariant-loop-merged : goal.invariant-loop-merged
invariant-loop-merged g l = record {
  can : g.T.TakesLines.can_take (l.taker, l.writer);
  underway : IsUnderway g.S.LineSource.head g.S.LineSource.passes g.T.TakesLines.takes l.fn.sources.items
      (l.fn.taker, l.fn.writer) l.merged (l.taker, l.writer);
}

abbrev pub decreases-loop-merged : goal.decreases-loop-merged
decreases-loop-merged g l = turns_of g.S.LineSource.turns l.merged
