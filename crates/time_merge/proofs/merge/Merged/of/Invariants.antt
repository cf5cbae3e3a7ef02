use Rattle.std.proofs.Common.{◌≡◌, length}
use Rattle.time_merge.specs.Heads.{heads_of}
use Rattle.time_merge.specs.Sources.{AreOwnRanks}
use Rattle.time_merge.proofs.merge.Merged.of.Given as goal

abbrev pub invariant-loop-number : goal.invariant-loop-number
invariant-loop-number g l = record {
  count : length l.ranks.items ≡ l.number;
  each : AreOwnRanks (heads_of g.S.LineSource.head l.sources.items) l.ranks.items;
}
