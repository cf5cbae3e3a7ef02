use Rattle.std.proofs.Common.{ℕ, IsSome, map}
use Rattle.fleet_collector.specs.Fleet.{known_of, entry_seen}
use Rattle.fleet_collector.specs.Merging.{AreMerges, OfEachThere}
use Rattle.fleet_collector.proofs.merge.put_all_merged.Given as goal

abbrev pub invariant-loop-stream : goal.invariant-loop-stream
invariant-loop-stream l = record {
  merges : AreMerges l.one l.other l.joined;
  there : OfEachThere (λ id. IsSome (known_of l.joined id)) (map entry_seen l.yielded);
  stays : (id : ℕ) → IsSome (known_of l.initial.joined id) → IsSome (known_of l.joined id);
}
