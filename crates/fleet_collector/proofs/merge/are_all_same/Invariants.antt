use Rattle.std.proofs.Common.{map}
use Rattle.stream_collector.specs.Same.{IsSameStream}
use Rattle.fleet_collector.specs.Fleet.{stream_at, entry_seen}
use Rattle.fleet_collector.specs.Merging.{OfEachThere}
use Rattle.fleet_collector.proofs.merge.are_all_same.Given as goal

abbrev pub invariant-loop-stream : goal.invariant-loop-stream
invariant-loop-stream l = OfEachThere (λ id. IsSameStream (stream_at l.one id) (stream_at l.other id))
    (map entry_seen l.yielded)
