use Rattle.std.proofs.Common.{◌≡◌, map}
use Rattle.fleet_collector.specs.Fleet.{entry_seen}
use Rattle.fleet_collector.proofs.fleet.Fleet.ids.Given as goal

abbrev pub invariant-loop-stream : goal.invariant-loop-stream
invariant-loop-stream l = l.ids.items ≡ map (λ e. e.0) (map entry_seen l.yielded)
