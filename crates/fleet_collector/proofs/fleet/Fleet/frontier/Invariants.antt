use Rattle.std.proofs.Common.{map}
use Rattle.fleet_collector.specs.Fleet.{entry_seen}
use Rattle.fleet_collector.specs.Frontier.{IsOfSome}
use Rattle.fleet_collector.proofs.Forgotten.{AreNotBefore}
use Rattle.fleet_collector.proofs.fleet.Fleet.frontier.Given as goal

abbrev pub invariant-loop-stream : goal.invariant-loop-stream
invariant-loop-stream l = record {
  of_some : IsOfSome l.self l.least;
  least : AreNotBefore (map entry_seen l.yielded) l.least;
}
