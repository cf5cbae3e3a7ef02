use Rattle.std.proofs.Common.{ℕ, List, subst, map}
use Rattle.std.specs.List.Sorted.{IsStrictlyIncreasing}
use Rattle.std.proofs.lemmas.Map.Keys.{IsStrictlyIncreasing-from_sorted}
use Rattle.stream_collector.specs.Stream.{Stream}
use Rattle.fleet_collector.specs.Fleet.{AllHaveKnownCpus}
use Rattle.fleet_collector.proofs.fleet.Fleet.streams.Goals as goal

pub returns-clause-rising : goal.returns-clause-rising
returns-clause-rising c = subst (λ (fleet : List (ℕ × Stream)). IsStrictlyIncreasing (map (λ e. e.0) fleet))
    c.self.view_is
    (IsStrictlyIncreasing-from_sorted _ c.iter.ensures.ordered)

pub returns-clause-known_cpus : goal.returns-clause-known_cpus
returns-clause-known_cpus c = subst AllHaveKnownCpus c.self.view_is c.self.invariant
