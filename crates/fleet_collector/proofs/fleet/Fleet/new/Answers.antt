use Rattle.std.proofs.Common.{ℕ, List, [], sym, subst}
use Rattle.stream_collector.specs.Stream.{Stream}
use Rattle.fleet_collector.specs.Told.{IsFleetOf}
use Rattle.fleet_collector.proofs.Telling.{told_by_none}
use Rattle.fleet_collector.proofs.fleet.Fleet.new.Goals as goal

pub returns-clause-told : goal.returns-clause-told
returns-clause-told c =
    subst (λ (f : List (ℕ × Stream)). IsFleetOf [] f) (sym c.new.ensures.empty) record { streams = told_by_none }
