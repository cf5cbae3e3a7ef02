use Rattle.fleet_collector.proofs.Forgotten.{IsForgottenUpTo}
use Rattle.fleet_collector.proofs.fleet.Fleet.forget_before.Given as goal

abbrev pub invariant-loop-id : goal.invariant-loop-id
invariant-loop-id l = IsForgottenUpTo l.id-items l.initial.self l.self l.moment.0 l.id-index
