use Rattle.fleet_collector.proofs.Joined.{same_at_all}
use Rattle.fleet_collector.proofs.fleet.Fleet.same.Goals as goal

pub returns-then-are_all_same : goal.returns-then-are_all_same
returns-then-are_all_same c = (
  λ yes. same_at_all c.args.self.now c.args.other.now (c.are_all_same.ensures.0 c.if-are_all_same.true)
      (c.are_all_same-then-are_all_same.ensures.0 yes),
  λ same. c.are_all_same-then-are_all_same.ensures.1 (λ k entry at. same entry.0),
)
