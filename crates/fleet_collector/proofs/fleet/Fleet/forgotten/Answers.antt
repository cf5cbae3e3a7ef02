use Rattle.fleet_collector.proofs.fleet.Fleet.forgotten.Goals as goal

pub returns : goal.returns
returns c =
    let a = c.change.ensures in
    record {
      marked = record { unchanged = a.unchanged; there = a.there; others = a.others; refused = a.refused };
      raises = a.changed.raises;
      given_up = a.changed.given_up;
      fault = a.changed.fault;
    }
