use Rattle.fleet_collector.proofs.fleet.Fleet.mark_undelivered.Goals as goal

pub returns : goal.returns
returns c =
    let a = c.change.ensures in
    record {
      marked = record { unchanged = a.unchanged; there = a.there; others = a.others; refused = a.refused };
      known = a.changed.known;
      new_exactly = a.changed.new_exactly;
      given_up = a.changed.given_up;
      parcels = a.changed.parcels;
      marks = a.changed.marks;
      within = a.changed.within;
      fault = a.changed.fault;
    }
