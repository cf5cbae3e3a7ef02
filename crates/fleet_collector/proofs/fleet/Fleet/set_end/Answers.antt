use Rattle.fleet_collector.proofs.fleet.Fleet.set_end.Goals as goal

pub returns : goal.returns
returns c =
    let a = c.change.ensures in
    record {
      marked = record { unchanged = a.unchanged; there = a.there; others = a.others; refused = a.refused };
      known = a.changed.known;
      first = a.changed.first;
      ended = a.changed.ended;
      nothing_beyond = a.changed.nothing_beyond;
      fault = a.changed.fault;
    }
