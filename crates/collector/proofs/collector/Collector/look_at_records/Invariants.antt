use Rattle.std.proofs.Common.{◌-◌, ◌≤◌}
use Rattle.page_numbers.specs.Parcels.{as_parcel}
use Rattle.collector.specs.Adding.{IsLookedAt}
use Rattle.collector.proofs.collector.Collector.look_at_records.Given as goal

abbrev pub invariant-loop-at : goal.invariant-loop-at
invariant-loop-at l = record {
  from : l.parcel.page.first ≤ l.at;
  up_to : l.at ≤ l.end;
  seen : IsLookedAt l.self (as_parcel l.parcel) l.parcel.page.first l.at l.grows;
}

abbrev pub decreases-loop-at : goal.decreases-loop-at
decreases-loop-at l = l.end - l.at
