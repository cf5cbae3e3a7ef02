use Rattle.std.proofs.Common.{◌-◌, ◌≤◌}
use Rattle.page_numbers.specs.Parcels.{as_parcel}
use Rattle.collector.specs.Adding.{IsLookedAt}
use Rattle.collector.proofs.collector.Collector.look_at_missing.Given as goal

abbrev pub invariant-loop-at : goal.invariant-loop-at
invariant-loop-at l = record {
  from : l.parcel.page.first - l.parcel.missed ≤ l.at;
  up_to : l.at ≤ l.first;
  seen : IsLookedAt l.self (as_parcel l.parcel) (l.parcel.page.first - l.parcel.missed) l.at l.grows;
}

abbrev pub decreases-loop-at : goal.decreases-loop-at
decreases-loop-at l = l.first - l.at
