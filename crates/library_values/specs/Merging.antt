-- What becomes of a fleet that is merged with another one.
use Rattle.std.specs.Prelude.{◌≡◌, ℕ, List, ◌++◌, Option, IfSome, IfNone, OnSome}
use Rattle.parcel_streams.specs.Pieces.{Packed}
use Rattle.stream_collector.specs.Stream.{Stream}
use Rattle.fleet_collector.specs.declared.merge_fault.FleetMergeFault.{FleetMergeFault}
use Rattle.fleet_collector.specs.Told.{IsFleetOf}
use Rattle.fleet_collector.specs.Merging.{IsFleetMerge, AllFitTogether, IsFleetMergeFault}
use Rattle.library_values.specs.declared.listed_fleet.listed.ListedFleet.{ListedFleet}

-- The two fit together, and are merged: a fleet of some pieces and one of others are afterwards the fleet of all of
-- them. Or there is a fault, and nothing changes. The listing stays.
pub record MergesSo (old : ListedFleet) (other : List (ℕ × Stream)) (fault : Option FleetMergeFault) (new : ListedFleet)
    : Type 0 where
  pub merged : IfNone fault (IsFleetMerge old.fleet other new.fleet)
  pub fit : IfNone fault (AllFitTogether old.fleet other)
  pub told : IfNone fault
      ((pieces others : List Packed)
      → IsFleetOf pieces old.fleet → IsFleetOf others other → IsFleetOf (pieces ++ others) new.fleet)
  pub fault_is : IfSome fault (IsFleetMergeFault old.fleet other)
  pub refused : OnSome fault (new ≡ old)
  pub listing : new ≡ record old { fleet = new.fleet }
