use Rattle.std.proofs.Common.{take}
use Rattle.page_numbers.specs.Parcels.{as_parcels}
use Rattle.fleet_collector.specs.Snapshot.{ArePut, runs_of_all}
use Rattle.fleet_collector.proofs.pack.put_runs.Given as goal

abbrev pub invariant-loop-parcel : goal.invariant-loop-parcel
invariant-loop-parcel l = ArePut l.initial.out.items l.out.items
    (runs_of_all l.stream.0 (as_parcels (take l.parcel-index l.parcel-items)))
