use Rattle.std.proofs.Common.{take}
use Rattle.fleet_collector.specs.Snapshot.{ArePut, parcel_pieces}
use Rattle.fleet_collector.proofs.pack.put_parcels.Given as goal

abbrev pub invariant-loop-parcel : goal.invariant-loop-parcel
invariant-loop-parcel l = ArePut l.initial.out.items l.out.items
    (parcel_pieces l.stream.0 (take l.parcel-index l.parcel-items))
