use Rattle.std.proofs.Common.{◌<◌, length, arith}
use Rattle.fleet_collector.proofs.Snapshots.{runs_put}
use Rattle.fleet_collector.proofs.pack.put_runs.Goals as goal

pub loop-parcel-preserved : goal.loop-parcel-preserved
loop-parcel-preserved c =
    let values = c.given_up_parcels-parcel-items.result.now in
    let within : c.loop-parcel.parcel-index < length values = omega arith in
    runs_put c.args.stream.0 values c.loop-parcel.parcel-index c.parcel-item.result c.args.out.now.items
    c.loop-parcel.out.items c.put_run.new.out.items within c.parcel-item.is c.loop-parcel.invariant
    c.in_ok-put_run.ensures
