use Rattle.fleet_collector.proofs.Snapshots.{is_snapshot}
use Rattle.fleet_collector.proofs.pack.packed.Goals as goal

pub returns : goal.returns
returns c =
    is_snapshot c.args.stream.0 c.args.known.now c.new-out.result.items c.put_marks.new.out.items
    c.put_runs.new.out.items c.put_parcels.new.out.items c.new-out.ensures.items c.in_ok-put_marks.ensures
    c.in_ok-put_runs.ensures c.in_ok-put_parcels.ensures
