use Rattle.std.proofs.Common.{ap}
use Rattle.fleet_collector.specs.Fleet.{stream_at, or_empty}
use Rattle.fleet_collector.proofs.Snapshots.{none_snapshot}
use Rattle.fleet_collector.proofs.fleet.Fleet.pack.Goals as goal

pub returns-in-None : goal.returns-in-None
returns-in-None c =
    none_snapshot c.args.stream.0 (stream_at c.args.self.now c.args.stream.0) c.new.result.items
    (ap or_empty c.in-None.ensures.none) c.new.ensures.items
