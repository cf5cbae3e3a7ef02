use Rattle.collector.proofs.RunsLeft.{missing_runs_left}
use Rattle.collector.proofs.collector.Collector.missing.Goals as goal

pub returns : goal.returns
returns c = missing_runs_left c.args.self.now c.args.cpu.0 c.parcels-parcels.ensures.sound
