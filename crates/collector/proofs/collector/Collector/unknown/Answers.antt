use Rattle.collector.proofs.RunsLeft.{unknown_runs_left}
use Rattle.collector.proofs.collector.Collector.unknown.Goals as goal

pub returns : goal.returns
returns c = unknown_runs_left c.args.self.now c.args.cpu.0 c.args.end
