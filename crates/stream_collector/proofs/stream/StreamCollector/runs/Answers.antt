use Rattle.stream_collector.proofs.KindRuns.{all_runs}
use Rattle.stream_collector.proofs.stream.StreamCollector.runs.Goals as goal

pub returns : goal.returns
returns c = all_runs c.args.kind c.args.self.now c.args.cpu.0 c.args.number c.args.end
