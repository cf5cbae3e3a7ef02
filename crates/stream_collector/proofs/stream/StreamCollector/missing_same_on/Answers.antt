use Rattle.stream_collector.specs.Stream.{IsMissing}
use Rattle.stream_collector.proofs.SameStreams.{runs_same}
use Rattle.stream_collector.proofs.stream.StreamCollector.missing_same_on.Goals as goal

pub returns : goal.returns
returns c =
    let same = runs_same (IsMissing c.args.self.now c.args.cpu.0) (IsMissing c.args.other.now c.args.cpu.0)
    c.missing.result c.missing-2.result c.missing.ensures c.missing-2.ensures in
    (λ e. same.0 (c.are_same_runs.ensures.0 e), λ all. c.are_same_runs.ensures.1 (same.1 all))
