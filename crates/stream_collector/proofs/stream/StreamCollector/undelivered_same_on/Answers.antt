use Rattle.stream_collector.specs.Stream.{IsUndelivered}
use Rattle.stream_collector.proofs.SameStreams.{runs_same}
use Rattle.stream_collector.proofs.stream.StreamCollector.undelivered_same_on.Goals as goal

pub returns : goal.returns
returns c =
    let same = runs_same (IsUndelivered c.args.self.now c.args.cpu.0) (IsUndelivered c.args.other.now c.args.cpu.0)
    c.undelivered.result c.undelivered-2.result c.undelivered.ensures c.undelivered-2.ensures in
    (λ e. same.0 (c.are_same_runs.ensures.0 e), λ all. c.are_same_runs.ensures.1 (same.1 all))
