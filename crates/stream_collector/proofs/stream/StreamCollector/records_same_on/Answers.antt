use Rattle.stream_collector.proofs.SameStreams.{records_same}
use Rattle.stream_collector.proofs.stream.StreamCollector.records_same_on.Goals as goal

pub returns : goal.returns
returns c =
    let same = records_same c.args.self.now c.args.other.now c.args.cpu.0 c.records.result c.records-2.result
    c.records.ensures c.records-2.ensures in
    (λ e. same.0 (c.are_same_records.ensures.0 e), λ all. c.are_same_records.ensures.1 (same.1 all))
