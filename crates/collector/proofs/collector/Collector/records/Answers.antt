use Rattle.collector.proofs.RecordsLeft.{all_records_from}
use Rattle.collector.proofs.collector.Collector.records.Goals as goal

pub returns : goal.returns
returns c = all_records_from c.args.self.now c.args.cpu.0 c.records_from.result c.records_from.ensures.from
