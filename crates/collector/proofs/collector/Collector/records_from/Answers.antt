use Rattle.std.proofs.Common.{arith}
use Rattle.collector.proofs.RecordsLeft.{records_are_left}
use Rattle.collector.proofs.Unique.{rest_is_left}
use Rattle.collector.proofs.collector.Collector.records_from.Goals as goal

pub returns : goal.returns
returns c =
    let known = c.parcels-parcels.ensures in
    record {
      from = records_are_left c.args.self.now c.args.cpu.0 c.args.number.0 known.agree known.sound (omega arith);
      rest = rest_is_left c.args.self.now c.args.cpu.0 c.args.number.0 known.agree known.sound (omega arith);
    }
