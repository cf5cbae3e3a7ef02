use Rattle.std.proofs.Common.{arith}
use Rattle.page_numbers.specs.Parcels.{as_parcel}
use Rattle.collector.proofs.Records.{left_behind}
use Rattle.collector.proofs.entries.records_from.Goals as goal

pub loop-passed-preserved : goal.loop-passed-preserved
loop-passed-preserved c =
    left_behind (as_parcel c.args.parcel.now) c.loop-passed._passed c.loop-passed.records c.next-record.new.self
    c.next-record.result
    (omega arith) c.loop-passed.invariant c.next-record.ensures.steps
