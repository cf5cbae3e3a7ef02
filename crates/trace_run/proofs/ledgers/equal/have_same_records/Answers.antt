use Rattle.std.proofs.Common.{◌+◌, arith}
use Rattle.page_numbers.specs.Parcels.{as_parcel}
use Rattle.trace_run.proofs.EqualRecords.{differ_nowhere}
use Rattle.trace_run.proofs.ledgers.equal.have_same_records.Goals as goal

pub returns-then-count : goal.returns-then-count
returns-then-count c =
    let found = c.first_difference.ensures in
    let own = c.count.ensures in let others = c.count-2.ensures in let more = c.count-then-count.ensures in
    let sizes = c.if-count.true in let first = c.first-first.ensures.first in
    differ_nowhere (as_parcel c.args.parcel.now) (as_parcel c.args.other.now) c.first-first.result.0
    (c.first-first.result.0 + c.count-then-count.result) c.first_difference.result c.is_none.result
    c.requires (omega arith) (omega arith) (omega arith) found.differ found.none c.is_none.ensures
