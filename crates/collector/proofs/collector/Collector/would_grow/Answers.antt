use Rattle.page_numbers.specs.Parcels.{as_parcel}
use Rattle.collector.proofs.Adding.{fits_agree, grows_first, grows_second}
use Rattle.collector.proofs.collector.Collector.would_grow.Goals as goal

pub returns-then-missing_grow-clause-grows : goal.returns-then-missing_grow-clause-grows
returns-then-missing_grow-clause-grows c =
    grows_first c.args.self.now (as_parcel c.args.parcel.now) c.in_ok-missing_grow.missing_grow c.if-missing_grow.true
    c.in_ok-missing_grow.ensures.seen

pub returns-then-missing_grow-clause-agree : goal.returns-then-missing_grow-clause-agree
returns-then-missing_grow-clause-agree c =
    fits_agree c.args.self.now (as_parcel c.args.parcel.now) c.look_at_records.ensures.agree
    c.in_ok-missing_grow.ensures.seen.fits c.in_ok-records_grow.ensures.seen.fits

pub returns-else-missing_grow-clause-grows : goal.returns-else-missing_grow-clause-grows
returns-else-missing_grow-clause-grows c =
    grows_second c.args.self.now (as_parcel c.args.parcel.now) c.in_ok-missing_grow.missing_grow
    c.in_ok-records_grow.records_grow c.if-missing_grow.false
    c.in_ok-missing_grow.ensures.seen c.in_ok-records_grow.ensures.seen

pub returns-else-missing_grow-clause-agree : goal.returns-else-missing_grow-clause-agree
returns-else-missing_grow-clause-agree c =
    fits_agree c.args.self.now (as_parcel c.args.parcel.now) c.look_at_records.ensures.agree
    c.in_ok-missing_grow.ensures.seen.fits c.in_ok-records_grow.ensures.seen.fits
