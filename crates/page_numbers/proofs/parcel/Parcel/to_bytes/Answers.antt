use Rattle.std.proofs.Common.{List, ℕ, sym, subst, arith}
use Rattle.trace_model.specs.ParcelBytes.{DecodesParcel}
use Rattle.trace_model.proofs.images.Parcels.{DecodesParcel-bytes_of_parcel}
use Rattle.page_numbers.specs.Parcels.{as_parcel}
use Rattle.page_numbers.proofs.Writing.{each_reported}
use Rattle.page_numbers.proofs.parcel.Parcel.to_bytes.Goals as goal

pub returns-clause-written : goal.returns-clause-written
returns-clause-written c =
    let reported = c.written.ensures in
    let is = reported.parcel.page_reads in
    each_reported c.written.result _ _ _ _ reported.bytes reported.fits reported.limit
    (λ bytes same fits limit. record {
      bytes_is = same;
      in_time = is.in_time;
      fits = fits;
      limit = limit;
      reads = is.reads;
    })

pub returns-clause-reads : goal.returns-clause-reads
returns-clause-reads c =
    let reported = c.written.ensures in
    let self = c.args.self.now in
    each_reported c.written.result _ _ _ _ (returns-clause-written c) reported.fill reported.limit
    (λ bytes w fill limit.
    let long = w.limit in
    subst (λ (b : List ℕ). DecodesParcel b (as_parcel self)) (sym w.bytes_is)
    (DecodesParcel-bytes_of_parcel (as_parcel self) self.page.time self.page.bytes self.page.size reported.parcel.sound
    (omega arith) w.in_time w.fits (omega arith) w.reads))
