use Rattle.std.proofs.Common.{refl, sym, arith, ◌∙◌}
use Rattle.std.proofs.lemmas.Bool.{true≢false}
use Rattle.std.proofs.lemmas.Result.{err_from_is_err_and}
use Rattle.page_numbers.specs.Parcels.{as_parcel}
use Rattle.parcel_streams.proofs.Fitted.{IsTight-from}
use Rattle.parcel_streams.proofs.Bodies.{reported, fitted_fault, IsParcelBody-read}
use Rattle.parcel_streams.proofs.body.read_parcel.Goals as goal

pub unfitted_fault-requires : goal.unfitted_fault-requires
unfitted_fault-requires c = λ parcel d fitted. true≢false
    (sym ((c.is_fitted.ensures parcel d).1 fitted) ∙ c.if-not-is_fitted.true)

pub returns-in_err-from_bytes-clause-fault : goal.returns-in_err-from_bytes-clause-fault
returns-in_err-from_bytes-clause-fault c =
    let body = c.args.body.now in
    let p = err_from_is_err_and c.from_residual.result c.from_residual.ensures.1 in
    let fault = c.in_err-from_bytes.field-0.0 in
    let read = c.in_err-from_bytes.ensures in
    let is = reported body _ fault (λ i. omega (arith, c.type_inv.body i)) refl read.fault read.read_back in
    rw (p.1, p.2) (fitted_fault body fault is (λ parcel d. (c.is_fitted.ensures parcel d).0 c.if-not-is_fitted.false))

pub returns-clause-parcel : goal.returns-clause-parcel
returns-clause-parcel c =
    let body = c.args.body.now in
    let read = c.in_ok-from_bytes.ensures in
    let parcel = c.in_ok-from_bytes.field-0 in
    IsParcelBody-read body parcel read.reads read.page
    (IsTight-from body (as_parcel parcel) read.reads
    ((c.is_fitted.ensures (as_parcel parcel) read.reads).0 c.if-not-is_fitted.false))
