use Rattle.std.proofs.Common.{length, ap, ◌∙◌, arith}
use Rattle.trace_model.proofs.images.Parcels.{length-bytes_of_parcel}
use Rattle.page_numbers.specs.Parcels.{as_parcel}
use Rattle.parcel_streams.proofs.pack.pack_parcel.Goals as goal

pub seal-requires-clause-limit : goal.seal-requires-clause-limit
seal-requires-clause-limit c =
    let parcel = c.in_ok-trimmed.field-0 in
    let written = c.in_ok-body.ensures.written in
    let limit = written.limit in
    omega (
      arith,
      ap length (c.deref.ensures.value ∙ written.bytes_is),
      length-bytes_of_parcel (as_parcel parcel)
          parcel.page.time parcel.page.bytes parcel.page.size written.fits,
    )
