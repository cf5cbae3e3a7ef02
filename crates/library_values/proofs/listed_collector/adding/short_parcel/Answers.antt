use Rattle.std.proofs.Common.{Err, ap, ◌∙◌, arith}
use Rattle.page_numbers.specs.declared.fault.ParcelFault.{ParcelFault}
use Rattle.page_numbers.specs.Parcels.{as_parcel}
use Rattle.library_values.proofs.ReadParts.{parcel_more, no_memory_for}
use Rattle.library_values.proofs.listed_collector.adding.short_parcel.Goals as goal

pub returns-in-Ok-clause-reads : goal.returns-in-Ok-clause-reads
returns-in-Ok-clause-reads c =
    let part = c.read_part.ensures in
    parcel_more c.read_part.result.now part.0 c.args.bytes.now (as_parcel c.in-Ok.parcel) part.1 (omega arith)
    c.in-Ok.ensures.reads

pub returns-in-Err-NoMemory-clause-fault : goal.returns-in-Err-NoMemory-clause-fault
returns-in-Err-NoMemory-clause-fault c =
    let part = c.read_part.ensures in
    let read = c.from_bytes-2 in
    let refused = c.in-Err-NoMemory.is ∙ ap (λ (f : ParcelFault). Err f) c.in-Err-NoMemory.field-0-is in
    no_memory_for c.read_part.result.now part.0 c.args.bytes.now read.result part.1 (omega arith)
    (read.ensures.no_memory refused) refused read.ensures.fault
