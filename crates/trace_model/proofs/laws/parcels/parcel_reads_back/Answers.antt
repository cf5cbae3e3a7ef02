use Rattle.trace_model.proofs.images.Parcels.{length-bytes_of_parcel, DecodesParcel-bytes_of_parcel}
use Rattle.trace_model.proofs.laws.parcels.parcel_reads_back.Goals as goal

pub returns : goal.returns
returns c = record { length_is = length-bytes_of_parcel; read_back = DecodesParcel-bytes_of_parcel }
