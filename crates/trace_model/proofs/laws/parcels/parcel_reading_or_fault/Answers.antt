use Rattle.trace_model.proofs.images.Parcels.{parcel_read_or_faulty, DecodesParcel-FirstParcelFault}
use Rattle.trace_model.proofs.images.Parcels.{DecodesParcel-unique, FirstParcelFault-unique}
use Rattle.trace_model.proofs.laws.parcels.parcel_reading_or_fault.Goals as goal

pub returns : goal.returns
returns c =
    record {
      one = parcel_read_or_faulty;
      reading_is_no_fault = DecodesParcel-FirstParcelFault;
      one_reading = DecodesParcel-unique;
      one_fault = FirstParcelFault-unique;
    }
