-- The words of the contracts of `parcels`.
pub use Rattle.trace_model.specs.declared.limits.TheConstants.{MAX_CPUS}
pub use Rattle.trace_model.specs.Parcel.{Parcel}
pub use Rattle.trace_model.specs.ParcelBytes.{DecodesParcel, FirstParcelFault, IsParcel, ParcelCause}
pub use Rattle.page_numbers.specs.Parcels.{ParcelValue, AreAlike, HaveSameRecords, as_parcel, as_parcels}
pub use Rattle.page_numbers.specs.Parcels.{entries_of_parcel, fitted_parcel, parcel_of_page}
pub use Rattle.page_numbers.specs.Faults.{HasReading, IsRefused, MissesTooMany, NumbersOverflow, parcel_fault}
pub use Rattle.page_numbers.specs.Written.{IsPageRead, IsWrittenAs}
