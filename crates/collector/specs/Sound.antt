-- What holds of each kept parcel by itself.
use Rattle.std.specs.Prelude.{◌≡◌, ℕ, List, Some}
use Rattle.std.specs.List.{slice_get}
use Rattle.trace_model.specs.Parcel.{Parcel}
use Rattle.trace_model.specs.ParcelBytes.{IsParcel}

-- each is a parcel whose numbers fit
abbrev pub AreSound : List Parcel → Type 0
AreSound parcels = (k : ℕ) (parcel : Parcel) → slice_get parcels k ≡ Some parcel → IsParcel parcel
