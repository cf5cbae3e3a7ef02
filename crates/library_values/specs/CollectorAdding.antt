-- What becomes of bytes that are to be added to a collector.
use Rattle.std.specs.Prelude.{◌≡◌, ◌↔◌, ℕ, List, [], ◌∷◌, ◌++◌, Result, Ok, Err}
use Rattle.trace_model.specs.Parcel.{Parcel}
use Rattle.trace_model.specs.Collection.{Agree, IsBelow, IsSame}
use Rattle.trace_model.specs.ParcelBytes.{DecodesParcel, ParcelCause, FirstParcelFault}
use Rattle.page_numbers.specs.declared.fault.ParcelFault.{ParcelFault}
use Rattle.page_numbers.specs.declared.fault.ParcelFault.TheVariants.{NoMemory as no_parcel_memory}
use Rattle.page_numbers.specs.Faults.{parcel_fault, HasReading}
use Rattle.collector.specs.declared.added.Added.{Added}
use Rattle.collector.specs.declared.added.Added.TheVariants.{New, Known}
use Rattle.collector.specs.declared.fault.AddFault.{AddFault}
use Rattle.collector.specs.declared.fault.AddFault.TheVariants.{Clash, TakenAndMissing, NoMemory as no_memory_to_add}
use Rattle.collector.specs.Faults.{IsAddFault}
use Rattle.library_values.specs.declared.listed_collector.adding.AddRefusal.{AddRefusal}
use Rattle.library_values.specs.declared.listed_collector.adding.AddRefusal.TheVariants.{Parcel as NoParcel}
use Rattle.library_values.specs.declared.listed_collector.adding.AddRefusal.TheVariants.{Add as NotAdded}

-- The parcel is added to these, or all of it was known.
pub record HasAdded (old : List Parcel) (parcel : Parcel) (added : Added) (new : List Parcel) : Type 0 where
  pub if_new : added ≡ New → new ≡ old ++ parcel ∷ []
  pub if_known : added ≡ Known → new ≡ old
  pub known_exactly : (added ≡ Known) ↔ IsBelow (parcel ∷ []) old
  pub union : IsSame new (old ++ parcel ∷ [])
  pub agree : Agree (old ++ parcel ∷ [])

-- The bytes read as a parcel, and it is added to these, or all of it was known.
pub record IsAdded (old : List Parcel) (bytes : List ℕ) (added : Added) (new : List Parcel) : Type 0 where
  pub parcel : Parcel
  pub reads : DecodesParcel bytes parcel
  pub added_is : HasAdded old parcel added new

-- The bytes can't be read as a parcel: this is their first fault, or memory was refused for the parcel that they are.
pub record IsNoParcel (bytes : List ℕ) (fault : ParcelFault) : Type 0 where
  pub first : (cause : ParcelCause) → (fault ≡ parcel_fault cause) ↔ FirstParcelFault bytes cause
  pub no_memory : fault ≡ no_parcel_memory → HasReading bytes

-- The bytes read as a parcel, which is at odds with these, or memory was refused to add what is new in it.
pub record IsNotAdded (old : List Parcel) (bytes : List ℕ) (fault : AddFault) : Type 0 where
  pub parcel : Parcel
  pub reads : DecodesParcel bytes parcel
  pub fault_is : IsAddFault (old ++ parcel ∷ []) fault
  pub no_memory : fault ≡ no_memory_to_add → IsBelow (parcel ∷ []) old → ⊥

-- What is answered says what the parcels are then.
abbrev pub AddsSo : List Parcel → List ℕ → Result Added AddRefusal → List Parcel → Type 0
AddsSo old bytes (Ok added) new = IsAdded old bytes added new
AddsSo old bytes (Err (NoParcel fault)) new = IsNoParcel bytes fault × (new ≡ old)
AddsSo old bytes (Err (NotAdded fault)) new = IsNotAdded old bytes fault × (new ≡ old)

-- What is answered to a parcel that a page is says what the parcels are then. Memory may be refused before it is looked
-- whether the parcel is at odds with these, or known.
abbrev pub AddsPage : List Parcel → Parcel → Result Added AddFault → List Parcel → Type 0
AddsPage old parcel (Ok added) new = HasAdded old parcel added new
AddsPage old parcel (Err (Clash cpu number)) new = IsAddFault (old ++ parcel ∷ []) (Clash cpu number) × (new ≡ old)
AddsPage old parcel (Err (TakenAndMissing cpu number)) new =
    IsAddFault (old ++ parcel ∷ []) (TakenAndMissing cpu number) × (new ≡ old)
AddsPage old parcel (Err no_memory_to_add) new = new ≡ old
