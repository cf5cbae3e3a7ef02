-- Parcels that are found by their fills, and what a collector keeps of one that is added.
use Rattle.std.specs.Prelude.{◌≡◌, ℕ, ◌<◌, List, [], ◌∷◌, ◌++◌, Some}
use Rattle.std.specs.List.{slice_get}
use Rattle.trace_model.specs.Parcel.{Parcel}
use Rattle.trace_model.specs.Collection.{IsBelow}
use Rattle.collector.specs.declared.added.Added.{Added}
use Rattle.collector.specs.declared.added.Added.TheVariants.{New, Known}

-- the fills of parcels rise
abbrev pub AreRising : List Parcel → Type 0
AreRising parcels = (j k : ℕ) (earlier later : Parcel)
    → j < k
    → slice_get parcels j ≡ Some earlier
    → slice_get parcels k ≡ Some later
    → earlier.fill < later.fill

-- what a collector keeps after a parcel was added: the parcel too, if it adds something
abbrev pub Adds : Added → (old : List Parcel) → Parcel → (new : List Parcel) → Type 0
Adds New old parcel new = (IsBelow (parcel ∷ []) old → ⊥) × (new ≡ old ++ parcel ∷ [])
Adds Known old parcel new = IsBelow (parcel ∷ []) old × (new ≡ old)
