-- Which parcels a merged collector keeps.
use Rattle.std.specs.Prelude.{◌≡◌, ◌⊎◌, List, [], ◌∷◌, ◌++◌}
use Rattle.trace_model.specs.Parcel.{Parcel}
use Rattle.trace_model.specs.Collection.{IsBelow}

-- the parcel is appended to these if it adds something to them
abbrev pub IsKeptBehind : List Parcel → Parcel → List Parcel → Type 0
IsKeptBehind old parcel new = (IsBelow (parcel ∷ []) old × (new ≡ old))
    ⊎ ((IsBelow (parcel ∷ []) old → ⊥) × (new ≡ old ++ parcel ∷ []))

-- those here, then the others that add something to those before them, in their order
abbrev pub IsMerged : List Parcel → List Parcel → List Parcel → Type 0
IsMerged old [] new = new ≡ old
IsMerged old (parcel ∷ others) new = (mid : List Parcel) × IsKeptBehind old parcel mid × IsMerged mid others new
