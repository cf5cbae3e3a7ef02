-- What a collector holds: records under their CPU and number, and missing numbers. It is defined by
-- a list of parcels: the union of what each of them has and misses, whatever their order and repeats.
use Rattle.std.specs.Prelude.{◌≡◌, ℕ, List, Some}
use Rattle.std.specs.List.{slice_get}
use Rattle.trace_model.specs.Record.{Record}
use Rattle.trace_model.specs.Parcel.{Parcel, IsPairOf, IsMissingOf}

-- some parcel of these has the record under this CPU and number
pub record Has (parcels : List Parcel) (cpu number : ℕ) (r : Record) : Type 0 where
  pub index : ℕ
  pub parcel : Parcel
  pub at : slice_get parcels index ≡ Some parcel
  pub pair : IsPairOf parcel cpu number r

-- some parcel of these misses the number
pub record Misses (parcels : List Parcel) (cpu number : ℕ) : Type 0 where
  pub index : ℕ
  pub parcel : Parcel
  pub at : slice_get parcels index ≡ Some parcel
  pub missing : IsMissingOf parcel cpu number

-- No number has two records, and none has one and is missing: only such parcels make a collection.
pub record Agree (parcels : List Parcel) : Type 0 where
  pub one_record : (cpu number : ℕ) (r other : Record)
      → Has parcels cpu number r
      → Has parcels cpu number other
      → r ≡ other
  pub not_missing : (cpu number : ℕ) (r : Record)
      → Has parcels cpu number r
      → Misses parcels cpu number
      → ⊥

-- all that the first have and miss, the others have and miss
pub record IsBelow (parcels others : List Parcel) : Type 0 where
  pub has : (cpu number : ℕ) (r : Record) → Has parcels cpu number r → Has others cpu number r
  pub misses : (cpu number : ℕ) → Misses parcels cpu number → Misses others cpu number

-- both have and miss the same
pub record IsSame (parcels others : List Parcel) : Type 0 where
  pub below : IsBelow parcels others
  pub above : IsBelow others parcels

-- The join of two collections: a collection above both, and below all that is above both.
pub record IsLeastUpperBound (parcels others join : List Parcel) : Type 0 where
  pub agree : Agree join
  pub left : IsBelow parcels join
  pub right : IsBelow others join
  pub least : (above : List Parcel) → IsBelow parcels above → IsBelow others above → IsBelow join above
