-- A parcel beside those that are kept, number by number.
use Rattle.std.specs.Prelude.{◌≡◌, ℕ, ◌<◌, ◌≤◌, Bool, List, MatchBool}
use Rattle.trace_model.specs.Record.{Record}
use Rattle.trace_model.specs.Parcel.{Parcel, IsPairOf, IsMissingOf}
use Rattle.trace_model.specs.Collection.{Has, Misses}

-- the parcel isn't at odds with the others under this number
pub record FitsAt (parcels : List Parcel) (parcel : Parcel) (cpu number : ℕ) : Type 0 where
  pub one_record : (r other : Record) → Has parcels cpu number r → IsPairOf parcel cpu number other → r ≡ other
  pub not_missing : (r : Record) → Has parcels cpu number r → IsMissingOf parcel cpu number → ⊥
  pub not_taken : (r : Record) → Misses parcels cpu number → IsPairOf parcel cpu number r → ⊥

-- what the parcel has or misses under this number, the others have or miss
pub record IsThere (parcels : List Parcel) (parcel : Parcel) (cpu number : ℕ) : Type 0 where
  pub has : (r : Record) → IsPairOf parcel cpu number r → Has parcels cpu number r
  pub misses : IsMissingOf parcel cpu number → Misses parcels cpu number

-- The parcel fits from one number up to another one. It adds something there or under another number, or all that
-- it has and misses between them is there.
pub record IsLookedAt (parcels : List Parcel) (parcel : Parcel) (from end : ℕ) (adds : Bool) : Type 0 where
  pub fits : (n : ℕ) → from ≤ n → n < end → FitsAt parcels parcel parcel.cpu n
  pub there : MatchBool adds ((n : ℕ) × (IsThere parcels parcel parcel.cpu n → ⊥))
      ((n : ℕ) → from ≤ n → n < end → IsThere parcels parcel parcel.cpu n)
