-- What an audit compares: the parcels that a collector keeps, and those that were taken in a run.
use Rattle.std.specs.Prelude.{◌≡◌, ℕ, ◌≤◌, List, [], ◌∷◌, Contains}
use Rattle.std.specs.List.{flat_map}
use Rattle.trace_model.specs.Parcel.{Parcel}
use Rattle.trace_model.specs.Collection.{IsBelow}
use Rattle.page_numbers.specs.Parcels.{as_parcels}
use Rattle.trace_run.specs.declared.ledgers.ledger.Ledger.{Ledger}

-- the parcels of a ledger
abbrev pub taken_of : Ledger → List Parcel
taken_of ledger = as_parcels ledger.taken.items

-- all parcels that were taken in the run, ledger by ledger
abbrev pub taken_in : List Ledger → List Parcel
taken_in ledgers = flat_map taken_of ledgers

-- each kept parcel equals one that was taken: in its CPU, fill, first number, missed count and records
abbrev pub WereTaken : (kept taken : List Parcel) → Type 0
WereTaken kept taken = (parcel : Parcel) → Contains kept parcel → Contains taken parcel

-- what each taken parcel has and misses, the kept ones have and miss
abbrev pub AreHeld : (kept taken : List Parcel) → Type 0
AreHeld kept taken = (parcel : Parcel) → Contains taken parcel → IsBelow (parcel ∷ []) kept

-- The collector that keeps these parcels is the one of the run in which those were taken.
pub record IsAudited (kept taken : List Parcel) : Type 0 where
  pub were_taken : WereTaken kept taken
  pub are_held : AreHeld kept taken

-- a kept parcel that equals none of those that were taken
abbrev pub IsStray : (kept taken : List Parcel) → Parcel → Type 0
IsStray kept taken parcel = Contains kept parcel × (Contains taken parcel → ⊥)

-- a taken parcel of which the kept ones lack a record or a missing number
abbrev pub IsLacking : (kept taken : List Parcel) → Parcel → Type 0
IsLacking kept taken parcel = Contains taken parcel × (IsBelow (parcel ∷ []) kept → ⊥)

-- The first key isn't after the other one, by CPU and then by fill.
pub record IsUpTo (cpu fill other_cpu other_fill : ℕ) : Type 0 where
  pub cpu_le : cpu ≤ other_cpu
  pub fill_le : cpu ≡ other_cpu → fill ≤ other_fill

-- One of these parcels has this CPU and fill, and none is before it, by CPU and then by fill.
pub record IsLeast (these : Parcel → Type 0) (cpu fill : ℕ) : Type 0 where
  pub parcel : Parcel
  pub is_one : these parcel
  pub cpu_is : parcel.cpu ≡ cpu
  pub fill_is : parcel.fill ≡ fill
  pub least : (other : Parcel) → these other → IsUpTo cpu fill other.cpu other.fill
