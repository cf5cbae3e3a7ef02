-- The least key of the parcels at fault, as it is looked for: one parcel after the other.
use Rattle.std.specs.Prelude.{◌≡◌, ◌⊎◌, List, Contains, Option, Some, None}
use Rattle.trace_model.specs.Parcel.{Parcel}
use Rattle.trace_run.specs.declared.ledgers.least.ParcelKey.{ParcelKey}
use Rattle.trace_run.specs.ledgers.Audit.{IsUpTo, IsLeast}

-- a parcel's CPU and fill
abbrev pub key_of : Parcel → ParcelKey
key_of parcel = record { cpu = record { 0 = parcel.cpu }; fill = record { 0 = parcel.fill } }

-- the key isn't after the other one
abbrev pub IsKeyUpTo : ParcelKey → ParcelKey → Type 0
IsKeyUpTo key other = IsUpTo key.cpu.0 key.fill.0 other.cpu.0 other.fill.0

-- It is the key of this parcel or the one that was found before, and after neither.
pub record IsLeastKey (found : Option ParcelKey) (parcel : Parcel) (key : ParcelKey) : Type 0 where
  pub one_of : (key ≡ key_of parcel) ⊎ (found ≡ Some key)
  pub up_to_parcel : IsKeyUpTo key (key_of parcel)
  pub up_to_found : (other : ParcelKey) → found ≡ Some other → IsKeyUpTo key other

-- Of these parcels, each is good, or this is the least key of those that aren't.
abbrev pub IsLeastFault : (these : List Parcel) → (good : Parcel → Type 0) → Option ParcelKey → Type 0
IsLeastFault these good None = (parcel : Parcel) → Contains these parcel → good parcel
IsLeastFault these good (Some key) =
    IsLeast (λ parcel. Contains these parcel × (good parcel → ⊥)) key.cpu.0 key.fill.0
