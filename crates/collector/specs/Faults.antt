-- Where parcels are at odds: under a number that has two records, or that has one and is missing.
use Rattle.std.specs.Prelude.{◌≡◌, ◌≢◌, ℕ, ◌<◌, ◌⊎◌, List}
use Rattle.trace_model.specs.Record.{Record}
use Rattle.trace_model.specs.Parcel.{Parcel}
use Rattle.trace_model.specs.Collection.{Has, Misses, Agree}
use Rattle.collector.specs.declared.fault.AddFault.{AddFault}
use Rattle.collector.specs.declared.fault.AddFault.TheVariants.{Clash, TakenAndMissing, NoMemory}

-- the number has two different records
pub record IsClashAt (parcels : List Parcel) (cpu number : ℕ) : Type 0 where
  pub one : Record
  pub other : Record
  pub has : Has parcels cpu number one
  pub has_other : Has parcels cpu number other
  pub differ : one ≢ other

-- the number has a record and is missing
pub record IsTakenAndMissingAt (parcels : List Parcel) (cpu number : ℕ) : Type 0 where
  pub one : Record
  pub has : Has parcels cpu number one
  pub misses : Misses parcels cpu number

-- of a smaller CPU, or of the same CPU and smaller
abbrev pub IsBeforeNumber : (cpu number other_cpu other : ℕ) → Type 0
IsBeforeNumber cpu number other_cpu other = (cpu < other_cpu) ⊎ ((cpu ≡ other_cpu) × (number < other))

-- the parcels aren't at odds under any number before this one
pub record AgreeBefore (parcels : List Parcel) (cpu number : ℕ) : Type 0 where
  pub no_clash : (c n : ℕ) → IsBeforeNumber c n cpu number → IsClashAt parcels c n → ⊥
  pub none_taken_and_missing : (c n : ℕ) → IsBeforeNumber c n cpu number → IsTakenAndMissingAt parcels c n → ⊥

-- What a fault says of the parcels that were to be put together: this is the least number under which they are at
-- odds, or they agree, and memory was refused.
abbrev pub IsAddFault : List Parcel → AddFault → Type 0
IsAddFault parcels (Clash cpu number) = IsClashAt parcels cpu.0 number.0 × AgreeBefore parcels cpu.0 number.0
IsAddFault parcels (TakenAndMissing cpu number) =
    IsTakenAndMissingAt parcels cpu.0 number.0 × AgreeBefore parcels cpu.0 number.0
IsAddFault parcels NoMemory = Agree parcels
