-- What a collector knows of a number.
use Rattle.std.specs.Prelude.{ℕ, List, Option, Some, None}
use Rattle.trace_model.specs.Record.{Record}
use Rattle.trace_model.specs.Parcel.{Parcel}
use Rattle.trace_model.specs.Collection.{Has, Misses}
use Rattle.collector.specs.declared.ranges.Content.{Content}
use Rattle.collector.specs.declared.ranges.Content.TheVariants.{Kept, Missing}
use Rattle.collector.specs.Index.{IsIn}

-- neither a record nor missing
pub record IsUnknown (parcels : List Parcel) (cpu number : ℕ) : Type 0 where
  pub no_record : (r : Record) → Has parcels cpu number r → ⊥
  pub not_missing : Misses parcels cpu number → ⊥

-- the number's record is one of the kept parcel at this index, or it is missing, or neither
abbrev pub IsContentAt : List Parcel → ℕ → ℕ → Option Content → Type 0
IsContentAt parcels cpu number (Some (Kept index)) = IsIn parcels index cpu number
IsContentAt parcels cpu number (Some Missing) = Misses parcels cpu number
IsContentAt parcels cpu number None = IsUnknown parcels cpu number
