-- What is known of a CPU's numbers: which have a record or are missing, up to where all are known, and from where on
-- two lists of parcels have and miss the same.
use Rattle.std.specs.Prelude.{◌≡◌, ℕ, ◌+◌, ◌<◌, ◌≤◌, ◌⊎◌, ◌↔◌, Bool, not, leb, IsTrue, List, length, filter, Some}
use Rattle.std.specs.List.{slice_get, Contains}
use Rattle.std.specs.List.Sorted.{IsStrictlyIncreasing}
use Rattle.trace_model.specs.Record.{Record}
use Rattle.trace_model.specs.Parcel.{Parcel}
use Rattle.trace_model.specs.Collection.{Has, Misses}
use Rattle.trace_model.specs.declared.numbers.CpuId.{CpuId}

-- some parcel has a record under the number
abbrev pub IsTaken : List Parcel → (cpu number : ℕ) → Type 0
IsTaken parcels cpu number = (r : Record) × Has parcels cpu number r

-- the number has a record, or is missing
abbrev pub IsKnown : List Parcel → (cpu number : ℕ) → Type 0
IsKnown parcels cpu number = IsTaken parcels cpu number ⊎ Misses parcels cpu number

-- all numbers of the CPU below this one are known
abbrev pub IsFinal : List Parcel → (cpu bound : ℕ) → Type 0
IsFinal parcels cpu bound = (number : ℕ) → number < bound → IsKnown parcels cpu number

-- something is known of a number of the CPU
abbrev pub IsCpuKnown : List Parcel → (cpu : ℕ) → Type 0
IsCpuKnown parcels cpu = (number : ℕ) × IsKnown parcels cpu number

-- The list has each CPU of which something is known once, and no other, in rising order.
pub record AreCpusOf (parcels : List Parcel) (cpus : List ℕ) : Type 0 where
  pub rising : IsStrictlyIncreasing cpus
  pub known : (cpu : ℕ) → (Contains cpus cpu ↔ IsCpuKnown parcels cpu)

-- the number of a CPU
abbrev pub cpu_number : CpuId → ℕ
cpu_number cpu = cpu.0

-- whether all that the parcel has and misses is below the bound of its CPU
abbrev pub ends_below : (bounds : ℕ → ℕ) → Parcel → Bool
ends_below bounds parcel = leb (parcel.first + length parcel.records) (bounds parcel.cpu)

-- so it is with each of these
abbrev pub AllEndBelow : (bounds : ℕ → ℕ) → List Parcel → Type 0
AllEndBelow bounds parcels = (k : ℕ) (parcel : Parcel)
    → slice_get parcels k ≡ Some parcel → IsTrue (ends_below bounds parcel)

-- the others, in their order
abbrev pub without_ended : (bounds : ℕ → ℕ) → List Parcel → List Parcel
without_ended bounds parcels = filter (λ parcel. not (ends_below bounds parcel)) parcels

-- both have and miss the same from the bound of each CPU on
pub record IsSameFrom (bounds : ℕ → ℕ) (parcels others : List Parcel) : Type 0 where
  pub has : (cpu number : ℕ) (r : Record) → bounds cpu ≤ number → (Has parcels cpu number r ↔ Has others cpu number r)
  pub misses : (cpu number : ℕ) → bounds cpu ≤ number → (Misses parcels cpu number ↔ Misses others cpu number)
