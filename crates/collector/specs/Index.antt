-- What an index states of the numbers of each CPU, and which kept parcels it is the index of.
use Rattle.std.specs.Prelude.{◌≡◌, ℕ, ◌<◌, ◌≤◌, ◌+◌, ◌↔◌, List, length, Some, None, MatchOption, IsSome, IsSomeAnd}
use Rattle.std.specs.List.{slice_get}
use Rattle.std.specs.Ordering.{nat_cmp}
use Rattle.std.specs.BTreeMap.{get}
use Rattle.trace_model.specs.Record.{Record}
use Rattle.trace_model.specs.Parcel.{Parcel, IsPairOf}
use Rattle.trace_model.specs.Collection.{Has, Misses}
use Rattle.collector.specs.declared.ranges.Content.{Content}
use Rattle.collector.specs.declared.ranges.Content.TheVariants.{Kept, Missing}
use Rattle.collector.specs.declared.ranges.Ranges.{Ranges}
use Rattle.collector.specs.declared.index.Index.{Index}
use Rattle.collector.specs.Ranges.{HasContent, IsStated, AreApart, IsCopy}
use Rattle.collector.specs.Sound.{AreSound}

-- these are the ranges of the CPU
abbrev pub HasRanges : Index → ℕ → Ranges → Type 0
HasRanges index cpu ranges = get nat_cmp index.cpus cpu ≡ Some ranges

-- the ranges of the CPU state this of the number
pub record ReportsOf (index : Index) (cpu number : ℕ) (content : Content) : Type 0 where
  pub ranges : Ranges
  pub at : HasRanges index cpu ranges
  pub reports : HasContent ranges number content

-- the index has ranges of the CPU
abbrev pub HasCpu : Index → ℕ → Type 0
HasCpu index cpu = IsSome (get nat_cmp index.cpus cpu)

-- no range of a CPU reaches into a later one
abbrev pub AreAllApart : Index → Type 0
AreAllApart index = (cpu : ℕ) (ranges : Ranges) → HasRanges index cpu ranges → AreApart ranges

-- something is stated of each CPU that has ranges
abbrev pub AreAllStated : Index → Type 0
AreAllStated index = (cpu : ℕ) (ranges : Ranges) → HasRanges index cpu ranges → IsStated ranges

-- both have ranges of the same CPUs, and the same ones
abbrev pub IsIndexCopy : Index → Index → Type 0
IsIndexCopy index copy = (cpu : ℕ) → MatchOption (get nat_cmp index.cpus cpu) (get nat_cmp copy.cpus cpu ≡ None)
    (λ ranges. IsSomeAnd (get nat_cmp copy.cpus cpu) (λ other. IsCopy ranges other))

-- both state the same of each number of this CPU
abbrev pub ReportSameOf : Index → Index → ℕ → Type 0
ReportSameOf old new cpu = (number : ℕ) (content : Content)
    → (ReportsOf old cpu number content ↔ ReportsOf new cpu number content)

-- the kept parcel at this index has a record under the number
pub record IsIn (parcels : List Parcel) (index cpu number : ℕ) : Type 0 where
  pub parcel : Parcel
  pub at : slice_get parcels index ≡ Some parcel
  pub cpu_is : cpu ≡ parcel.cpu
  pub from : parcel.first ≤ number
  pub below : number < parcel.first + length parcel.records

-- some kept parcel has this record under the number, and the index states which
pub record IsFoundBy (parcels : List Parcel) (index : Index) (cpu number : ℕ) (r : Record) : Type 0 where
  pub kept : ℕ
  pub parcel : Parcel
  pub reports : ReportsOf index cpu number (Kept kept)
  pub at : slice_get parcels kept ≡ Some parcel
  pub pair : IsPairOf parcel cpu number r

-- The index states exactly what the kept parcels have and miss, and at most one thing of a number. It has no ranges of
-- other CPUs.
pub record IsIndexed (parcels : List Parcel) (index : Index) : Type 0 where
  pub sound : AreSound parcels
  pub apart : AreAllApart index
  pub stated : AreAllStated index
  pub one : (cpu number : ℕ) (content other : Content)
      → ReportsOf index cpu number content → ReportsOf index cpu number other → content ≡ other
  pub kept : (cpu number i : ℕ) → ReportsOf index cpu number (Kept i) → IsIn parcels i cpu number
  pub missing : (cpu number : ℕ) → ReportsOf index cpu number Missing → Misses parcels cpu number
  pub has : (cpu number : ℕ) (r : Record) → Has parcels cpu number r → IsFoundBy parcels index cpu number r
  pub misses : (cpu number : ℕ) → Misses parcels cpu number → ReportsOf index cpu number Missing
