-- What is recovered of a region, beside what its reader took before.
use Rattle.std.specs.Prelude.{◌≡◌, ℕ, ◌+◌, ◌≤◌, ◌⊎◌, List, [], Some}
use Rattle.std.specs.List.{slice_get}
use Rattle.trace_model.specs.Record.{Record}
use Rattle.trace_model.specs.Parcel.{Parcel}
use Rattle.trace_model.specs.Collection.{Agree}
use Rattle.page_numbers.specs.Parcels.{HaveSameRecords}
use Rattle.ring_region.specs.Order.{end_of}
use Rattle.ring_region.specs.Regions.{Recovered}

-- the parcel's records are those of the list from its first number on
abbrev pub IsPartOf : List Record → Parcel → Type 0
IsPartOf records parcel = (index : ℕ) (r : Record)
    → slice_get parcel.records index ≡ Some r
    → slice_get records (parcel.first + index) ≡ Some r

-- one of these is of the same CPU, and has the same records under the same numbers
pub record HasRecordsAmong (parcels : List Parcel) (parcel : Parcel) : Type 0 where
  pub index : ℕ
  pub other : Parcel
  pub at : slice_get parcels index ≡ Some other
  pub cpu_is : parcel.cpu ≡ other.cpu
  pub same : HaveSameRecords parcel other

-- What was taken before. The parcels agree; and those of this CPU have parts of the list of its records, and end at or
-- below the number that the region states as taken.
pub record AreTaken (records : List Record) (cpu taken : ℕ) (before : List Parcel) : Type 0 where
  pub agree : Agree before
  pub parts : (k : ℕ) (parcel : Parcel)
      → slice_get before k ≡ Some parcel
      → parcel.cpu ≡ cpu
      → IsPartOf records parcel
  pub ends : (k : ℕ) (parcel : Parcel)
      → slice_get before k ≡ Some parcel
      → parcel.cpu ≡ cpu
      → end_of parcel ≤ taken

-- What is left in the slots. Each page has a part of the list of the CPU's records, and was taken, or begins at or
-- above what was; and, if no slot is damaged, each page that was taken is there, or ends below all that are.
--
-- So it is in a ring's region, whenever its process is killed. A slot up to its commit has records of one fill that
-- were committed, from the fill's first number on: commit is set to 0 before the slot's page is begun again, then
-- stands for whole records alone. The page that was taken last stays in the reader's slot until the next take, which
-- sets that slot's commit to 0 as it gives the slot back to the ring. A page that was overwritten stays in its slot
-- until the next fill is begun there, while the reader may take a later page, before which its numbers are missing.
--
-- The number that the region states is stored after each take, as the end of the page that was taken. So a page that
-- was overwritten before that one, or taken before it, ends below that number, and is left out of what is held, or it
-- isn't in a slot any more. The one that ends at that number is the one that was taken last, and is among `before`. All
-- others are of later fills than that one, and begin at or above the number. A page that was taken, and isn't counted
-- in that number yet, is one of these, and `before` is without it.
pub record AreLeft (records : List Record) (before : List Parcel) (held : Recovered) : Type 0 where
  pub parts : (k : ℕ) (parcel : Parcel)
      → slice_get held.parcels k ≡ Some parcel
      → IsPartOf records parcel
  pub taken_or_later : (k : ℕ) (parcel : Parcel)
      → slice_get held.parcels k ≡ Some parcel
      → HasRecordsAmong before parcel ⊎ (held.header.taken.0 ≤ parcel.first)
  pub there_or_below : held.damaged ≡ []
      → (k : ℕ) (parcel : Parcel)
      → slice_get before k ≡ Some parcel
      → parcel.cpu ≡ held.header.cpu.0
      → HasRecordsAmong held.parcels parcel
      ⊎ ((j : ℕ) (other : Parcel) → slice_get held.parcels j ≡ Some other → end_of parcel ≤ other.first)
