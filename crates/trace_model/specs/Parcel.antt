-- A parcel: the records of a taken page under their CPU and numbers, and the numbers that are missing before
-- them.
use Rattle.std.specs.Prelude.{◌≡◌, ℕ, ◌+◌, ◌<◌, ◌≤◌, List, Some}
use Rattle.std.specs.List.{slice_get}
use Rattle.trace_model.specs.Record.{Record}
use Rattle.trace_model.specs.Partition.{Piece, first_of}

-- first: the number of the first record. missed: how many numbers are missing before it.
pub record Parcel : Type 0 where
  pub cpu : ℕ
  pub fill : ℕ
  pub first : ℕ
  pub missed : ℕ
  pub records : List Record

-- the record that the parcel has under a CPU and a number
pub record IsPairOf (parcel : Parcel) (cpu number : ℕ) (r : Record) : Type 0 where
  pub index : ℕ
  pub cpu_is : cpu ≡ parcel.cpu
  pub number_is : number ≡ parcel.first + index
  pub record_is : slice_get parcel.records index ≡ Some r

-- the number is missing before the parcel's records
pub record IsMissingOf (parcel : Parcel) (cpu number : ℕ) : Type 0 where
  pub cpu_is : cpu ≡ parcel.cpu
  pub low : parcel.first ≤ number + parcel.missed
  pub high : number < parcel.first

-- The parcel is one piece of a partition: its records, how many numbers are missing before them, and as its first
-- number the count of all that are before them.
pub record IsGenuine (parcel : Parcel) (pieces : List Piece) : Type 0 where
  pub index : ℕ
  pub piece_is : slice_get pieces index ≡ Some record { skipped = parcel.missed; records = parcel.records }
  pub first_is : first_of pieces index ≡ Some parcel.first

-- each parcel is genuine for the pieces of its own CPU
abbrev pub AreGenuine : List Parcel → (ℕ → List Piece) → Type 0
AreGenuine parcels pieces = (k : ℕ) (parcel : Parcel)
    → slice_get parcels k ≡ Some parcel
    → IsGenuine parcel (pieces parcel.cpu)
