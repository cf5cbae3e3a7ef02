-- What is known of one stream, and the state of each number of a CPU.
use Rattle.std.specs.Prelude.{◌≡◌, ℕ, ◌<◌, ◌≤◌, ◌⊎◌, List, Option, Some}
use Rattle.trace_model.specs.Record.{Record}
use Rattle.trace_model.specs.Parcel.{Parcel}
use Rattle.trace_model.specs.Collection.{Has, Misses}
use Rattle.collector.specs.Shown.{IsUnknown}
use Rattle.collector.specs.Known.{IsKnown}
use Rattle.stream_collector.specs.declared.marks.Marks.{Marks}
use Rattle.stream_collector.specs.Marks.{marks_at}

-- parcels: those that are kept. marks: the bound and the end of each CPU that has any. given_up: parcels without a
-- record, which miss the numbers that were given up as undelivered.
pub record Stream : Type 0 where
  pub parcels : List Parcel
  pub marks : List (ℕ × Marks)
  pub given_up : List Parcel

-- what is below it is kept no longer; 0 if nothing was forgotten
abbrev pub bound_of : Stream → ℕ → ℕ
bound_of stream cpu = (marks_at stream.marks cpu).bound

-- how many records the CPU has, if that is known
abbrev pub end_of : Stream → ℕ → Option ℕ
end_of stream cpu = (marks_at stream.marks cpu).end

-- the CPU has no end below this number
abbrev pub IsUpToEnd : Stream → (cpu bound : ℕ) → Type 0
IsUpToEnd stream cpu bound = (end : ℕ) → end_of stream cpu ≡ Some end → bound ≤ end

-- ---- the state of a number

-- it isn't below the bound of its CPU, and has this record
pub record HasRecord (stream : Stream) (cpu number : ℕ) (r : Record) : Type 0 where
  pub from : bound_of stream cpu ≤ number
  pub has : Has stream.parcels cpu number r

-- it isn't below the bound of its CPU, and is missing
pub record IsMissing (stream : Stream) (cpu number : ℕ) : Type 0 where
  pub from : bound_of stream cpu ≤ number
  pub misses : Misses stream.parcels cpu number

-- below the bound of its CPU nothing is known, and from there on this is what the parcels know
abbrev pub IsNotKnown : Stream → (cpu number : ℕ) → Type 0
IsNotKnown stream cpu number = (number < bound_of stream cpu) ⊎ IsUnknown stream.parcels cpu number

-- It was given up, and it is below the bound of its CPU, or neither a record of it has come nor that it is missing.
pub record IsUndelivered (stream : Stream) (cpu number : ℕ) : Type 0 where
  pub given_up : Misses stream.given_up cpu number
  pub not_known : IsNotKnown stream cpu number

-- it isn't below the bound of its CPU, and none of these holds
pub record IsOpen (stream : Stream) (cpu number : ℕ) : Type 0 where
  pub from : bound_of stream cpu ≤ number
  pub not_given_up : Misses stream.given_up cpu number → ⊥
  pub unknown : IsUnknown stream.parcels cpu number

-- it isn't below the bound of its CPU, and one of these holds
pub data HasOutcome (stream : Stream) (cpu number : ℕ) : Type 0 where
  has_record : (r : Record) → HasRecord stream cpu number r → HasOutcome stream cpu number
  is_missing : IsMissing stream cpu number → HasOutcome stream cpu number
  is_undelivered : bound_of stream cpu ≤ number → IsUndelivered stream cpu number → HasOutcome stream cpu number

-- a later number is known, or the CPU has more records than the numbers before this one
abbrev pub IsExpected : Stream → (cpu number : ℕ) → Type 0
IsExpected stream cpu number = ((later : ℕ) × IsKnown stream.parcels cpu later × (number < later))
    ⊎ ((end : ℕ) × (end_of stream cpu ≡ Some end) × (number < end))

-- there is such a number, and none of these holds of it: it may still come
pub record IsUnknownYet (stream : Stream) (cpu number : ℕ) : Type 0 where
  pub is_open : IsOpen stream cpu number
  pub expected : IsExpected stream cpu number

-- no parcel among the given up has a record
abbrev pub HaveNoRecord : List Parcel → Type 0
HaveNoRecord parcels = (cpu number : ℕ) (r : Record) → Has parcels cpu number r → ⊥
