-- What is given up, and what was.
use Rattle.std.specs.Prelude.{◌≡◌, ℕ, ◌-◌, ◌<◌, ◌≤◌, ◌⊎◌, ◌↔◌, List, [], Some}
use Rattle.trace_model.specs.Parcel.{Parcel}
use Rattle.trace_model.specs.Collection.{Misses}
use Rattle.stream_collector.specs.Stream.{Stream, end_of, IsUpToEnd}
use Rattle.stream_collector.specs.declared.fault.MarkFault.{MarkFault}
use Rattle.stream_collector.specs.declared.fault.MarkFault.TheVariants.{OtherEnd, BeyondEnd, NotFinal, NoMemory}

-- the parcel without a record that misses the numbers of a CPU from `first` up to `end`
abbrev pub run_of : (cpu first end : ℕ) → Parcel
run_of cpu first end = record { cpu = cpu; fill = 0; first = end; missed = end - first; records = [] }

-- the number is one of this run of a CPU's numbers
pub record IsInRun (cpu first end other number : ℕ) : Type 0 where
  pub cpu_is : other ≡ cpu
  pub from : first ≤ number
  pub below : number < end

-- afterwards the numbers of the run are given up too, and no others
abbrev pub GivesUp : (old new : List Parcel) → (cpu first end : ℕ) → Type 0
GivesUp old new cpu first end = (other number : ℕ)
    → (Misses new other number ↔ (Misses old other number ⊎ IsInRun cpu first end other number))

-- the numbers of the run are given up already
abbrev pub AllGivenUp : List Parcel → (cpu first end : ℕ) → Type 0
AllGivenUp given_up cpu first end = (number : ℕ) → first ≤ number → number < end → Misses given_up cpu number

-- the least number of the run that is at or beyond the end of the CPU
pub record IsFirstBeyond (stream : Stream) (cpu first end number : ℕ) : Type 0 where
  pub mark : ℕ
  pub end_is : end_of stream cpu ≡ Some mark
  pub beyond : mark ≤ number
  pub from : first ≤ number
  pub below : number < end
  pub least : (other : ℕ) → first ≤ other → mark ≤ other → number ≤ other

-- why the run isn't given up
abbrev pub IsUndeliveredFault : Stream → (cpu first end : ℕ) → MarkFault → Type 0
IsUndeliveredFault stream cpu first end (OtherEnd other) = ⊥
IsUndeliveredFault stream cpu first end (BeyondEnd number) = IsFirstBeyond stream cpu first end number.0
IsUndeliveredFault stream cpu first end (NotFinal number) = ⊥
IsUndeliveredFault stream cpu first end NoMemory = (AllGivenUp stream.given_up cpu first end → ⊥)
    × IsUpToEnd stream cpu end
