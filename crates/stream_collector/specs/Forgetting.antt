-- What becomes of a stream when the bound of a CPU is raised.
use Rattle.std.specs.Prelude.{◌≡◌, ℕ, ◌<◌, ◌≤◌, ◌⊎◌, ◌↔◌, List, Result, Some, Ok, OnOk, OnErr}
use Rattle.trace_model.specs.Parcel.{Parcel}
use Rattle.trace_model.specs.Collection.{Misses, IsSame}
use Rattle.collector.specs.Shown.{IsUnknown}
use Rattle.collector.specs.Known.{without_ended}
use Rattle.stream_collector.specs.Marks.{marks_at, bounds_of}
use Rattle.stream_collector.specs.Stream.{Stream, bound_of, end_of, IsUpToEnd, IsOpen, HasOutcome}
use Rattle.stream_collector.specs.declared.added.Marked.{Marked}
use Rattle.stream_collector.specs.declared.added.Marked.TheVariants.{New, Known}
use Rattle.stream_collector.specs.declared.fault.MarkFault.{MarkFault}
use Rattle.stream_collector.specs.declared.fault.MarkFault.TheVariants.{OtherEnd, BeyondEnd, NotFinal, NoMemory}

-- The CPU has this bound, and the other marks are as they were. What is known is what the parcels have and miss that
-- don't end below the bounds.
pub record HasBound (old new : Stream) (cpu bound : ℕ) : Type 0 where
  pub marks : marks_at new.marks cpu ≡ record { bound = bound; end = end_of old cpu }
  pub others : (other : ℕ) → (other ≡ cpu → ⊥) → marks_at new.marks other ≡ marks_at old.marks other
  pub kept : IsSame new.parcels (without_ended (bounds_of new.marks) old.parcels)

-- The CPU's bound is raised to this one, if this is higher; unless the call fails, this is at most the CPU's end.
-- Nothing changes if it isn't higher, nor on a fault.
pub record RaisesBound (old new : Stream) (cpu bound : ℕ) (result : Result Marked MarkFault) : Type 0 where
  pub known : (result ≡ Ok Known) ↔ (bound ≤ bound_of old cpu)
  pub unchanged : result ≡ Ok Known → new ≡ old
  pub higher : result ≡ Ok New → bound_of old cpu < bound
  pub raised : result ≡ Ok New → HasBound old new cpu bound
  pub within : OnOk result (IsUpToEnd old cpu bound)
  pub refused : OnErr result (new ≡ old)

-- No bound falls, all ends stay, and what is known is what the parcels have and miss that don't end below the bounds.
pub record AreRaised (old new : Stream) : Type 0 where
  pub rise : (cpu : ℕ) → bound_of old cpu ≤ bound_of new cpu
  pub ends : (cpu : ℕ) → end_of new cpu ≡ end_of old cpu
  pub kept : IsSame new.parcels (without_ended (bounds_of new.marks) old.parcels)

-- the number is one of the CPU from its bound up to this one, and nothing is known of it
pub record IsLost (stream : Stream) (cpu bound other number : ℕ) : Type 0 where
  pub cpu_is : other ≡ cpu
  pub from : bound_of stream cpu ≤ number
  pub below : number < bound
  pub unknown : IsUnknown stream.parcels cpu number

-- these are given up, and what was given up before
abbrev pub GivesUpBelow : Stream → (given_up : List Parcel) → (cpu bound : ℕ) → Type 0
GivesUpBelow stream given_up cpu bound = (other number : ℕ)
    → (Misses given_up other number ↔ (Misses stream.given_up other number ⊎ IsLost stream cpu bound other number))

-- why a bound isn't taken: it is above the end of the CPU, or memory was refused for a higher one
abbrev pub IsBoundFault : Stream → (cpu bound : ℕ) → MarkFault → Type 0
IsBoundFault stream cpu bound (OtherEnd end) = ⊥
IsBoundFault stream cpu bound (BeyondEnd end) = (end_of stream cpu ≡ Some end.0) × (end.0 < bound)
IsBoundFault stream cpu bound (NotFinal number) = ⊥
IsBoundFault stream cpu bound NoMemory = (bound_of stream cpu < bound) × IsUpToEnd stream cpu bound

-- each number of the CPU from its bound up to this one is accounted for
abbrev pub AllAccounted : Stream → (cpu bound : ℕ) → Type 0
AllAccounted stream cpu bound = (number : ℕ)
    → bound_of stream cpu ≤ number → number < bound → HasOutcome stream cpu number

-- Why it isn't, if it has to be final: this is the least open number, and it is below the bound; or all below a higher
-- bound is accounted for, and memory was refused. Such a bound is never above the end.
abbrev pub IsForgetFault : Stream → (cpu bound : ℕ) → MarkFault → Type 0
IsForgetFault stream cpu bound (OtherEnd end) = ⊥
IsForgetFault stream cpu bound (BeyondEnd end) = ⊥
IsForgetFault stream cpu bound (NotFinal number) = IsOpen stream cpu number.0 × (number.0 < bound)
    × AllAccounted stream cpu number.0
IsForgetFault stream cpu bound NoMemory = (bound_of stream cpu < bound) × AllAccounted stream cpu bound
