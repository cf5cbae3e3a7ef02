-- What the marks of a CPU become.
use Rattle.std.specs.Prelude.{◌≡◌, ℕ, ◌<◌, ◌≤◌, Some, None}
use Rattle.trace_model.specs.Collection.{Misses}
use Rattle.collector.specs.Known.{IsKnown}
use Rattle.stream_collector.specs.Marks.{marks_at, AllSaySomething}
use Rattle.stream_collector.specs.Stream.{Stream, bound_of, end_of, HaveNoRecord}
use Rattle.stream_collector.specs.declared.fault.MarkFault.{MarkFault}
use Rattle.stream_collector.specs.declared.fault.MarkFault.TheVariants.{OtherEnd, BeyondEnd, NotFinal, NoMemory}

-- the number is below the bound of its CPU, or it is known, or it was given up
pub data IsNotOpen (stream : Stream) (cpu number : ℕ) : Type 0 where
  by_bound : number < bound_of stream cpu → IsNotOpen stream cpu number
  by_parcels : IsKnown stream.parcels cpu number → IsNotOpen stream cpu number
  by_given_up : Misses stream.given_up cpu number → IsNotOpen stream cpu number

-- of a CPU with an end, each number that isn't open is below it
abbrev pub AreWithinEnds : Stream → Type 0
AreWithinEnds stream = (cpu end number : ℕ)
    → end_of stream cpu ≡ Some end → IsNotOpen stream cpu number → number < end

-- what holds of each stream at all times
pub record IsStanding (stream : Stream) : Type 0 where
  pub no_record : HaveNoRecord stream.given_up
  pub within : AreWithinEnds stream
  pub says : AllSaySomething stream.marks

-- the CPU has this end, and all else is as it was
pub record HasEnd (old new : Stream) (cpu end : ℕ) : Type 0 where
  pub parcels : new.parcels ≡ old.parcels
  pub given_up : new.given_up ≡ old.given_up
  pub marks : marks_at new.marks cpu ≡ record { bound = bound_of old cpu; end = Some end }
  pub others : (other : ℕ) → (other ≡ cpu → ⊥) → marks_at new.marks other ≡ marks_at old.marks other

-- the greatest number that isn't open, and it isn't below the end
pub record IsGreatestBeyond (stream : Stream) (cpu end number : ℕ) : Type 0 where
  pub reached : IsNotOpen stream cpu number
  pub beyond : end ≤ number
  pub greatest : (other : ℕ) → IsNotOpen stream cpu other → other ≤ number

-- why the end of a CPU isn't set
abbrev pub IsEndFault : Stream → (cpu end : ℕ) → MarkFault → Type 0
IsEndFault stream cpu end (OtherEnd other) = (end_of stream cpu ≡ Some other.0) × (other.0 ≡ end → ⊥)
IsEndFault stream cpu end (BeyondEnd number) = (end_of stream cpu ≡ None) × IsGreatestBeyond stream cpu end number.0
IsEndFault stream cpu end (NotFinal number) = ⊥
IsEndFault stream cpu end NoMemory =
    (end_of stream cpu ≡ None) × ((number : ℕ) → IsNotOpen stream cpu number → number < end)
