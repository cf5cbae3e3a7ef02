-- What two streams are when they are put together, and why they can't be.
use Rattle.std.specs.Prelude.{◌≡◌, ℕ, ◌<◌, ◌≤◌, ◌⊎◌, ◌↔◌, ⊤, max, List, ◌++◌, Option, Some, None}
use Rattle.trace_model.specs.Parcel.{Parcel}
use Rattle.trace_model.specs.Collection.{Misses, Agree, IsBelow}
use Rattle.collector.specs.Known.{IsSameFrom}
use Rattle.collector.specs.Faults.{IsAddFault, IsClashAt, IsTakenAndMissingAt, AgreeBefore}
use Rattle.collector.specs.declared.fault.AddFault.{AddFault}
use Rattle.collector.specs.declared.fault.AddFault.TheVariants.{Clash as ClashThere, TakenAndMissing as TakenThere}
use Rattle.collector.specs.declared.fault.AddFault.TheVariants.{NoMemory as MemoryThere}
use Rattle.stream_collector.specs.declared.marks.Marks.{Marks}
use Rattle.stream_collector.specs.Marks.{bounds_of}
use Rattle.stream_collector.specs.Stream.{Stream, bound_of, end_of}
use Rattle.stream_collector.specs.Marking.{IsNotOpen}
use Rattle.stream_collector.specs.declared.fault.MergeFault.{MergeFault}
use Rattle.stream_collector.specs.declared.fault.MergeFault.TheVariants.{OtherEnd, BeyondEnd, Clash, TakenAndMissing}
use Rattle.stream_collector.specs.declared.fault.MergeFault.TheVariants.{NoMemory}

-- Each CPU has the higher of both bounds, and the end that either has. All is given up that either gave up. From the
-- new bounds on the kept parcels have and miss what those of both do, and below them nothing else.
pub record IsMerge (stream other new : Stream) : Type 0 where
  pub bounds : (cpu : ℕ) → bound_of new cpu ≡ max (bound_of stream cpu) (bound_of other cpu)
  pub ends : (cpu end : ℕ)
      → (end_of new cpu ≡ Some end ↔ ((end_of stream cpu ≡ Some end) ⊎ (end_of other cpu ≡ Some end)))
  pub given_up : (cpu number : ℕ)
      → (Misses new.given_up cpu number ↔ (Misses stream.given_up cpu number ⊎ Misses other.given_up cpu number))
  pub kept : IsSameFrom (bounds_of new.marks) (stream.parcels ++ other.parcels) new.parcels
  pub nothing_else : IsBelow new.parcels (stream.parcels ++ other.parcels)

-- no CPU has one end in one of them and another in the other
abbrev pub HaveOneEnd : Stream → Stream → Type 0
HaveOneEnd stream other = (cpu end others : ℕ)
    → end_of stream cpu ≡ Some end → end_of other cpu ≡ Some others → end ≡ others

-- each number of one of them that isn't open is below the ends of the other
abbrev pub IsWithinEndsOf : Stream → (reaching : Stream) → Type 0
IsWithinEndsOf stream reaching = (cpu end number : ℕ)
    → end_of stream cpu ≡ Some end → IsNotOpen reaching cpu number → number < end

-- the greatest number of one of them that isn't open, if the other has an end at or below it
pub record IsBeyondEndOf (stream reaching : Stream) (cpu number : ℕ) : Type 0 where
  pub end : ℕ
  pub end_is : end_of stream cpu ≡ Some end
  pub beyond : end ≤ number
  pub reached : IsNotOpen reaching cpu number
  pub greatest : (other : ℕ) → IsNotOpen reaching cpu other → other ≤ number

-- a CPU has one end in both, if any, and each number of either that isn't open is below it
pub record HaveFittingEnds (stream other : Stream) : Type 0 where
  pub one_end : HaveOneEnd stream other
  pub within : IsWithinEndsOf stream other
  pub others_within : IsWithinEndsOf other stream

-- all that is needed for them to be put together: besides, the kept parcels agree
pub record FitTogether (stream other : Stream) : Type 0 where
  pub ends : HaveFittingEnds stream other
  pub agree : Agree (stream.parcels ++ other.parcels)

-- ---- why they aren't put together

-- a CPU has two ends
abbrev pub IsEndsFault : Stream → Stream → MergeFault → Type 0
IsEndsFault stream other (OtherEnd cpu end others) =
    (end_of stream cpu.0 ≡ Some end.0) × (end_of other cpu.0 ≡ Some others.0) × (end.0 ≡ others.0 → ⊥)
IsEndsFault stream other (BeyondEnd cpu number) = ⊥
IsEndsFault stream other (Clash cpu number) = ⊥
IsEndsFault stream other (TakenAndMissing cpu number) = ⊥
IsEndsFault stream other NoMemory = ⊥

-- a number of the other one that isn't open is at or beyond an end
abbrev pub IsReachFault : Stream → (reaching : Stream) → MergeFault → Type 0
IsReachFault stream reaching (OtherEnd cpu end others) = ⊥
IsReachFault stream reaching (BeyondEnd cpu number) = IsBeyondEndOf stream reaching cpu.0 number.0
IsReachFault stream reaching (Clash cpu number) = ⊥
IsReachFault stream reaching (TakenAndMissing cpu number) = ⊥
IsReachFault stream reaching NoMemory = ⊥

-- of the numbers under which parcels are at odds this is the least, or memory was refused
abbrev pub IsPartFault : List Parcel → MergeFault → Type 0
IsPartFault parcels (OtherEnd cpu end others) = ⊥
IsPartFault parcels (BeyondEnd cpu number) = ⊥
IsPartFault parcels (Clash cpu number) = IsClashAt parcels cpu.0 number.0 × AgreeBefore parcels cpu.0 number.0
IsPartFault parcels (TakenAndMissing cpu number) =
    IsTakenAndMissingAt parcels cpu.0 number.0 × AgreeBefore parcels cpu.0 number.0
IsPartFault parcels NoMemory = ⊤

-- so it is with the fault of a collector
abbrev pub IsJoinFault : List Parcel → AddFault → Type 0
IsJoinFault parcels (ClashThere cpu number) = IsAddFault parcels (ClashThere cpu number)
IsJoinFault parcels (TakenThere cpu number) = IsAddFault parcels (TakenThere cpu number)
IsJoinFault parcels MemoryThere = ⊤

-- A CPU has two ends; or none has, and a number of one of them that isn't open is beyond the other's end; or the ends
-- fit, and of the numbers under which the kept parcels are at odds this is the least; or memory was refused.
abbrev pub IsMergeFault : Stream → Stream → MergeFault → Type 0
IsMergeFault stream other (OtherEnd cpu end others) = IsEndsFault stream other (OtherEnd cpu end others)
IsMergeFault stream other (BeyondEnd cpu number) = HaveOneEnd stream other
    × (IsBeyondEndOf stream other cpu.0 number.0 ⊎ IsBeyondEndOf other stream cpu.0 number.0)
IsMergeFault stream other (Clash cpu number) = HaveFittingEnds stream other
    × IsPartFault (stream.parcels ++ other.parcels) (Clash cpu number)
IsMergeFault stream other (TakenAndMissing cpu number) = HaveFittingEnds stream other
    × IsPartFault (stream.parcels ++ other.parcels) (TakenAndMissing cpu number)
IsMergeFault stream other NoMemory = HaveFittingEnds stream other

-- ---- marks, computed

-- the end that one of them has: that of the first, if it has one
abbrev pub either_end : Option ℕ → Option ℕ → Option ℕ
either_end None other = other
either_end (Some end) other = Some end

-- the higher bound, and the end that either has
abbrev pub joined_marks : Marks → Marks → Marks
joined_marks own other = record { bound = max own.bound other.bound; end = either_end own.end other.end }
