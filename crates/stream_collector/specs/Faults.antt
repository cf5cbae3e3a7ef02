-- Why a piece isn't added.
use Rattle.std.specs.Prelude.{◌≡◌, ℕ, ◌<◌, ◌≤◌, ◌+◌, ◌++◌, [], ◌∷◌, length, Some}
use Rattle.trace_model.specs.Parcel.{Parcel}
use Rattle.collector.specs.Known.{IsKnown}
use Rattle.collector.specs.Faults.{IsAddFault}
use Rattle.stream_collector.specs.Stream.{Stream, bound_of, end_of}
use Rattle.stream_collector.specs.declared.fault.AddFault.{AddFault}
use Rattle.stream_collector.specs.declared.fault.AddFault.TheVariants.{BeyondEnd, Refused}

-- the parcel ends below the bound of its CPU, which is above 0
pub record IsForgotten (stream : Stream) (parcel : Parcel) : Type 0 where
  pub ended : parcel.first + length parcel.records ≤ bound_of stream parcel.cpu
  pub bound : 0 < bound_of stream parcel.cpu

-- the number is one that the parcel has or misses, and its CPU has an end at or below it
pub record IsBeyondEnd (stream : Stream) (parcel : Parcel) (cpu number : ℕ) : Type 0 where
  pub end : ℕ
  pub end_is : end_of stream cpu ≡ Some end
  pub beyond : end ≤ number
  pub known : IsKnown (parcel ∷ []) cpu number

-- the parcel has and misses nothing at or beyond the end of its CPU
abbrev pub IsWithinEnd : Stream → Parcel → Type 0
IsWithinEnd stream parcel = (cpu number : ℕ) → IsBeyondEnd stream parcel cpu number → ⊥

-- What a fault says of a parcel that was to be added: this is the least number beyond the end, or there is none, and
-- the collector has this fault.
abbrev pub IsNotAdded : Stream → Parcel → AddFault → Type 0
IsNotAdded stream parcel (BeyondEnd cpu number) = IsBeyondEnd stream parcel cpu.0 number.0
    × ((least : ℕ) → IsBeyondEnd stream parcel cpu.0 least → number.0 ≤ least)
IsNotAdded stream parcel (Refused fault) =
    IsWithinEnd stream parcel × IsAddFault (stream.parcels ++ parcel ∷ []) fault
