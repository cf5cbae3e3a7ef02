-- What two fleets are when they are put together, and why they can't be; and when they are the same.
use Rattle.std.specs.Prelude.{◌≡◌, ℕ, List, Some}
use Rattle.std.specs.List.{slice_get}
use Rattle.stream_collector.specs.Stream.{Stream}
use Rattle.stream_collector.specs.Merging.{IsMerge, FitTogether, IsMergeFault}
use Rattle.stream_collector.specs.Same.{IsSameStream}
use Rattle.fleet_collector.specs.declared.merge_fault.FleetMergeFault.{FleetMergeFault}
use Rattle.fleet_collector.specs.Fleet.{known_of, stream_at}

-- each stream is the merge of what both know of it; of one that isn't there nothing is known
abbrev pub IsFleetMerge : (fleet other new : List (ℕ × Stream)) → Type 0
IsFleetMerge fleet other new = (id : ℕ) → IsMerge (stream_at fleet id) (stream_at other id) (stream_at new id)

-- and they fit together
abbrev pub AllFitTogether : (fleet other : List (ℕ × Stream)) → Type 0
AllFitTogether fleet other = (id : ℕ) → FitTogether (stream_at fleet id) (stream_at other id)

-- this stream has this fault
abbrev pub IsFleetMergeFault : (fleet other : List (ℕ × Stream)) → FleetMergeFault → Type 0
IsFleetMergeFault fleet other fault =
    IsMergeFault (stream_at fleet fault.stream.0) (stream_at other fault.stream.0) fault.fault

-- of each stream, both fleets know the same
abbrev pub IsSameFleet : (fleet other : List (ℕ × Stream)) → Type 0
IsSameFleet fleet other = (id : ℕ) → IsSameStream (stream_at fleet id) (stream_at other id)

-- ---- stream by stream

-- this stream is the merge of what two fleets know of it, which fits together
pub record IsMergeAt (fleet other : List (ℕ × Stream)) (id : ℕ) (stream : Stream) : Type 0 where
  pub merge : IsMerge (stream_at fleet id) (stream_at other id) stream
  pub fit : FitTogether (stream_at fleet id) (stream_at other id)

-- so it is with each stream that is there
abbrev pub AreMerges : (fleet other joined : List (ℕ × Stream)) → Type 0
AreMerges fleet other joined = (id : ℕ) (stream : Stream)
    → known_of joined id ≡ Some stream → IsMergeAt fleet other id stream

-- it holds of each stream that is there
abbrev pub OfEachThere : (holds : ℕ → Type 0) → List (ℕ × Stream) → Type 0
OfEachThere holds fleet = (k : ℕ) (entry : ℕ × Stream) → slice_get fleet k ≡ Some entry → holds entry.0
