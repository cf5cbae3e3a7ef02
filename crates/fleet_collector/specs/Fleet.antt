-- What is known of the streams of a fleet: of each that is there its id, and what is known of it, by rising id.
use Rattle.std.specs.Prelude.{◌≡◌, ◌≢◌, ℕ, ◌<◌, List, [], Option, Some, None}
use Rattle.std.specs.Ordering.{nat_cmp}
use Rattle.std.specs.BTreeMap.{is_at}
use Rattle.std.specs.Map.{lookup}
use Rattle.std.specs.Borrow.{Bor}
use Rattle.trace_model.specs.Collection.{Misses}
use Rattle.trace_model.specs.declared.limits.TheConstants.{MAX_CPUS}
use Rattle.parcel_streams.specs.declared.piece.StreamId.{StreamId}
use Rattle.collector.specs.Known.{IsKnown}
use Rattle.stream_collector.specs.Marks.{marks_at, SaySomething}
use Rattle.stream_collector.specs.Stream.{Stream}

-- what is known of the stream of this id, if it is there
abbrev pub known_of : List (ℕ × Stream) → ℕ → Option Stream
known_of fleet id = lookup (is_at (nat_cmp id)) fleet

-- nothing is known of it
abbrev pub empty_stream : Stream
empty_stream = record { parcels = []; marks = []; given_up = [] }

abbrev pub or_empty : Option Stream → Stream
or_empty None = empty_stream
or_empty (Some stream) = stream

-- what is known of the stream of this id: nothing, if it isn't there
abbrev pub stream_at : List (ℕ × Stream) → ℕ → Stream
stream_at fleet id = or_empty (known_of fleet id)

-- all streams but this one stay as they were, those that weren't there too
abbrev pub KeepsOthers : (old new : List (ℕ × Stream)) (id : ℕ) → Type 0
KeepsOthers old new id = (other : ℕ) → other ≢ id → known_of new other ≡ known_of old other

-- a stream that an iterator gives: its id, and what is known of it
abbrev pub entry_seen : StreamId × Bor Stream → ℕ × Stream
entry_seen entry = (entry.0.0, entry.1.now)

-- all that is known of the stream is of CPUs that there are
pub record HasKnownCpus (stream : Stream) : Type 0 where
  pub known : (cpu number : ℕ) → IsKnown stream.parcels cpu number → cpu < MAX_CPUS
  pub given_up : (cpu number : ℕ) → Misses stream.given_up cpu number → cpu < MAX_CPUS
  pub marked : (cpu : ℕ) → SaySomething (marks_at stream.marks cpu) → cpu < MAX_CPUS

-- so it is with all of them
abbrev pub AllHaveKnownCpus : List (ℕ × Stream) → Type 0
AllHaveKnownCpus fleet = (id : ℕ) (stream : Stream) → known_of fleet id ≡ Some stream → HasKnownCpus stream
