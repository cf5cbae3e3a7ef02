-- Lines by stream, CPU and number, before they are sorted by time.
use Rattle.std.specs.Prelude.{◌≡◌, ℕ, Bool, List, Option, Some, None}
use Rattle.std.specs.List.{slice_get}
use Rattle.std.specs.Ordering.{nat_cmp, is_lt, ordering_then}
use Rattle.trace_model.specs.Record.{Record}
use Rattle.stream_collector.specs.Stream.{Stream, HasRecord}
use Rattle.time_merge.specs.Lines.{AreOrdered}
use Rattle.trace_model.specs.declared.numbers.Moment.{Moment}
use Rattle.fleet_collector.specs.Fleet.{stream_at}
use Rattle.fleet_collector.specs.Listing.{Line, line_for, IsBeforeAtOnce, IsTimeOrdered, HasBefore}
use Rattle.fleet_collector.specs.declared.listing.FleetLine.{FleetLine}

-- the values of a line
abbrev pub line_seen : FleetLine → Line
line_seen line = record {
  moment = line.moment.0;
  stream = line.stream.0;
  cpu = line.cpu.0;
  number = line.number.0;
  bytes = line.bytes.now;
}

-- the line of a record of this CPU of a stream, with its number
abbrev pub line_of : (stream cpu : ℕ) → ℕ × Record → Line
line_of stream cpu numbered = line_for stream cpu numbered.0 numbered.1

-- whether a line is before another: by moment, then by stream, then by CPU, then by number
abbrev pub comes_before : Line → Line → Bool
comes_before a b = is_lt (ordering_then (ordering_then (ordering_then
    (nat_cmp a.moment b.moment) (nat_cmp a.stream b.stream)) (nat_cmp a.cpu b.cpu)) (nat_cmp a.number b.number))

-- the line is one of these
abbrev pub IsAmong : List Line → Line → Type 0
IsAmong lines line = (k : ℕ) × (slice_get lines k ≡ Some line)

-- a line for each record of which this holds, and no other, by stream, CPU and number
pub record AreLinesOf (holds : (stream cpu number : ℕ) → Record → Type 0) (lines : List Line) : Type 0 where
  pub ordered : AreOrdered IsBeforeAtOnce lines
  pub of_them : (line : Line)
      → IsAmong lines line
      → holds line.stream line.cpu line.number record { moment = line.moment; bytes = line.bytes }
  pub whole : (stream cpu number : ℕ) (r : Record)
      → holds stream cpu number r
      → IsAmong lines (line_for stream cpu number r)

-- the stream has the record, before the cut of its CPU at the moment, if there is one
abbrev pub IsShown : Option Moment → Stream → (cpu number : ℕ) → Record → Type 0
IsShown None stream cpu number r = HasRecord stream cpu number r
IsShown (Some moment) stream cpu number r = HasBefore stream moment.0 cpu number r

-- the listing of a fleet, or the one before a moment
pub record IsListingShown (before : Option Moment) (fleet : List (ℕ × Stream)) (lines : List Line) : Type 0 where
  pub ordered : IsTimeOrdered lines
  pub of_them : (k : ℕ) (line : Line)
      → slice_get lines k ≡ Some line
      → IsShown before (stream_at fleet line.stream) line.cpu line.number record
      { moment = line.moment; bytes = line.bytes }
  pub whole : (stream cpu number : ℕ) (r : Record)
      → IsShown before (stream_at fleet stream) cpu number r
      → (k : ℕ) × (slice_get lines k ≡ Some (line_for stream cpu number r))

-- this stream has the record
pub record HasOf (before : Option Moment) (stream : ℕ) (known : Stream) (other cpu number : ℕ)
    (r : Record) : Type 0 where
  pub stream_is : other ≡ stream
  pub has : IsShown before known cpu number r

-- so it has, of one of these CPUs
pub record HasAmong (before : Option Moment) (stream : ℕ) (known : Stream) (cpus : List ℕ) (other cpu number : ℕ)
    (r : Record) : Type 0 where
  pub stream_is : other ≡ stream
  pub index : ℕ
  pub at : slice_get cpus index ≡ Some cpu
  pub has : IsShown before known cpu number r

-- one of these streams has the record
pub record HasIn (before : Option Moment) (fleet : List (ℕ × Stream)) (stream cpu number : ℕ)
    (r : Record) : Type 0 where
  pub index : ℕ
  pub known : Stream
  pub at : slice_get fleet index ≡ Some (stream, known)
  pub has : IsShown before known cpu number r
