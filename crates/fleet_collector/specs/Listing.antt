-- The listing of a fleet: what its streams have from their bounds on, in the order of time.
use Rattle.std.specs.Prelude.{◌≡◌, ℕ, suc, ◌<◌, ◌⊎◌, List, Some}
use Rattle.std.specs.List.{slice_get}
use Rattle.trace_model.specs.Record.{Record}
use Rattle.stream_collector.specs.Stream.{Stream, HasRecord}
use Rattle.stream_collector.specs.Frontier.{IsCut}
use Rattle.fleet_collector.specs.Fleet.{stream_at}

pub record Line : Type 0 where
  pub moment : ℕ
  pub stream : ℕ
  pub cpu : ℕ
  pub number : ℕ
  pub bytes : List ℕ

-- of one moment, by stream, then by CPU, then by number
abbrev pub IsBeforeAtOnce : Line → Line → Type 0
IsBeforeAtOnce a b = (a.stream < b.stream)
    ⊎ ((a.stream ≡ b.stream) × ((a.cpu < b.cpu) ⊎ ((a.cpu ≡ b.cpu) × (a.number < b.number))))

-- by moment, then by stream, then by CPU, then by number
abbrev pub IsBefore : Line → Line → Type 0
IsBefore a b = (a.moment < b.moment) ⊎ ((a.moment ≡ b.moment) × IsBeforeAtOnce a b)

-- each line is before the next
abbrev pub IsTimeOrdered : List Line → Type 0
IsTimeOrdered lines = (k : ℕ) (a b : Line)
    → slice_get lines k ≡ Some a
    → slice_get lines (suc k) ≡ Some b
    → IsBefore a b

-- the line of a record that has this stream, CPU and number
abbrev pub line_for : (stream cpu number : ℕ) → Record → Line
line_for stream cpu number r =
    record { moment = r.moment; stream = stream; cpu = cpu; number = number; bytes = r.bytes }

-- The listing of a fleet: a line for each record that a stream has from the bound of its CPU on, and no other, in
-- strict order.
pub record IsFleetListing (fleet : List (ℕ × Stream)) (lines : List Line) : Type 0 where
  pub ordered : IsTimeOrdered lines
  pub of_them : (k : ℕ) (line : Line)
      → slice_get lines k ≡ Some line
      → HasRecord (stream_at fleet line.stream) line.cpu line.number record { moment = line.moment; bytes = line.bytes }
  pub whole : (stream cpu number : ℕ) (r : Record)
      → HasRecord (stream_at fleet stream) cpu number r
      → (k : ℕ) × (slice_get lines k ≡ Some (line_for stream cpu number r))

-- ---- a listing that goes out while it grows

-- the CPU has this record from its bound on, before its cut at this moment
pub record HasBefore (stream : Stream) (moment cpu number : ℕ) (r : Record) : Type 0 where
  pub has : HasRecord stream cpu number r
  pub cut : ℕ
  pub is_cut : IsCut stream cpu moment cut
  pub below : number < cut

-- The listing of a fleet before a moment: a line for each record before the cut of its CPU, and no other, in strict
-- order.
pub record IsListingBefore (fleet : List (ℕ × Stream)) (moment : ℕ) (lines : List Line) : Type 0 where
  pub ordered : IsTimeOrdered lines
  pub of_them : (k : ℕ) (line : Line)
      → slice_get lines k ≡ Some line
      → HasBefore (stream_at fleet line.stream) moment line.cpu line.number record
      { moment = line.moment; bytes = line.bytes }
  pub whole : (stream cpu number : ℕ) (r : Record)
      → HasBefore (stream_at fleet stream) moment cpu number r
      → (k : ℕ) × (slice_get lines k ≡ Some (line_for stream cpu number r))
