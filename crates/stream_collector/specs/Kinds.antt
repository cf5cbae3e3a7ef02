-- The numbers of a CPU that are missing, undelivered or open, and their runs.
use Rattle.std.specs.Prelude.{ℕ, ◌-◌, ◌<◌, ◌≤◌, Bool, ltb, ◌&&◌, ◌||◌, List}
use Rattle.trace_model.specs.Collection.{Misses}
use Rattle.collector.specs.Shown.{IsUnknown}
use Rattle.collector.specs.Runs.{is_missed, is_unknown, runs_within}
use Rattle.stream_collector.specs.Stream.{Stream, bound_of, IsNotKnown}
use Rattle.stream_collector.specs.declared.kinds.Kind.{Kind}
use Rattle.stream_collector.specs.declared.kinds.Kind.TheVariants.{Missing, Undelivered, Open}

-- the number is of this kind
abbrev pub IsOfKind : Kind → Stream → (cpu number : ℕ) → Type 0
IsOfKind Missing stream cpu number = Misses stream.parcels cpu number
IsOfKind Undelivered stream cpu number = Misses stream.given_up cpu number × IsNotKnown stream cpu number
IsOfKind Open stream cpu number = IsUnknown stream.given_up cpu number × IsUnknown stream.parcels cpu number

-- so it is with the number, which isn't below the first one, but below the end
pub record IsOfKindWithin (kind : Kind) (stream : Stream) (cpu first end number : ℕ) : Type 0 where
  pub from : first ≤ number
  pub below : number < end
  pub of_kind : IsOfKind kind stream cpu number

-- ---- the same, computed

abbrev pub is_of_kind : Kind → Stream → ℕ → ℕ → Bool
is_of_kind Missing stream cpu number = is_missed stream.parcels cpu number
is_of_kind Undelivered stream cpu number =
    is_missed stream.given_up cpu number && (ltb number (bound_of stream cpu) || is_unknown stream.parcels cpu number)
is_of_kind Open stream cpu number = is_unknown stream.given_up cpu number && is_unknown stream.parcels cpu number

-- the runs of a CPU's numbers of this kind, from this number on and below the end
abbrev pub runs_from : Kind → Stream → (cpu number end : ℕ) → List (ℕ × ℕ)
runs_from kind stream cpu number end = runs_within (is_of_kind kind stream cpu) number (end - number)
