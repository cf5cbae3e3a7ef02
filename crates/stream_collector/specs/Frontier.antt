-- From where on all that comes is later: the moment up to which each CPU is known, and which of its numbers are before.
use Rattle.std.specs.Prelude.{◌≡◌, ℕ, ◌<◌, ◌≤◌, ◌⊎◌, ⊤, List, Option, Some, None}
use Rattle.trace_model.specs.Record.{Record}
use Rattle.trace_model.specs.Parcel.{Parcel}
use Rattle.trace_model.specs.Collection.{Has}
use Rattle.trace_model.specs.declared.numbers.Moment.{Moment}
use Rattle.collector.specs.Known.{IsCpuKnown}
use Rattle.stream_collector.specs.declared.marks.Marks.{Marks}
use Rattle.stream_collector.specs.Marks.{marks_at, SaySomething}
use Rattle.stream_collector.specs.Stream.{Stream, bound_of, end_of, HasRecord, IsOpen}
use Rattle.stream_collector.specs.Forgetting.{AllAccounted, AreRaised}

-- the least number from the bound on that isn't accounted for
pub record IsWatermark (stream : Stream) (cpu watermark : ℕ) : Type 0 where
  pub is_open : IsOpen stream cpu watermark
  pub accounted : AllAccounted stream cpu watermark

-- all numbers up to the CPU's end are accounted for
pub record IsComplete (stream : Stream) (cpu : ℕ) : Type 0 where
  pub end : ℕ
  pub end_is : end_of stream cpu ≡ Some end
  pub is_watermark : IsWatermark stream cpu end

-- the record is the last one before this number
pub record IsLastBefore (stream : Stream) (cpu end number : ℕ) (r : Record) : Type 0 where
  pub has : HasRecord stream cpu number r
  pub below : number < end
  pub last : (later : ℕ) (other : Record) → number < later → later < end → HasRecord stream cpu later other → ⊥

-- the moment of the last record before this number, or 0 if there is none
pub data IsLastMoment (stream : Stream) (cpu end moment : ℕ) : Type 0 where
  by_last : (number : ℕ) (r : Record) → IsLastBefore stream cpu end number r → moment ≡ r.moment
      → IsLastMoment stream cpu end moment
  by_none : ((number : ℕ) (r : Record) → number < end → HasRecord stream cpu number r → ⊥) → moment ≡ 0
      → IsLastMoment stream cpu end moment

-- the CPU isn't complete, and this is the moment of its last record before its watermark
pub record IsHeldAt (stream : Stream) (cpu moment : ℕ) : Type 0 where
  pub watermark : ℕ
  pub is_watermark : IsWatermark stream cpu watermark
  pub not_complete : end_of stream cpu ≡ Some watermark → ⊥
  pub last : IsLastMoment stream cpu watermark moment

-- something is there of the CPU: it has a bound or an end, or something of it is known or was given up
pub data IsCpuThere (stream : Stream) (cpu : ℕ) : Type 0 where
  by_marks : SaySomething (marks_at stream.marks cpu) → IsCpuThere stream cpu
  by_known : IsCpuKnown stream.parcels cpu → IsCpuThere stream cpu
  by_undelivered : IsCpuKnown stream.given_up cpu → IsCpuThere stream cpu

-- the CPU is complete, or the moment isn't after that at which it is held
abbrev pub IsNotAfter : Stream → Option Moment → (cpu : ℕ) → Type 0
IsNotAfter stream None cpu = IsComplete stream cpu
IsNotAfter stream (Some moment) cpu =
    IsComplete stream cpu ⊎ ((held : ℕ) × IsHeldAt stream cpu held × (moment.0 ≤ held))

-- some CPU of which something is there is held at it, if there is one
abbrev pub IsOfOne : Stream → Option Moment → Type 0
IsOfOne stream None = ⊤
IsOfOne stream (Some moment) = (cpu : ℕ) × IsCpuThere stream cpu × IsHeldAt stream cpu moment.0

-- The least of the moments at which CPUs are held, or none if all of which something is there are complete.
pub record IsFrontier (stream : Stream) (frontier : Option Moment) : Type 0 where
  pub of_one : IsOfOne stream frontier
  pub least : (cpu : ℕ) → IsCpuThere stream cpu → IsNotAfter stream frontier cpu

-- The greatest number up to the watermark such that all records from the bound up to it are before the moment.
pub record IsCut (stream : Stream) (cpu moment cut : ℕ) : Type 0 where
  pub watermark : ℕ
  pub is_watermark : IsWatermark stream cpu watermark
  pub from : bound_of stream cpu ≤ cut
  pub up_to : cut ≤ watermark
  pub before : (number : ℕ) (r : Record) → HasRecord stream cpu number r → number < cut → r.moment < moment
  pub stops : cut < watermark → (r : Record) × HasRecord stream cpu cut r × (moment ≤ r.moment)

-- the CPU has its cut as its bound, and its end
abbrev pub HasCutMarks : Stream → (moment : ℕ) → List (ℕ × Marks) → (cpu : ℕ) → Type 0
HasCutMarks stream moment marks cpu = IsCut stream cpu moment (marks_at marks cpu).bound
    × ((marks_at marks cpu).end ≡ end_of stream cpu)

-- Each CPU's bound is raised to its cut at the moment, and all else stays.
pub record IsForgottenBefore (old new : Stream) (moment : ℕ) : Type 0 where
  pub cuts : (cpu : ℕ) → IsCut old cpu moment (bound_of new cpu)
  pub raised : AreRaised old new
  pub given_up : new.given_up ≡ old.given_up

-- the moments of a CPU's records never fall
abbrev pub NeverFall : (parcels : List Parcel) (cpu : ℕ) → Type 0
NeverFall parcels cpu = (number later : ℕ) (r other : Record) → Has parcels cpu number r → Has parcels cpu later other
    → number < later → r.moment ≤ other.moment
