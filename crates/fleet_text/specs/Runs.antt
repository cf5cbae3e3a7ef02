-- The runs of a fleet's numbers of one kind.
use Rattle.std.specs.Prelude.{◌≡◌, ℕ, suc, ◌<◌, ◌≤◌, ◌⊎◌, List}
use Rattle.stream_collector.specs.Stream.{Stream, bound_of, IsMissing, IsUndelivered, IsUnknownYet}
use Rattle.time_merge.specs.Lines.{AreOrdered}
use Rattle.fleet_collector.specs.Fleet.{stream_at}
use Rattle.fleet_text.specs.declared.run.RunKind.{RunKind}
use Rattle.fleet_text.specs.declared.run.RunKind.TheVariants.{Missing, Unknown, Undelivered, Forgotten}
use Rattle.fleet_text.specs.declared.run.FleetRun.{FleetRun}
use Rattle.fleet_text.specs.Cpus.{FleetCpu, IsAmong}

-- a run of numbers of a CPU of a stream: the first and the last
pub record Run : Type 0 where
  pub stream : ℕ
  pub cpu : ℕ
  pub first : ℕ
  pub last : ℕ

abbrev pub run_seen : FleetRun → Run
run_seen run = record { stream = run.stream.0; cpu = run.cpu.0; first = run.first.0; last = run.last.0 }

-- the run of this CPU
abbrev pub run_at : (stream cpu : ℕ) → ℕ × ℕ → Run
run_at stream cpu run = record { stream = stream; cpu = cpu; first = run.0; last = run.1 }

-- a number of a stream's CPU is of this kind
abbrev pub IsOfKind : RunKind → Stream → (cpu number : ℕ) → Type 0
IsOfKind Missing = IsMissing
IsOfKind Unknown = IsUnknownYet
IsOfKind Undelivered = IsUndelivered
IsOfKind Forgotten = λ stream cpu number. number < bound_of stream cpu

-- by stream, then by CPU, then by number, and a number is between two runs of one CPU
abbrev pub IsApart : Run → Run → Type 0
IsApart a b = (a.stream < b.stream)
    ⊎ ((a.stream ≡ b.stream) × ((a.cpu < b.cpu) ⊎ ((a.cpu ≡ b.cpu) × (suc a.last < b.first))))

-- some run has the number: it is neither before the run's first number nor after its last
pub record InRun (runs : List Run) (stream cpu number : ℕ) : Type 0 where
  pub run : Run
  pub among : IsAmong runs run
  pub stream_is : run.stream ≡ stream
  pub cpu_is : run.cpu ≡ cpu
  pub from : run.first ≤ number
  pub to : number ≤ run.last

-- The runs of the numbers of which this holds: none is empty, they are in order, and none touches the next.
pub record AreRunsOf (holds : (stream cpu number : ℕ) → Type 0) (runs : List Run) : Type 0 where
  pub ordered : AreOrdered IsApart runs
  pub forward : (run : Run) → IsAmong runs run → run.first ≤ run.last
  pub of_them : (stream cpu number : ℕ) → InRun runs stream cpu number → holds stream cpu number
  pub whole : (stream cpu number : ℕ) → holds stream cpu number → InRun runs stream cpu number

-- the number is of this kind, and its CPU is one of these
pub record IsOfKindAmong (kind : RunKind) (cpus : List FleetCpu) (stream cpu number : ℕ) : Type 0 where
  pub known : Stream
  pub among : IsAmong cpus record { stream = stream; cpu = cpu; known = known }
  pub of_kind : IsOfKind kind known cpu number

-- the runs of a fleet's numbers of this kind
abbrev pub AreRunsOfFleet : RunKind → (fleet : List (ℕ × Stream)) → List Run → Type 0
AreRunsOfFleet kind fleet runs = AreRunsOf (λ stream cpu number. IsOfKind kind (stream_at fleet stream) cpu number) runs
