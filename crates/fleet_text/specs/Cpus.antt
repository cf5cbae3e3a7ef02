-- The CPUs of a fleet of which something is there.
use Rattle.std.specs.Prelude.{◌≡◌, ℕ, ◌<◌, ◌⊎◌, List, Some}
use Rattle.std.specs.List.{slice_get}
use Rattle.collector.specs.Known.{IsCpuKnown}
use Rattle.stream_collector.specs.Marks.{marks_at, SaySomething}
use Rattle.stream_collector.specs.Stream.{Stream}
use Rattle.time_merge.specs.Lines.{AreOrdered}
use Rattle.fleet_collector.specs.Fleet.{stream_at}
use Rattle.fleet_text.specs.declared.cpus.StreamCpu.{StreamCpu}

-- a CPU of a stream, and what is known of the stream
pub record FleetCpu : Type 0 where
  pub stream : ℕ
  pub cpu : ℕ
  pub known : Stream

abbrev pub cpu_seen : StreamCpu → FleetCpu
cpu_seen at = record { stream = at.stream.0; cpu = at.cpu.0; known = at.known.now }

-- it is one of these
abbrev pub IsAmong : {X : Type 0} → List X → X → Type 0
IsAmong xs x = (k : ℕ) × (slice_get xs k ≡ Some x)

-- numbers of CPUs, `old` before and `new` afterwards: they are what they were, and these more
pub record HasBoth (old new more : List ℕ) : Type 0 where
  pub of_them : (cpu : ℕ) → IsAmong new cpu → IsAmong old cpu ⊎ IsAmong more cpu
  pub old_are : (cpu : ℕ) → IsAmong old cpu → IsAmong new cpu
  pub more_are : (cpu : ℕ) → IsAmong more cpu → IsAmong new cpu

-- by stream, then by CPU
abbrev pub IsBefore : FleetCpu → FleetCpu → Type 0
IsBefore a b = (a.stream < b.stream) ⊎ ((a.stream ≡ b.stream) × (a.cpu < b.cpu))

-- the stream's parcels have or miss a number of the CPU, or one was given up, or it has a bound or an end
abbrev pub IsThere : Stream → (cpu : ℕ) → Type 0
IsThere known cpu = IsCpuKnown known.parcels cpu ⊎ IsCpuKnown known.given_up cpu
    ⊎ SaySomething (marks_at known.marks cpu)

-- the CPUs of a stream, each of which something is there among them
pub record AreCpusOfStream (stream : ℕ) (known : Stream) (cpus : List FleetCpu) : Type 0 where
  pub ordered : AreOrdered IsBefore cpus
  pub stream_is : (at : FleetCpu) → IsAmong cpus at → at.stream ≡ stream
  pub known_is : (at : FleetCpu) → IsAmong cpus at → at.known ≡ known
  pub whole : (cpu : ℕ) → IsThere known cpu → IsAmong cpus record { stream = stream; cpu = cpu; known = known }

-- the CPUs of these streams
pub record AreCpusIn (streams : List (ℕ × Stream)) (cpus : List FleetCpu) : Type 0 where
  pub ordered : AreOrdered IsBefore cpus
  pub of_them : (at : FleetCpu) → IsAmong cpus at → IsAmong streams (at.stream, at.known)
  pub whole : (stream cpu : ℕ) (known : Stream) → IsAmong streams (stream, known) → IsThere known cpu
      → IsAmong cpus record { stream = stream; cpu = cpu; known = known }

-- the CPUs of a fleet, each of which something is there among them
pub record AreCpusOfFleet (fleet : List (ℕ × Stream)) (cpus : List FleetCpu) : Type 0 where
  pub ordered : AreOrdered IsBefore cpus
  pub known_is : (at : FleetCpu) → IsAmong cpus at → at.known ≡ stream_at fleet at.stream
  pub whole : (stream cpu : ℕ) → IsThere (stream_at fleet stream) cpu
      → IsAmong cpus record { stream = stream; cpu = cpu; known = stream_at fleet stream }
