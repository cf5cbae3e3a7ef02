-- When the same is known of two streams.
use Rattle.std.specs.Prelude.{◌≡◌, ◌↔◌, ℕ}
use Rattle.trace_model.specs.Record.{Record}
use Rattle.collector.specs.Known.{IsCpuKnown}
use Rattle.stream_collector.specs.Marks.{marks_at, SaySomething}
use Rattle.stream_collector.specs.Stream.{Stream, bound_of, end_of, HasRecord, IsMissing, IsUndelivered}

-- Each CPU has the same bound and the same end in both. From the bounds on both have the same records and miss the same
-- numbers, and the same numbers are undelivered, those below the bounds too.
pub record IsSameStream (stream other : Stream) : Type 0 where
  pub bounds : (cpu : ℕ) → bound_of stream cpu ≡ bound_of other cpu
  pub ends : (cpu : ℕ) → end_of stream cpu ≡ end_of other cpu
  pub records : (cpu number : ℕ) (r : Record) → (HasRecord stream cpu number r ↔ HasRecord other cpu number r)
  pub missing : (cpu number : ℕ) → (IsMissing stream cpu number ↔ IsMissing other cpu number)
  pub undelivered : (cpu number : ℕ) → (IsUndelivered stream cpu number ↔ IsUndelivered other cpu number)

-- ---- CPU by CPU

-- the CPU has the same records and misses the same numbers in both, from its bounds on
pub record IsKnownSame (stream other : Stream) (cpu : ℕ) : Type 0 where
  pub records : (number : ℕ) (r : Record) → (HasRecord stream cpu number r ↔ HasRecord other cpu number r)
  pub missing : (number : ℕ) → (IsMissing stream cpu number ↔ IsMissing other cpu number)

-- both have the same undelivered numbers of the CPU
abbrev pub IsUndeliveredSame : Stream → Stream → (cpu : ℕ) → Type 0
IsUndeliveredSame stream other cpu = (number : ℕ) → (IsUndelivered stream cpu number ↔ IsUndelivered other cpu number)

-- each CPU that has marks in the one has the same in the other
abbrev pub AllMarksSame : Stream → Stream → Type 0
AllMarksSame stream other = (cpu : ℕ) → SaySomething (marks_at stream.marks cpu)
    → marks_at stream.marks cpu ≡ marks_at other.marks cpu

-- of each CPU of which something is known in the one the same is known in both
abbrev pub AllKnownSame : Stream → Stream → Type 0
AllKnownSame stream other = (cpu : ℕ) → IsCpuKnown stream.parcels cpu → IsKnownSame stream other cpu

-- of each CPU of which numbers were given up in the one the same numbers are undelivered in both
abbrev pub AllUndeliveredSame : Stream → Stream → Type 0
AllUndeliveredSame stream other = (cpu : ℕ) → IsCpuKnown stream.given_up cpu → IsUndeliveredSame stream other cpu

-- so it is with all that the one has
pub record IsSameOnOwn (stream other : Stream) : Type 0 where
  pub marks : AllMarksSame stream other
  pub undelivered : AllUndeliveredSame stream other
  pub known : AllKnownSame stream other
