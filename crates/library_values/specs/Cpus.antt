-- The CPUs of a stream of which something is there.
use Rattle.std.specs.Prelude.{ℕ, ◌≤◌}
use Rattle.collector.specs.Known.{IsCpuKnown}
use Rattle.stream_collector.specs.Marks.{marks_at, SaySomething}
use Rattle.stream_collector.specs.Stream.{Stream}

-- a record or a missing number of the CPU is there, or one that was given up, or its marks say something
pub data IsToldOf (stream : Stream) (cpu : ℕ) : Type 0 where
  by_parcels : IsCpuKnown stream.parcels cpu → IsToldOf stream cpu
  by_given_up : IsCpuKnown stream.given_up cpu → IsToldOf stream cpu
  by_marks : SaySomething (marks_at stream.marks cpu) → IsToldOf stream cpu

-- this is the least number, from one on, of which this holds
pub record IsLeastFrom (holds : ℕ → Type 0) (from number : ℕ) : Type 0 where
  pub there : holds number
  pub above : from ≤ number
  pub least : (other : ℕ) → from ≤ other → holds other → number ≤ other

-- it holds of no number from this one on
abbrev pub HasNoneFrom : (ℕ → Type 0) → ℕ → Type 0
HasNoneFrom holds from = (other : ℕ) → from ≤ other → holds other → ⊥
