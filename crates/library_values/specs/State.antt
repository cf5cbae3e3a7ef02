-- How far a CPU of a stream is known.
use Rattle.std.specs.Prelude.{◌≡◌, ℕ, ◌<◌, ◌≤◌, true, false, Some, None}
use Rattle.stream_collector.specs.Stream.{Stream, bound_of, end_of, IsOpen, HasOutcome}
use Rattle.library_values.specs.declared.listed_fleet.state.CpuState.{CpuState}

-- The state has the CPU's bound, its end if that is known, and the least number from the bound on that is open.
pub record IsStateOf (stream : Stream) (cpu : ℕ) (state : CpuState) : Type 0 where
  pub bound_is : state.bound ≡ bound_of stream cpu
  pub is_open : IsOpen stream cpu state.watermark
  pub accounted : (number : ℕ)
      → bound_of stream cpu ≤ number → number < state.watermark → HasOutcome stream cpu number
  pub end_is : state.has_end ≡ true → end_of stream cpu ≡ Some state.end
  pub no_end : state.has_end ≡ false → (end_of stream cpu ≡ None) × (state.end ≡ 0)
