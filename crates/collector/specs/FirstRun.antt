-- The first run of numbers of which something holds, from a number on and below an end.
use Rattle.std.specs.Prelude.{ℕ, ◌<◌, ◌≤◌}

-- It holds of the numbers from `first` up to `stop`, of none before them, and not of `stop`, if that isn't the end.
pub record IsFirstRun (holds : ℕ → Type 0) (from end first stop : ℕ) : Type 0 where
  pub after : from ≤ first
  pub forward : first < stop
  pub up_to : stop ≤ end
  pub skipped : (n : ℕ) → from ≤ n → n < first → holds n → ⊥
  pub run : (n : ℕ) → first ≤ n → n < stop → holds n
  pub stops : stop < end → holds stop → ⊥

-- it holds of none of these numbers
abbrev pub HoldsOfNone : (holds : ℕ → Type 0) (from end : ℕ) → Type 0
HoldsOfNone holds from end = (n : ℕ) → from ≤ n → n < end → holds n → ⊥
