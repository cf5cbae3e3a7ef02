-- Runs of numbers, each by its first and its last one.
use Rattle.std.specs.Prelude.{◌≡◌, ℕ, suc, ◌<◌, ◌≤◌, List, Some}
use Rattle.std.specs.List.{slice_get}

-- some run has the number: it is neither before the run's first number nor after its last
pub record InRun (runs : List (ℕ × ℕ)) (number : ℕ) : Type 0 where
  pub index : ℕ
  pub run : ℕ × ℕ
  pub at : slice_get runs index ≡ Some run
  pub from : run.0 ≤ number
  pub to : number ≤ run.1

-- The runs of the numbers of which this holds, each by its first and its last number: none is empty, they rise, and
-- none touches the next.
pub record AreRuns (holds : ℕ → Type 0) (runs : List (ℕ × ℕ)) : Type 0 where
  pub forward : (k : ℕ) (run : ℕ × ℕ) → slice_get runs k ≡ Some run → run.0 ≤ run.1
  pub apart : (k : ℕ) (a b : ℕ × ℕ)
      → slice_get runs k ≡ Some a
      → slice_get runs (suc k) ≡ Some b
      → suc a.1 < b.0
  pub of_them : (number : ℕ) → InRun runs number → holds number
  pub whole : (number : ℕ) → holds number → InRun runs number
