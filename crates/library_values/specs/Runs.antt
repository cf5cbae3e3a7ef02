-- Runs of numbers in an array.
use Rattle.std.specs.Prelude.{◌≡◌, ℕ, List, ◌++◌, take, drop, length, map}
use Rattle.trace_model.specs.Runs.{AreRuns}
use Rattle.library_values.specs.declared.runs.Run.{Run}

-- a run by its first and its last number
abbrev pub run_of : ℕ × ℕ → Run
run_of run = record { first = run.0; last = run.1 }

-- These runs are counted, and those for which the array has room are at its front.
pub record ArePut (runs : List (ℕ × ℕ)) (out : List Run) (count : ℕ) (left : List Run) : Type 0 where
  pub count_is : count ≡ length runs
  pub put : left ≡ take (length out) (map run_of runs) ++ drop count out

-- So it is with all runs of the numbers of which this holds.
pub record PutsRuns (holds : ℕ → Type 0) (out : List Run) (count : ℕ) (left : List Run) : Type 0 where
  pub runs : List (ℕ × ℕ)
  pub are_runs : AreRuns holds runs
  pub are_put : ArePut runs out count left
