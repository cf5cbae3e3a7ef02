-- The marks of each CPU: of one that has none, the bound is 0, and no end is known.
use Rattle.std.specs.Prelude.{◌↔◌, ℕ, ◌<◌, ◌⊎◌, IsSome, List, Option, Some, None}
use Rattle.std.specs.List.{Contains}
use Rattle.std.specs.List.Sorted.{IsStrictlyIncreasing}
use Rattle.std.specs.Ordering.{nat_cmp}
use Rattle.std.specs.BTreeMap.{is_at}
use Rattle.std.specs.Map.{lookup}
use Rattle.stream_collector.specs.declared.marks.Marks.{Marks}

abbrev pub no_marks : Marks
no_marks = record { bound = 0; end = None }

-- the marks, if there are any
abbrev pub or_no_marks : Option Marks → Marks
or_no_marks None = no_marks
or_no_marks (Some marks) = marks

-- the marks of a CPU in the list of those that have any
abbrev pub marks_at : List (ℕ × Marks) → ℕ → Marks
marks_at marks cpu = or_no_marks (lookup (is_at (nat_cmp cpu)) marks)

-- the bound of each CPU
abbrev pub bounds_of : List (ℕ × Marks) → ℕ → ℕ
bounds_of marks cpu = (marks_at marks cpu).bound

-- the marks say something: the bound is above 0, or there is an end
abbrev pub SaySomething : Marks → Type 0
SaySomething marks = (0 < marks.bound) ⊎ IsSome marks.end

-- no CPU is there without reason
abbrev pub AllSaySomething : List (ℕ × Marks) → Type 0
AllSaySomething marks = (cpu : ℕ) → IsSome (lookup (is_at (nat_cmp cpu)) marks) → SaySomething (marks_at marks cpu)

-- the list has each CPU whose marks say something once, and no other, in rising order
pub record AreMarkedCpus (marks : List (ℕ × Marks)) (cpus : List ℕ) : Type 0 where
  pub rising : IsStrictlyIncreasing cpus
  pub marked : (cpu : ℕ) → (Contains cpus cpu ↔ SaySomething (marks_at marks cpu))
