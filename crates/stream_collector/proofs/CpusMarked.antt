-- The CPUs that have marks.
use Rattle.std.proofs.Common.{◌↔◌, ℕ, IsSome, List, Option, Some, None, inl, inr, refl, arith}
use Rattle.std.specs.Ordering.{nat_cmp}
use Rattle.std.specs.BTreeMap.{is_at}
use Rattle.std.specs.Map.{lookup}
use Rattle.std.specs.List.{Contains}
use Rattle.std.specs.List.Sorted.{IsStrictlyIncreasing}
use Rattle.stream_collector.specs.declared.marks.Marks.{Marks}
use Rattle.stream_collector.specs.Marks.{or_no_marks, SaySomething, AllSaySomething, AreMarkedCpus}

-- what says something is there
some_of : (marks : Option Marks) → SaySomething (or_no_marks marks) → IsSome marks
some_of None (inl lt) = absurd (omega arith)
some_of None (inr is) = is
some_of (Some marks) says = refl

pub marked_of : (marks : List (ℕ × Marks)) (cpus : List ℕ) → AllSaySomething marks → IsStrictlyIncreasing cpus
    → ((cpu : ℕ) → (Contains cpus cpu ↔ IsSome (lookup (is_at (nat_cmp cpu)) marks))) → AreMarkedCpus marks cpus
marked_of marks cpus says rising there = record {
  rising = rising;
  marked = λ cpu. (
    λ listed. says cpu ((there cpu).0 listed),
    λ something. (there cpu).1 (some_of (lookup (is_at (nat_cmp cpu)) marks) something),
  );
}
