-- A walk over the CPUs that have marks, in rising order.
use Rattle.std.proofs.Common.{◌≡◌, ◌⊎◌, ℕ, ◌<◌, ◌≤◌, IsSome, List, Option, Some, None, ⊎_elim, inl, inr, refl, sym}
use Rattle.std.proofs.Common.{subst, arith}
use Rattle.std.proofs.lemmas.Bool.{cases_lt}
use Rattle.std.specs.List.{Contains}
use Rattle.std.specs.List.Sorted.{IsStrictlyIncreasing}
use Rattle.collector.proofs.CpuWalks.{Leaves}
use Rattle.stream_collector.specs.declared.marks.Marks.{Marks}
use Rattle.stream_collector.specs.Marks.{marks_at, SaySomething, AreMarkedCpus}

-- the marks of the CPU say something
abbrev pub HasMarks : List (ℕ × Marks) → ℕ → Type 0
HasMarks marks cpu = SaySomething (marks_at marks cpu)

pub all_marked : (IsDone : ℕ → Type 0) (marks : List (ℕ × Marks)) (cpus : List ℕ) → AreMarkedCpus marks cpus
    → Leaves (HasMarks marks) IsDone cpus
all_marked IsDone marks cpus are = record {
  rising = are.rising;
  of_them = λ c h. (are.marked c).0 h;
  done = λ c says. inl ((are.marked c).1 says);
}

pub ended_marked : (marks : List (ℕ × Marks)) (cpu end : ℕ) → (marks_at marks cpu).end ≡ Some end → HasMarks marks cpu
ended_marked marks cpu end is = inr (subst IsSome (sym is) refl)

-- what is done may be known otherwise
pub done_otherwise : (IsThere IsDone IsDoneToo : ℕ → Type 0) (left : List ℕ) → ((c : ℕ) → IsDone c → IsDoneToo c)
    → Leaves IsThere IsDone left → Leaves IsThere IsDoneToo left
done_otherwise IsThere IsDone IsDoneToo left to l = record {
  rising = l.rising;
  of_them = l.of_them;
  done = λ c there. ⊎_elim
      (λ (in_list : Contains left c). inl in_list)
      (λ (done : IsDone c). inr (to c done))
      (l.done c there);
}

pub has_marks_or_not : (marks : List (ℕ × Marks)) (cpu : ℕ) → HasMarks marks cpu ⊎ (HasMarks marks cpu → ⊥)
has_marks_or_not marks cpu = at (marks_at marks cpu).bound (marks_at marks cpu).end
  where
    at : (bound : ℕ) (end : Option ℕ)
        → ((0 < bound) ⊎ IsSome end) ⊎ (((0 < bound) ⊎ IsSome end) → ⊥)
    at bound (Some x) = inl (inr refl)
    at bound None = ⊎_elim
        (λ (some : 0 < bound). inl (inl some))
        (λ (none : bound ≤ 0). inr (λ either. ⊎_elim
        (λ (some : 0 < bound). omega arith)
        (λ is. cc)
        either))
        (cases_lt 0 bound)

-- those of a list that rises
pub all_listed : (IsDone : ℕ → Type 0) (cpus : List ℕ) → IsStrictlyIncreasing cpus → Leaves (Contains cpus) IsDone cpus
all_listed IsDone cpus rising = record { rising = rising; of_them = λ c h. h; done = λ c h. inl h }
