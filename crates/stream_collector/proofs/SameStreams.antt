-- When the same is known of two streams.
use Rattle.std.proofs.Common.{◌≡◌, ◌↔◌, ℕ, ◌<◌, ◌≤◌, List, Option, IsSome, Some, None, ⊎_elim, inl, inr, refl, sym}
use Rattle.std.proofs.Common.{ap, ◌∙◌, subst, arith}
use Rattle.std.proofs.lemmas.Bool.{cases_lt}
use Rattle.trace_model.specs.Record.{Record}
use Rattle.trace_model.specs.Runs.{AreRuns, InRun}
use Rattle.collector.specs.Listed.{AreListed, AreRecordsFrom}
use Rattle.collector.proofs.Lists.{same_listed}
use Rattle.collector.proofs.Unique.{one_list}
use Rattle.collector.proofs.RunLists.{same_runs}
use Rattle.stream_collector.specs.declared.marks.Marks.{Marks}
use Rattle.stream_collector.specs.Marks.{marks_at, SaySomething}
use Rattle.stream_collector.specs.Stream.{Stream, bound_of, HasRecord}
use Rattle.stream_collector.specs.Same.{IsSameStream, IsSameOnOwn, AllMarksSame}
use Rattle.stream_collector.proofs.MarkWalks.{HasMarks, has_marks_or_not}
use Rattle.stream_collector.proofs.OneList.{one_runs}

-- two lists of runs are equal if and only if they are of the same numbers
pub runs_same : (P Q : ℕ → Type 0) (xs ys : List (ℕ × ℕ)) → AreRuns P xs → AreRuns Q ys
    → (xs ≡ ys ↔ ((n : ℕ) → (P n ↔ Q n)))
runs_same P Q xs ys r q = (
  λ e n. (
    λ p. q.of_them n (subst (λ (zs : List (ℕ × ℕ)). InRun zs n) e (r.whole n p)),
    λ p. r.of_them n (subst (λ (zs : List (ℕ × ℕ)). InRun zs n) (sym e) (q.whole n p)),
  ),
  λ same. one_runs P xs ys r (same_runs ys (λ n p. (same n).1 p) (λ n p. (same n).0 p) q),
)

listed_records : (s : Stream) (cpu : ℕ) (xs : List (ℕ × Record)) → AreRecordsFrom s.parcels cpu (bound_of s cpu) xs
    → AreListed (HasRecord s cpu) xs
listed_records s cpu xs l = same_listed xs
    (λ n r h. record { from = h.up; has = h.has })
    (λ n r h. record { has = h.has; up = h.from })
    l

-- two lists of records are equal if and only if they have the same records
pub records_same : (s o : Stream) (cpu : ℕ) (xs ys : List (ℕ × Record))
    → AreRecordsFrom s.parcels cpu (bound_of s cpu) xs → AreRecordsFrom o.parcels cpu (bound_of o cpu) ys
    → (xs ≡ ys ↔ ((n : ℕ) (r : Record) → (HasRecord s cpu n r ↔ HasRecord o cpu n r)))
records_same s o cpu xs ys l m =
    let own = listed_records s cpu xs l in
    let others = listed_records o cpu ys m in (
      λ e n r.
          let moved = subst (AreListed (HasRecord s cpu)) e own in (
            λ h. let found = moved.whole n r h in others.of_them found.0 (n, r) found.1,
            λ h. let found = others.whole n r h in moved.of_them found.0 (n, r) found.1,
          ),
      λ same. one_list (HasRecord s cpu) xs ys own
          (same_listed ys (λ n r h. (same n r).1 h) (λ n r h. (same n r).0 h) others),
    )

-- ---- all CPUs

marks_are_same : (s o : Stream) → AllMarksSame s o → AllMarksSame o s → (cpu : ℕ)
    → marks_at s.marks cpu ≡ marks_at o.marks cpu
marks_are_same s o own others cpu = ⊎_elim
    (λ (there : HasMarks s.marks cpu). own cpu there)
    (λ (none : HasMarks s.marks cpu → ⊥). ⊎_elim
    (λ (there : HasMarks o.marks cpu). sym (others cpu there))
    (λ (none_there : HasMarks o.marks cpu → ⊥).
    both_silent (marks_at s.marks cpu) (marks_at o.marks cpu) none none_there)
    (has_marks_or_not o.marks cpu))
    (has_marks_or_not s.marks cpu)
  where
    no_end : (a : Option ℕ) → (IsSome a → ⊥) → a ≡ None
    no_end None none = refl
    no_end (Some x) none = absurd (none refl)

    no_bound : (n : ℕ) → (0 < n → ⊥) → n ≡ 0
    no_bound n none = ⊎_elim (λ (some : 0 < n). absurd (none some)) (λ (le : n ≤ 0). omega arith) (cases_lt 0 n)

    both_silent : (a b : Marks) → (SaySomething a → ⊥) → (SaySomething b → ⊥) → a ≡ b
    both_silent a b p q =
        let bounds : a.bound ≡ b.bound =
        no_bound a.bound (λ some. p (inl some)) ∙ sym (no_bound b.bound (λ some. q (inl some))) in
        let ends : a.end ≡ b.end =
        no_end a.end (λ some. p (inr some)) ∙ sym (no_end b.end (λ some. q (inr some))) in
        λ i. record { bound = bounds i; end = ends i }

pub all_is_same : (s o : Stream) → IsSameOnOwn s o → IsSameOnOwn o s → IsSameStream s o
all_is_same s o own others = record {
  bounds = λ cpu. ap (λ (m : Marks). m.bound) (marks_are_same s o own.marks others.marks cpu);
  ends = λ cpu. ap (λ (m : Marks). m.end) (marks_are_same s o own.marks others.marks cpu);
  records = λ cpu n r. (
    λ h. ((own.known cpu (n, inl (r, h.has))).records n r).0 h,
    λ h. ((others.known cpu (n, inl (r, h.has))).records n r).0 h,
  );
  missing = λ cpu n. (
    λ h. ((own.known cpu (n, inr h.misses)).missing n).0 h,
    λ h. ((others.known cpu (n, inr h.misses)).missing n).0 h,
  );
  undelivered = λ cpu n. (
    λ h. (own.undelivered cpu (n, inr h.given_up) n).0 h,
    λ h. (others.undelivered cpu (n, inr h.given_up) n).0 h,
  );
}

pub same_on_own : (s o : Stream) → IsSameStream s o → IsSameOnOwn s o
same_on_own s o same = record {
  marks = λ cpu there i. record { bound = same.bounds cpu i; end = same.ends cpu i };
  undelivered = λ cpu there. same.undelivered cpu;
  known = λ cpu there. record { records = same.records cpu; missing = same.missing cpu };
}

pub same_back : (s o : Stream) → IsSameStream s o → IsSameStream o s
same_back s o same = record {
  bounds = λ cpu. sym (same.bounds cpu);
  ends = λ cpu. sym (same.ends cpu);
  records = λ cpu n r. ((same.records cpu n r).1, (same.records cpu n r).0);
  missing = λ cpu n. ((same.missing cpu n).1, (same.missing cpu n).0);
  undelivered = λ cpu n. ((same.undelivered cpu n).1, (same.undelivered cpu n).0);
}
