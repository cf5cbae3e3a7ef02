-- The first run of the numbers of which two things hold.
use Rattle.std.proofs.Common.{ℕ, ◌<◌, ◌≤◌, ⊎_elim, subst, arith, ◌≡◌}
use Rattle.std.proofs.lemmas.Bool.{cases_lt}
use Rattle.collector.specs.FirstRun.{IsFirstRun, HoldsOfNone}

module _ (P U : ℕ → Type 0) where
  -- in the first run of one, the first run of the other
  pub both_run : (from at end a b first stop : ℕ) → from ≤ at → HoldsOfNone (λ n. P n × U n) from at
      → IsFirstRun P at end a b → IsFirstRun U a b first stop → IsFirstRun (λ n. P n × U n) from end first stop
  both_run from at end a b first stop up before one other =
      let one_after = one.after in
      let one_up = one.up_to in
      let after = other.after in
      let up_to = other.up_to in
      record {
        after = omega arith;
        forward = other.forward;
        up_to = omega arith;
        skipped = λ n low high (p, u). ⊎_elim
            (λ (early : n < at). before n low early (p, u))
            (λ (late : at ≤ n). ⊎_elim
            (λ (skipped : n < a). one.skipped n late skipped p)
            (λ (inside : a ≤ n). other.skipped n inside high u)
            (cases_lt n a))
            (cases_lt n at);
        run = λ n low high. (one.run n (omega arith) (omega arith), other.run n low high);
        stops = λ below (p, u). ⊎_elim
            (λ (inside : stop < b). other.stops inside u)
            (λ (behind : b ≤ stop). let e : stop ≡ b = omega arith in
            one.stops (omega arith) (subst P e p))
            (cases_lt stop b);
      }

  -- if the first run of one has none of the other
  pub both_skip : (from at end a b : ℕ) → HoldsOfNone (λ n. P n × U n) from at → IsFirstRun P at end a b
      → HoldsOfNone U a b → HoldsOfNone (λ n. P n × U n) from b
  both_skip from at end a b before one none n low high (p, u) = ⊎_elim
      (λ (early : n < at). before n low early (p, u))
      (λ (late : at ≤ n). ⊎_elim
      (λ (skipped : n < a). one.skipped n late skipped p)
      (λ (inside : a ≤ n). none n inside high u)
      (cases_lt n a))
      (cases_lt n at)

  pub both_none : (from at end : ℕ) → HoldsOfNone (λ n. P n × U n) from at → HoldsOfNone P at end
      → HoldsOfNone (λ n. P n × U n) from end
  both_none from at end before none n low high (p, u) = ⊎_elim
      (λ (early : n < at). before n low early (p, u))
      (λ (late : at ≤ n). none n late high p)
      (cases_lt n at)
