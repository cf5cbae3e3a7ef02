-- The runs of the numbers that pass a test: how a walk comes by them, and that they are those runs.
use Rattle.std.proofs.Common.{◌≡◌, ◌⊎◌, inl, inr, ⊎_elim, ℕ, zero, suc, ◌+◌, ◌-◌, ◌<◌, ◌≤◌, Bool, true, false, cond}
use Rattle.std.proofs.Common.{List, [], ◌∷◌, Some, refl, sym, ap, ◌∙◌, subst, arith}
use Rattle.std.specs.List.{slice_get}
use Rattle.std.proofs.lemmas.Bool.{cases_lt, cases_eq, eq-eqb, ne_eqb, false≢true}
use Rattle.std.proofs.lemmas.Option.{none-some}
use Rattle.trace_model.proofs.collections.Elements.{some_is}
use Rattle.collector.specs.Runs.{InRun, AreRuns, with_number, runs_within}
use Rattle.collector.proofs.Walks.{skip_all}

-- runs of the numbers with one property are those of the numbers with another one, if both hold of the same numbers
pub same_runs : {P Q : ℕ → Type 0} (runs : List (ℕ × ℕ)) → ((n : ℕ) → P n → Q n) → ((n : ℕ) → Q n → P n)
    → AreRuns P runs → AreRuns Q runs
same_runs runs to back r = record {
  forward = r.forward;
  apart = r.apart;
  of_them = λ n h. to n (r.of_them n h);
  whole = λ n h. r.whole n (back n h);
}

-- the number passes, and is one of these
pub record Passes (test : ℕ → Bool) (low high n : ℕ) : Type 0 where
  pub from : low ≤ n
  pub below : n < high
  pub passes : test n ≡ true

-- ---- one number more

with_touching : (n : ℕ) (r : ℕ × ℕ) (rs : List (ℕ × ℕ)) → r.0 ≡ suc n → with_number n (r ∷ rs) ≡ (n, r.1) ∷ rs
with_touching n r rs e = ap (λ b. cond b ((n, r.1) ∷ rs) ((n, n) ∷ r ∷ rs)) (eq-eqb r.0 (suc n) e)

with_apart : (n : ℕ) (r : ℕ × ℕ) (rs : List (ℕ × ℕ)) → (r.0 ≡ suc n → ⊥) → with_number n (r ∷ rs) ≡ (n, n) ∷ r ∷ rs
with_apart n r rs e = ap (λ b. cond b ((n, r.1) ∷ rs) ((n, n) ∷ r ∷ rs)) (ne_eqb r.0 (suc n) e)

in_behind : (r : ℕ × ℕ) (rs : List (ℕ × ℕ)) (n : ℕ) → InRun rs n → InRun (r ∷ rs) n
in_behind r rs n h = record { index = suc h.index; run = h.run; at = h.at; from = h.from; to = h.to }

-- a number is in the first run or in a later one
in_either : (r : ℕ × ℕ) (rs : List (ℕ × ℕ)) (n : ℕ) → InRun (r ∷ rs) n → ((r.0 ≤ n) × (n ≤ r.1)) ⊎ InRun rs n
in_either r rs n h = at_index h.index h.run h.at h.from h.to
  where
    at_index : (k : ℕ) (run : ℕ × ℕ) → slice_get (r ∷ rs) k ≡ Some run → run.0 ≤ n → n ≤ run.1
        → ((r.0 ≤ n) × (n ≤ r.1)) ⊎ InRun rs n
    at_index zero run at from to = let same = some_is r run at in
        inl (subst (λ (q : ℕ × ℕ). (q.0 ≤ n) × (n ≤ q.1)) (sym same) (from, to))
    at_index (suc k) run at from to = inr record { index = k; run = run; at = at; from = from; to = to }

-- a run before others that it doesn't touch
pub runs_push : (r : ℕ × ℕ) (rs : List (ℕ × ℕ)) (P : ℕ → Type 0) → r.0 ≤ r.1
    → ((b : ℕ × ℕ) → slice_get rs 0 ≡ Some b → suc r.1 < b.0)
    → AreRuns P rs → AreRuns (λ n. ((r.0 ≤ n) × (n ≤ r.1)) ⊎ P n) (r ∷ rs)
runs_push r rs P up before runs = record {
  forward = forward;
  apart = apart;
  of_them = λ n h. ⊎_elim (λ here. inl here) (λ behind. inr (runs.of_them n behind)) (in_either r rs n h);
  whole = λ n h. ⊎_elim
      (λ (here : (r.0 ≤ n) × (n ≤ r.1)). record { index = 0; run = r; at = refl; from = here.0; to = here.1 })
      (λ behind. in_behind r rs n (runs.whole n behind))
      h;
}
  where
    forward : (k : ℕ) (run : ℕ × ℕ) → slice_get (r ∷ rs) k ≡ Some run → run.0 ≤ run.1
    forward zero run at = subst (λ (q : ℕ × ℕ). q.0 ≤ q.1) (some_is r run at) up
    forward (suc k) run at = runs.forward k run at

    apart : (k : ℕ) (a b : ℕ × ℕ) → slice_get (r ∷ rs) k ≡ Some a → slice_get (r ∷ rs) (suc k) ≡ Some b → suc a.1 < b.0
    apart zero a b at next = subst (λ (q : ℕ × ℕ). suc q.1 < b.0) (some_is r a at) (before b next)
    apart (suc k) a b at next = runs.apart k a b at next

-- the runs after the first one, by what is in them
runs_tail : (P : ℕ → Type 0) (r : ℕ × ℕ) (rs : List (ℕ × ℕ)) → AreRuns P (r ∷ rs) → AreRuns (InRun rs) rs
runs_tail P r rs runs = record {
  forward = λ k run at. runs.forward (suc k) run at;
  apart = λ k a b at next. runs.apart (suc k) a b at next;
  of_them = λ n h. h;
  whole = λ n h. h;
}

module _ (test : ℕ → Bool) (high : ℕ) where
  -- a number that passes, or one that does and is after it
  alone_or_behind : (n : ℕ) → test n ≡ true → n < high → (m : ℕ) → ((n ≤ m) × (m ≤ n)) ⊎ Passes test (suc n) high m
      → Passes test n high m
  alone_or_behind n passing below m h = ⊎_elim
      (λ (here : (n ≤ m) × (m ≤ n)). let e : n ≡ m = omega (arith, here.0, here.1) in
      subst (Passes test n high) e record { from = omega arith; below = below; passes = passing })
      (λ (p : Passes test (suc n) high m).
      record { from = let a = p.from in omega arith; below = p.below; passes = p.passes })
      h

  is_alone_or_behind : (n m : ℕ) → Passes test n high m → ((n ≤ m) × (m ≤ n)) ⊎ Passes test (suc n) high m
  is_alone_or_behind n m p = let a = p.from in ⊎_elim
      (λ (lt : n < m). inr record { from = lt; below = p.below; passes = p.passes })
      (λ (le : m ≤ n). inl (a, le))
      (cases_lt n m)

  -- if a number before the runs passes, it goes into a run
  with_passing : (n : ℕ) (rs : List (ℕ × ℕ)) → test n ≡ true → n < high → AreRuns (Passes test (suc n) high) rs
      → AreRuns (Passes test n high) (with_number n rs)
  with_passing n [] passing below runs = same_runs ((n, n) ∷ [])
      (alone_or_behind n passing below)
      (is_alone_or_behind n)
      (runs_push (n, n) [] (Passes test (suc n) high) (let e : n ≤ n = omega arith in e)
      (λ b at. absurd (none-some b at)) runs)
  with_passing n (r ∷ rs) passing below runs =
      let first =
      runs.of_them r.0
      record {
        index = 0;
        run = r;
        at = refl;
        from = (let e : r.0 ≤ r.0 = omega arith in e);
        to = runs.forward 0 r refl;
      } in
      let start = first.from in
      ⊎_elim
      (λ (e : r.0 ≡ suc n). subst (AreRuns (Passes test n high)) (sym (with_touching n r rs e))
      (same_runs ((n, r.1) ∷ rs)
      (λ m h. ⊎_elim
      (λ (here : (n ≤ m) × (m ≤ r.1)). ⊎_elim
      (λ (same : m ≡ n).
      subst (Passes test n high) (sym same) record { from = omega arith; below = below; passes = passing })
      (λ (other : m ≡ n → ⊥). let p =
      runs.of_them m record { index = 0; run = r; at = refl; from = (let a = here.0 in omega arith); to = here.1 } in
      record { from = here.0; below = p.below; passes = p.passes })
      (cases_eq m n))
      (λ (behind : InRun rs m). let p = runs.of_them m (in_behind r rs m behind) in
      let a = p.from in
      record { from = omega arith; below = p.below; passes = p.passes })
      h)
      (λ m p. let a = p.from in ⊎_elim
      (λ (lt : n < m). ⊎_elim
      (λ (here : (r.0 ≤ m) × (m ≤ r.1)). inl (a, here.1))
      (λ (behind : InRun rs m). inr behind)
      (in_either r rs m (runs.whole m record { from = lt; below = p.below; passes = p.passes })))
      (λ (le : m ≤ n). inl (a, let up = runs.forward 0 r refl in omega arith))
      (cases_lt n m))
      (runs_push (n, r.1) rs (InRun rs) (let up = runs.forward 0 r refl in omega arith)
      (λ b at. runs.apart 0 r b refl at) (runs_tail _ r rs runs))))
      (λ (apart : r.0 ≡ suc n → ⊥). subst (AreRuns (Passes test n high)) (sym (with_apart n r rs apart))
      (same_runs ((n, n) ∷ r ∷ rs)
      (alone_or_behind n passing below)
      (is_alone_or_behind n)
      (runs_push (n, n) (r ∷ rs) (Passes test (suc n) high) (let e : n ≤ n = omega arith in e)
      (λ b at.
      subst (λ (q : ℕ × ℕ). suc n < q.0) (some_is r b at) (let e : suc n < r.0 = omega (arith, start, apart) in e))
      runs)))
      (cases_eq r.0 (suc n))

  -- a number that doesn't pass changes nothing
  without_passing : (n : ℕ) (rs : List (ℕ × ℕ)) → test n ≡ false → AreRuns (Passes test (suc n) high) rs
      → AreRuns (Passes test n high) rs
  without_passing n rs failing runs = same_runs rs
      (λ m p. record { from = let a = p.from in omega arith; below = p.below; passes = p.passes })
      (λ m p. let a = p.from in record {
        from = ⊎_elim (λ (lt : n < m). lt)
            (λ (le : m ≤ n). let e : m ≡ n = omega arith in
            absurd (false≢true (sym failing ∙ subst (λ (q : ℕ). test q ≡ true) e p.passes)))
            (cases_lt n m);
        below = p.below;
        passes = p.passes;
      })
      runs

  step : (n : ℕ) (rs : List (ℕ × ℕ)) (b : Bool) → test n ≡ b → n < high → AreRuns (Passes test (suc n) high) rs
      → AreRuns (Passes test n high) (cond b (with_number n rs) rs)
  step n rs true passing below runs = with_passing n rs passing below runs
  step n rs false failing below runs = without_passing n rs failing runs

  -- the runs within are those
  pub runs_are : (count n : ℕ) → n + count ≡ high → AreRuns (Passes test n high) (runs_within test n count)
  unfolding runs_within
  runs_are zero n e = record {
    forward = λ k run at. absurd (none-some run at);
    apart = λ k a b at next. absurd (none-some a at);
    of_them = λ m h. absurd (none-some h.run h.at);
    whole = λ m p. let a = p.from in let b = p.below in absurd (omega arith);
  }
  runs_are (suc count) n e =
      step n (runs_within test (suc n) count) (test n) refl (omega arith) (runs_are count (suc n) (omega arith))

-- ---- how a walk comes by them

one_within : (test : ℕ → Bool) (n count : ℕ) (b : Bool) → test n ≡ b
    → runs_within test n (suc count)
    ≡ cond b (with_number n (runs_within test (suc n) count)) (runs_within test (suc n) count)
unfolding runs_within
one_within test n count b e =
    ap (λ (b : Bool). cond b (with_number n (runs_within test (suc n) count)) (runs_within test (suc n) count)) e

-- numbers that don't pass are passed over
pub runs_skip : (test : ℕ → Bool) (k n count : ℕ) → ((m : ℕ) → n ≤ m → m < n + k → test m ≡ false)
    → runs_within test n (k + count) ≡ runs_within test (n + k) count
runs_skip test =
    skip_all (runs_within test) (λ m. test m ≡ false) (λ n count fails. one_within test n count false fails)

-- a number that passes, before one that doesn't or as the last, is a run
alone : (test : ℕ → Bool) (n count : ℕ) → ((m : ℕ) → m ≡ suc n → m < suc n + count → test m ≡ false)
    → with_number n (runs_within test (suc n) count) ≡ (n, n) ∷ runs_within test (suc n) count
alone test n count end = at_first (runs_within test (suc n) count) (runs_are test (suc n + count) count (suc n) refl)
  where
    at_first : (rs : List (ℕ × ℕ)) → AreRuns (Passes test (suc n) (suc n + count)) rs → with_number n rs ≡ (n, n) ∷ rs
    at_first [] runs = refl
    at_first (r ∷ rs) runs =
        let first =
        runs.of_them r.0
        record {
          index = 0;
          run = r;
          at = refl;
          from = (let e : r.0 ≤ r.0 = omega arith in e);
          to = runs.forward 0 r refl;
        } in
        with_apart n r rs (λ e. false≢true (sym (end r.0 e first.below) ∙ first.passes))

-- numbers that pass, before one that doesn't or up to the last, are one run
pub runs_first : (test : ℕ → Bool) (k n count : ℕ) → ((m : ℕ) → n ≤ m → m < n + suc k → test m ≡ true)
    → ((m : ℕ) → m ≡ n + suc k → m < n + suc k + count → test m ≡ false)
    → runs_within test n (suc k + count) ≡ (n, n + k) ∷ runs_within test (n + suc k) count
runs_first test zero n count run end =
    let a : suc 0 + count ≡ suc count = omega arith in
    let b : n + 1 ≡ suc n = omega arith in
    let c : n + 0 ≡ n = omega arith in
    ap (runs_within test n) a ∙ one_within test n count true (run n (omega arith) (omega arith))
    ∙ alone test n count (λ m e below. end m (omega arith) (omega arith))
    ∙ ap (λ m. (n, n) ∷ runs_within test m count) (sym b) ∙ ap (λ m. (n, m) ∷ runs_within test (n + 1) count) (sym c)
runs_first test (suc k) n count run end =
    let a : suc (suc k) + count ≡ suc (suc k + count) = omega arith in
    let b : suc n + suc k ≡ n + suc (suc k) = omega arith in
    let c : suc n + k ≡ n + suc k = omega arith in
    ap (runs_within test n) a ∙ one_within test n (suc k + count) true (run n (omega arith) (omega arith))
    ∙ ap (with_number n)
    (runs_first test k (suc n) count (λ m from below. run m (omega arith) (omega arith))
    (λ m e below. end m (omega arith) (omega arith)))
    ∙ with_touching n (suc n, suc n + k) (runs_within test (suc n + suc k) count) refl
    ∙ ap (λ m. (n, m) ∷ runs_within test (suc n + suc k) count) c
    ∙ ap (λ m. (n, n + suc k) ∷ runs_within test m count) b

pub runs_none : (test : ℕ → Bool) (n : ℕ) → runs_within test n 0 ≡ []
unfolding runs_within
runs_none test n = refl

-- ---- up to a last number

module _ (test : ℕ → Bool) (top n : ℕ) where
  -- if none passes, there is no run
  pub none_left : ((m : ℕ) → n ≤ m → m < top → test m ≡ false) → runs_within test n (top - n) ≡ []
  none_left none =
      let e : top - n ≡ top - n + 0 = omega arith in
      ap (runs_within test n) e ∙ runs_skip test (top - n) n 0 (λ m from below. none m from (omega arith))
      ∙ runs_none test (n + (top - n))

  -- the first run of those that are left
  pub first_left : (first end : ℕ) → n ≤ first → first < end → end ≤ top
      → ((m : ℕ) → n ≤ m → m < first → test m ≡ false)
      → ((m : ℕ) → first ≤ m → m < end → test m ≡ true) → (end < top → test end ≡ false)
      → runs_within test n (top - n) ≡ (first, end - 1) ∷ runs_within test end (top - end)
  first_left first end from forward fits skipped run stops =
      let k : ℕ = end - 1 - first in
      let a : top - n ≡ (first - n) + (suc k + (top - end)) = omega arith in
      let b : n + (first - n) ≡ first = omega arith in
      let c : first + suc k ≡ end = omega arith in
      let d : first + k ≡ end - 1 = omega arith in
      ap (runs_within test n) a
      ∙ runs_skip test (first - n) n (suc k + (top - end)) (λ m from below. skipped m from (omega arith))
      ∙ ap (λ m. runs_within test m (suc k + (top - end))) b
      ∙ runs_first test k first (top - end) (λ m from below. run m from (omega arith))
      (λ m e below. let is : m ≡ end = omega arith in subst (λ (q : ℕ). test q ≡ false) (sym is) (stops (omega arith)))
      ∙ ap (λ m. (first, m) ∷ runs_within test (first + suc k) (top - end)) d
      ∙ ap (λ m. (first, end - 1) ∷ runs_within test m (top - end)) c
