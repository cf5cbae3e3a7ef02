-- There is one list of the runs of numbers.
use Rattle.std.proofs.Common.{◌≡◌, ◌⊎◌, ℕ, zero, suc, ◌<◌, ◌≤◌, List, [], ◌∷◌, Some, ⊎_elim, inl, inr, refl, sym}
use Rattle.std.proofs.Common.{subst, arith}
use Rattle.std.specs.List.{slice_get}
use Rattle.std.proofs.lemmas.Bool.{cases_lt}
use Rattle.std.proofs.lemmas.Option.{none-some}
use Rattle.trace_model.specs.Runs.{InRun, AreRuns}
use Rattle.trace_model.proofs.collections.Elements.{some_is}

-- the runs rise, and none touches the next
record AreApart (runs : List (ℕ × ℕ)) : Type 0 where
  forward : (k : ℕ) (run : ℕ × ℕ) → slice_get runs k ≡ Some run → run.0 ≤ run.1
  apart : (k : ℕ) (a b : ℕ × ℕ) → slice_get runs k ≡ Some a → slice_get runs (suc k) ≡ Some b → suc a.1 < b.0

rest_apart : (x : ℕ × ℕ) (xs : List (ℕ × ℕ)) → AreApart (x ∷ xs) → AreApart xs
rest_apart x xs a = record {
  forward = λ k run at. a.forward (suc k) run at;
  apart = λ k p q at next. a.apart (suc k) p q at next;
}

-- numbers of later runs are after those of a run
behind_at : (x : ℕ × ℕ) (xs : List (ℕ × ℕ)) → AreApart (x ∷ xs) → (k : ℕ) (run : ℕ × ℕ) → slice_get xs k ≡ Some run
    → suc x.1 < run.0
behind_at x [] a k run at = absurd (none-some run at)
behind_at x (y ∷ ys) a zero run at = a.apart 0 x run refl at
behind_at x (y ∷ ys) a (suc k) run at =
    let one = a.apart 0 x y refl refl in
    let up = a.forward 1 y refl in
    let more = behind_at y ys (rest_apart x (y ∷ ys) a) k run at in
    omega arith

behind : (x : ℕ × ℕ) (xs : List (ℕ × ℕ)) → AreApart (x ∷ xs) → (n : ℕ) → InRun xs n → suc x.1 < n
behind x xs a n h =
    let lt = behind_at x xs a h.index h.run h.at in
    let up = h.from in
    omega arith

here_or_behind : (x : ℕ × ℕ) (xs : List (ℕ × ℕ)) (n : ℕ) → InRun (x ∷ xs) n → ((x.0 ≤ n) × (n ≤ x.1)) ⊎ InRun xs n
here_or_behind x xs n h = at_index h.index h.run h.at h.from h.to
  where
    at_index : (k : ℕ) (run : ℕ × ℕ) → slice_get (x ∷ xs) k ≡ Some run → run.0 ≤ n → n ≤ run.1
        → ((x.0 ≤ n) × (n ≤ x.1)) ⊎ InRun xs n
    at_index zero run at from to =
        inl (subst (λ (q : ℕ × ℕ). (q.0 ≤ n) × (n ≤ q.1)) (sym (some_is x run at)) (from, to))
    at_index (suc k) run at from to = inr record { index = k; run = run; at = at; from = from; to = to }

module _ (P : ℕ → Type 0) where
  apart_of : (xs : List (ℕ × ℕ)) → AreRuns P xs → AreApart xs
  apart_of xs r = record { forward = r.forward; apart = r.apart }

  in_first : (x : ℕ × ℕ) (xs : List (ℕ × ℕ)) (n : ℕ) → x.0 ≤ n → n ≤ x.1 → InRun (x ∷ xs) n
  in_first x xs n from to = record { index = 0; run = x; at = refl; from = from; to = to }

  -- the first number of one list's first run isn't before that of the other's
  not_before : (x y : ℕ × ℕ) (xs ys : List (ℕ × ℕ)) → AreRuns P (x ∷ xs) → AreRuns P (y ∷ ys) → y.0 ≤ x.0
  not_before x y xs ys r q =
      let up = r.forward 0 x refl in
      let there = q.whole x.0 (r.of_them x.0 (in_first x xs x.0 (omega arith) up)) in
      let own = q.forward 0 y refl in
      ⊎_elim
      (λ (here : (y.0 ≤ x.0) × (x.0 ≤ y.1)). here.0)
      (λ (later : InRun ys x.0). let lt = behind y ys (apart_of (y ∷ ys) q) x.0 later in omega arith)
      (here_or_behind y ys x.0 there)

  -- nor does it end after it
  not_after : (x y : ℕ × ℕ) (xs ys : List (ℕ × ℕ)) → AreRuns P (x ∷ xs) → AreRuns P (y ∷ ys) → x.0 ≡ y.0 → x.1 ≤ y.1
  not_after x y xs ys r q same = ⊎_elim
      (λ (lt : y.1 < x.1).
      let own = q.forward 0 y refl in
      let there = q.whole (suc y.1) (r.of_them (suc y.1) (in_first x xs (suc y.1) (omega arith) (omega arith))) in
      ⊎_elim
      (λ (here : (y.0 ≤ suc y.1) × (suc y.1 ≤ y.1)). let no = here.1 in absurd (omega arith))
      (λ (later : InRun ys (suc y.1)).
      let no = behind y ys (apart_of (y ∷ ys) q) (suc y.1) later in absurd (omega arith))
      (here_or_behind y ys (suc y.1) there))
      (λ (le : x.1 ≤ y.1). le)
      (cases_lt y.1 x.1)

  rest_runs : (x : ℕ × ℕ) (xs : List (ℕ × ℕ)) → AreRuns P (x ∷ xs) → AreRuns (λ n. P n × (x.1 < n)) xs
  rest_runs x xs r = record {
    forward = λ k run at. r.forward (suc k) run at;
    apart = λ k a b at next. r.apart (suc k) a b at next;
    of_them = λ n h. (
      r.of_them n record { index = suc h.index; run = h.run; at = h.at; from = h.from; to = h.to },
      let lt = behind x xs (apart_of (x ∷ xs) r) n h in omega arith,
    );
    whole = λ n h. ⊎_elim
        (λ (here : (x.0 ≤ n) × (n ≤ x.1)). let le = here.1 in let lt = h.1 in absurd (omega arith))
        (λ (later : InRun xs n). later)
        (here_or_behind x xs n (r.whole n h.0));
  }

pub one_runs : (P : ℕ → Type 0) (xs ys : List (ℕ × ℕ)) → AreRuns P xs → AreRuns P ys → xs ≡ ys
one_runs P [] [] r q = refl
one_runs P [] (y ∷ ys) r q =
    let up = q.forward 0 y refl in
    let none = r.whole y.0 (q.of_them y.0 (in_first P y ys y.0 (omega arith) up)) in
    absurd (none-some none.run none.at)
one_runs P (x ∷ xs) [] r q =
    let up = r.forward 0 x refl in
    let none = q.whole x.0 (r.of_them x.0 (in_first P x xs x.0 (omega arith) up)) in
    absurd (none-some none.run none.at)
one_runs P (x ∷ xs) (y ∷ ys) r q =
    let a = not_before P x y xs ys r q in
    let b = not_before P y x ys xs q r in
    let first : x.0 ≡ y.0 = omega arith in
    let d = not_after P x y xs ys r q first in
    let e = not_after P y x ys xs q r (sym first) in
    let last : x.1 ≡ y.1 = omega arith in
    let same : x ≡ y = λ i. (first i, last i) in
    let rest : xs ≡ ys = one_runs (λ n. P n × (x.1 < n)) xs ys (rest_runs P x xs r)
    (subst (λ (k : ℕ). AreRuns (λ n. P n × (k < n)) ys) (sym last) (rest_runs P y ys q)) in
    λ i. same i ∷ rest i
