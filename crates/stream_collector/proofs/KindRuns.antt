-- The runs of the numbers of a kind.
use Rattle.std.proofs.Common.{◌≡◌, ◌↔◌, ◌⊎◌, ℕ, ◌+◌, ◌-◌, ◌<◌, ◌≤◌, Bool, true, false, ltb, ◌&&◌, ◌||◌, [], ◌∷◌, Some}
use Rattle.std.proofs.Common.{None, ⊎_elim, inl, inr, refl, sym, subst, max, arith}
use Rattle.std.proofs.lemmas.Bool.{false≢true, cases_lt, cases_eq, lt-ltb, ltb-true}
use Rattle.trace_model.specs.Runs.{AreRuns}
use Rattle.collector.specs.declared.kinds.Kind.TheVariants.{Missing as MissingThere, Unknown as UnknownThere}
use Rattle.collector.specs.Shown.{IsUnknown}
use Rattle.collector.specs.Known.{IsKnown}
use Rattle.collector.specs.Runs.{is_missed, is_unknown}
use Rattle.collector.specs.FirstRun.{IsFirstRun, HoldsOfNone}
use Rattle.collector.proofs.OfKind.{is_of_true, of_is_true}
use Rattle.collector.proofs.RunLists.{same_runs, Passes, runs_are, none_left, first_left}
use Rattle.collector.proofs.Stretches.{false_unless}
use Rattle.stream_collector.specs.Stream.{Stream, bound_of, end_of, IsExpected}
use Rattle.stream_collector.specs.Kinds.{IsOfKind, IsOfKindWithin, is_of_kind, runs_from}
use Rattle.stream_collector.specs.declared.kinds.Kind.{Kind}
use Rattle.stream_collector.specs.declared.kinds.Kind.TheVariants.{Missing, Undelivered, Open}
use Rattle.stream_collector.proofs.Standing.{not_both}

both_true : (a b : Bool) → a ≡ true → b ≡ true → (a && b) ≡ true
both_true true b e f = f
both_true false b e f = e

left_true : (a b : Bool) → (a && b) ≡ true → a ≡ true
left_true true b e = refl
left_true false b e = e

right_true : (a b : Bool) → (a && b) ≡ true → b ≡ true
right_true true b e = e
right_true false b e = absurd (false≢true e)

first_true : (a b : Bool) → a ≡ true → (a || b) ≡ true
first_true true b e = refl
first_true false b e = absurd (false≢true e)

other_true : (a b : Bool) → b ≡ true → (a || b) ≡ true
other_true true b e = refl
other_true false b e = e

one_true : (a b : Bool) → (a || b) ≡ true → (a ≡ true) ⊎ (b ≡ true)
one_true true b e = inl refl
one_true false b e = inr e

true_of : (kind : Kind) (s : Stream) (cpu n : ℕ) → IsOfKind kind s cpu n → is_of_kind kind s cpu n ≡ true
true_of Missing s cpu n m = is_of_true MissingThere s.parcels cpu n m
true_of Undelivered s cpu n both = both_true (is_missed s.given_up cpu n)
    (ltb n (bound_of s cpu) || is_unknown s.parcels cpu n) (is_of_true MissingThere s.given_up cpu n both.0)
    (⊎_elim
    (λ (below : n < bound_of s cpu). first_true (ltb n (bound_of s cpu)) (is_unknown s.parcels cpu n)
    (lt-ltb n (bound_of s cpu) below))
    (λ (unknown : IsUnknown s.parcels cpu n). other_true (ltb n (bound_of s cpu)) (is_unknown s.parcels cpu n)
    (is_of_true UnknownThere s.parcels cpu n unknown))
    both.1)
true_of Open s cpu n both = both_true (is_unknown s.given_up cpu n) (is_unknown s.parcels cpu n)
    (is_of_true UnknownThere s.given_up cpu n both.0) (is_of_true UnknownThere s.parcels cpu n both.1)

of_true : (kind : Kind) (s : Stream) (cpu n : ℕ) → is_of_kind kind s cpu n ≡ true → IsOfKind kind s cpu n
of_true Missing s cpu n e = of_is_true MissingThere s.parcels cpu n e
of_true Undelivered s cpu n e =
    let not_known : Bool = ltb n (bound_of s cpu) || is_unknown s.parcels cpu n in (
      of_is_true MissingThere s.given_up cpu n (left_true (is_missed s.given_up cpu n) not_known e),
      ⊎_elim
          (λ below. inl (ltb-true n (bound_of s cpu) below))
          (λ unknown. inr (of_is_true UnknownThere s.parcels cpu n unknown))
          (one_true (ltb n (bound_of s cpu)) (is_unknown s.parcels cpu n)
          (right_true (is_missed s.given_up cpu n) not_known e)),
    )
of_true Open s cpu n e = (
  of_is_true UnknownThere s.given_up cpu n (left_true (is_unknown s.given_up cpu n) (is_unknown s.parcels cpu n) e),
  of_is_true UnknownThere s.parcels cpu n (right_true (is_unknown s.given_up cpu n) (is_unknown s.parcels cpu n) e),
)

false_of : (kind : Kind) (s : Stream) (cpu n : ℕ) → (IsOfKind kind s cpu n → ⊥) → is_of_kind kind s cpu n ≡ false
false_of kind s cpu n not = false_unless (is_of_kind kind s cpu n) (λ e. not (of_true kind s cpu n e))

pub no_run_left : (kind : Kind) (s : Stream) (cpu n end : ℕ) → HoldsOfNone (IsOfKind kind s cpu) n end
    → runs_from kind s cpu n end ≡ []
no_run_left kind s cpu n end none =
    none_left (is_of_kind kind s cpu) end n (λ m from below. false_of kind s cpu m (none m from below))

pub first_run_left : (kind : Kind) (s : Stream) (cpu n end first stop : ℕ) → IsFirstRun
    (IsOfKind kind s cpu) n end first stop
    → runs_from kind s cpu n end ≡ (first, stop - 1) ∷ runs_from kind s cpu stop end
first_run_left kind s cpu n end first stop run =
    first_left (is_of_kind kind s cpu) end n first stop run.after run.forward run.up_to
    (λ m from below. false_of kind s cpu m (run.skipped m from below))
    (λ m from below. true_of kind s cpu m (run.run m from below))
    (λ below. false_of kind s cpu stop (run.stops below))

-- they are all of them
pub all_runs : (kind : Kind) (s : Stream) (cpu from end : ℕ)
    → AreRuns (IsOfKindWithin kind s cpu from end) (runs_from kind s cpu from end)
all_runs kind s cpu from end =
    same_runs {P = Passes (is_of_kind kind s cpu) from (from + (end - from))} (runs_from kind s cpu from end)
    (λ m p. let a = p.from in let b = p.below in record {
      from = omega arith;
      below = omega arith;
      of_kind = of_true kind s cpu m p.passes;
    })
    (λ m h. let a = h.from in let b = h.below in record {
      from = omega arith;
      below = omega arith;
      passes = true_of kind s cpu m h.of_kind;
    })
    (runs_are (is_of_kind kind s cpu) (from + (end - from)) (end - from) from refl)

-- ---- up to where numbers are expected

pub expected_below : (s : Stream) (cpu known n : ℕ) → IsUnknown s.parcels cpu n
    → (0 < known → IsKnown s.parcels cpu (known - 1)) → n < known → IsExpected s cpu n
expected_below s cpu known n unknown last below =
    let there = last (omega arith) in
    ⊎_elim
    (λ (e : n ≡ known - 1). absurd (not_both s.parcels cpu n unknown (subst (IsKnown s.parcels cpu) (sym e) there)))
    (λ (apart : n ≡ known - 1 → ⊥). inl (known - 1, there, omega arith))
    (cases_eq n (known - 1))

pub known_below : (s : Stream) (cpu known later : ℕ) → ((m : ℕ) → known ≤ m → IsUnknown s.parcels cpu m)
    → IsKnown s.parcels cpu later → later < known
known_below s cpu known later behind there = ⊎_elim
    (λ (lt : later < known). lt)
    (λ (past : known ≤ later). absurd (not_both s.parcels cpu later (behind later past) there))
    (cases_lt later known)

pub expected_with_end : (s : Stream) (cpu known end : ℕ) → end_of s cpu ≡ Some end
    → (0 < known → IsKnown s.parcels cpu (known - 1)) → ((m : ℕ) → known ≤ m → IsUnknown s.parcels cpu m)
    → (top : ℕ) → top ≡ max known end
    → (n : ℕ) → IsUnknown s.parcels cpu n → (n < top ↔ IsExpected s cpu n)
expected_with_end s cpu known end end_is last behind top is n unknown = (
  λ below. ⊎_elim
      (λ (lt : n < known). expected_below s cpu known n unknown last lt)
      (λ (le : known ≤ n). inr (end, end_is, omega arith))
      (cases_lt n known),
  λ expected. ⊎_elim
      (λ (there : (later : ℕ) × IsKnown s.parcels cpu later × (n < later)).
      let lt = known_below s cpu known there.0 behind there.1 in let less = there.2 in omega arith)
      (λ (there : (e : ℕ) × (end_of s cpu ≡ Some e) × (n < e)).
      let e_is = there.1 in let less = there.2 in let same : there.0 ≡ end = cc in omega arith)
      expected,
)

pub expected_without_end : (s : Stream) (cpu known : ℕ) → end_of s cpu ≡ None
    → (0 < known → IsKnown s.parcels cpu (known - 1)) → ((m : ℕ) → known ≤ m → IsUnknown s.parcels cpu m)
    → (n : ℕ) → IsUnknown s.parcels cpu n → (n < known ↔ IsExpected s cpu n)
expected_without_end s cpu known none last behind n unknown = (
  λ below. expected_below s cpu known n unknown last below,
  λ expected. ⊎_elim
      (λ (there : (later : ℕ) × IsKnown s.parcels cpu later × (n < later)).
      let lt = known_below s cpu known there.0 behind there.1 in let less = there.2 in omega arith)
      (λ (there : (e : ℕ) × (end_of s cpu ≡ Some e) × (n < e)). let e_is = there.1 in cc)
      expected,
)
