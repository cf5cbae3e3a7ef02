-- The runs of the numbers of a kind that are left from a number on.
use Rattle.std.proofs.Common.{◌≡◌, ⊎_elim, ℕ, ◌+◌, ◌-◌, ◌^◌, ◌<◌, ◌≤◌, List, [], ◌∷◌, subst, arith}
use Rattle.std.proofs.lemmas.Bool.{cases_eq}
use Rattle.trace_model.specs.Parcel.{Parcel}
use Rattle.collector.specs.declared.kinds.Kind.{Kind}
use Rattle.collector.specs.declared.kinds.Kind.TheVariants.{Missing, Unknown}
use Rattle.collector.specs.Sound.{AreSound}
use Rattle.collector.specs.Runs.{AreRuns, AreMissingRuns, AreUnknownRuns, IsOfKind, is_of_kind, runs_from}
use Rattle.collector.proofs.RunLists.{same_runs, Passes, runs_are, none_left, first_left}
use Rattle.collector.proofs.Stretches.{missing_fits}
use Rattle.collector.proofs.OfKind.{is_of_true, of_is_true, is_of_false}

pub no_run_left : (kind : Kind) (ps : List Parcel) (cpu n end : ℕ)
    → ((m : ℕ) → n ≤ m → m < end → IsOfKind kind ps cpu m → ⊥) → runs_from kind ps cpu n end ≡ []
no_run_left kind ps cpu n end none =
    none_left (is_of_kind kind ps cpu) end n (λ m from below. is_of_false kind ps cpu m (none m from below))

pub first_run_left : (kind : Kind) (ps : List Parcel) (cpu n first stop end : ℕ) → n ≤ first → first < stop → stop ≤ end
    → ((m : ℕ) → n ≤ m → m < first → IsOfKind kind ps cpu m → ⊥)
    → ((m : ℕ) → first ≤ m → m < stop → IsOfKind kind ps cpu m)
    → (stop < end → IsOfKind kind ps cpu stop → ⊥)
    → runs_from kind ps cpu n end ≡ (first, stop - 1) ∷ runs_from kind ps cpu stop end
first_run_left kind ps cpu n first stop end from forward fits skipped run stops =
    first_left (is_of_kind kind ps cpu) end n first stop from forward fits
    (λ m from below. is_of_false kind ps cpu m (skipped m from below))
    (λ m from below. is_of_true kind ps cpu m (run m from below))
    (λ below. is_of_false kind ps cpu stop (stops below))

-- from the first number on they are all of them
all_runs_left : (kind : Kind) (ps : List Parcel) (cpu end : ℕ)
    → AreRuns (Passes (is_of_kind kind ps cpu) 0 end) (runs_from kind ps cpu 0 end)
all_runs_left kind ps cpu end =
    runs_are (is_of_kind kind ps cpu) end (end - 0) 0 (let e : 0 + (end - 0) ≡ end = omega arith in e)

pub missing_runs_left : (ps : List Parcel) (cpu : ℕ) → AreSound ps
    → AreMissingRuns ps cpu (runs_from Missing ps cpu 0 (2 ^ 64 - 1))
missing_runs_left ps cpu sound =
    same_runs {P = Passes (is_of_kind Missing ps cpu) 0 (2 ^ 64 - 1)} (runs_from Missing ps cpu 0 (2 ^ 64 - 1))
    (λ m p. of_is_true Missing ps cpu m p.passes)
    (λ m h. record {
      from = omega arith;
      below = missing_fits ps sound cpu m h;
      passes = is_of_true Missing ps cpu m h;
    })
    (all_runs_left Missing ps cpu (2 ^ 64 - 1))

pub unknown_runs_left : (ps : List Parcel) (cpu end : ℕ) → AreUnknownRuns ps cpu end (runs_from Unknown ps cpu 0 end)
unknown_runs_left ps cpu end = same_runs {P = Passes (is_of_kind Unknown ps cpu) 0 end} (runs_from Unknown ps cpu 0 end)
    (λ m p. record { unknown = of_is_true Unknown ps cpu m p.passes; below = p.below })
    (λ m h. record { from = omega arith; below = h.below; passes = is_of_true Unknown ps cpu m h.unknown })
    (all_runs_left Unknown ps cpu end)

-- a run that begins with a number of the kind and ends at one that isn't, or at the end, has a number
pub run_forward : (kind : Kind) (ps : List Parcel) (cpu first stop end : ℕ) → first ≤ stop → first < end
    → IsOfKind kind ps cpu first
    → (stop < end → IsOfKind kind ps cpu stop → ⊥) → first < stop
run_forward kind ps cpu first stop end up fits is stops = ⊎_elim
    (λ (e : first ≡ stop). absurd (stops (subst (λ (q : ℕ). q < end) e fits) (subst (IsOfKind kind ps cpu) e is)))
    (λ (apart : first ≡ stop → ⊥). omega arith)
    (cases_eq first stop)
