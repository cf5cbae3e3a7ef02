-- The numbers that pages miss, as runs.
use Rattle.std.proofs.Common.{◌≡◌, ◌⊎◌, inl, inr, ⊎_elim, ℕ, zero, suc, ◌+◌, ◌-◌, ◌<◌, ◌≤◌, Bool, true, false}
use Rattle.std.proofs.Common.{append-nil, List, [], ◌∷◌, ◌++◌, length, Some, refl, sym, subst, arith}
use Rattle.std.specs.Prelude.{nat_lt, if◌then◌else◌}
use Rattle.std.specs.List.{slice_get}
use Rattle.std.proofs.lemmas.Bool.{cases_lt}
use Rattle.std.proofs.lemmas.Option.{none-some}
use Rattle.trace_model.proofs.collections.Elements.{some_is}
use Rattle.trace_model.specs.Parcel.{Parcel, IsMissingOf}
use Rattle.trace_model.specs.Collection.{Misses}
use Rattle.collector.specs.Runs.{AreRuns}
use Rattle.collector.proofs.RunLists.{same_runs, runs_push}
use Rattle.capture.specs.Pages.{Page, intact, damaged, least_missed, behind, parcel_at, parcels_from}
use Rattle.page_lines.specs.Tallies.{run_between, run_before, from_after, runs_from}

-- ---- what parcels miss

-- a number that parcels miss is one that the first or one of the others misses
misses_either : (p : Parcel) (ps : List Parcel) (cpu n : ℕ) → Misses (p ∷ ps) cpu n
    → IsMissingOf p cpu n ⊎ Misses ps cpu n
misses_either p ps cpu n h = at_index h.index h.parcel h.at h.missing
  where
    at_index : (k : ℕ) (q : Parcel) → slice_get (p ∷ ps) k ≡ Some q → IsMissingOf q cpu n
        → IsMissingOf p cpu n ⊎ Misses ps cpu n
    at_index zero q at is = inl (subst (λ (x : Parcel). IsMissingOf x cpu n) (sym (some_is p q at)) is)
    at_index (suc k) q at is = inr record { index = k; parcel = q; at = at; missing = is }

misses_behind : (p : Parcel) (ps : List Parcel) (cpu n : ℕ) → Misses ps cpu n → Misses (p ∷ ps) cpu n
misses_behind p ps cpu n h = record { index = suc h.index; parcel = h.parcel; at = h.at; missing = h.missing }

-- they miss no number before the first that is given
missed_above : (cpu fill next n : ℕ) (pages : List Page) → Misses (parcels_from cpu fill next pages) cpu n → next ≤ n
missed_above cpu fill next n [] h = absurd (none-some h.parcel h.at)
missed_above cpu fill next n (damaged cause ∷ pages) h = missed_above cpu (suc fill) next n pages h
missed_above cpu fill next n (intact read ∷ pages) h = ⊎_elim
    (λ (own : IsMissingOf (parcel_at cpu fill next read) cpu n). let low = own.low in omega arith)
    (λ (rest : Misses (parcels_from cpu (suc fill) (behind next (intact read)) pages) cpu n).
    let low = missed_above cpu (suc fill) (behind next (intact read)) n pages rest in omega arith)
    (misses_either (parcel_at cpu fill next read) (parcels_from cpu (suc fill) (behind next (intact read)) pages) cpu n
    h)

-- ---- the runs

-- the numbers from `from` to the one before `next`, and those that parcels miss
abbrev IsMissed : (from next cpu fill : ℕ) → List Page → ℕ → Type 0
IsMissed from next cpu fill pages n = ((from ≤ n) × (n < next)) ⊎ Misses (parcels_from cpu fill next pages) cpu n

pub no_runs : AreRuns (λ n. ⊥) []
no_runs = record {
  forward = λ k run at. absurd (none-some run at);
  apart = λ k a b at next. absurd (none-some a at);
  of_them = λ n h. absurd (none-some h.run h.at);
  whole = λ n h. absurd h;
}

-- a run before the runs of numbers that are behind it
run_first : (from until : ℕ) (P : ℕ → Type 0) (runs : List (ℕ × ℕ)) → AreRuns P runs → ((n : ℕ) → P n → until < n)
    → AreRuns (λ n. ((from ≤ n) × (n < until)) ⊎ P n) (run_between from until ++ runs)
run_first from until P runs are above = by_order (nat_lt from until) refl
  where
    by_order : (b : Bool) → nat_lt from until ≡ b
        → AreRuns (λ n. ((from ≤ n) × (n < until)) ⊎ P n)
        ((if b then (from, until - 1) ∷ [] else []) ++ runs)
    by_order true is =
        let some : from < until = search arith in
        same_runs ((from, until - 1) ∷ runs)
        (λ n h. ⊎_elim
        (λ (here : (from ≤ n) × (n ≤ until - 1)). inl (here.0, omega (arith, some, here.1)))
        (λ (p : P n). inr p) h)
        (λ n h. ⊎_elim
        (λ (here : (from ≤ n) × (n < until)). inl (here.0, omega (arith, some, here.1)))
        (λ (p : P n). inr p) h)
        (runs_push (from, until - 1) runs P (omega (arith, some))
        (λ b at.
        let in_first = are.of_them b.0
        record { index = 0; run = b; at = at; from = omega arith; to = are.forward 0 b at } in
        let low = above b.0 in_first in omega (arith, some, low))
        are)
    by_order false is =
        let none : until ≤ from = search arith in
        same_runs runs (λ n h. inr h)
        (λ n h. ⊎_elim (λ (here : (from ≤ n) × (n < until)). absurd (omega (arith, here.0, here.1, none)))
        (λ (p : P n). p) h) are

-- a page more, of so many records, before runs of numbers that are behind it
with_page : (from next missed count : ℕ) (P : ℕ → Type 0) (runs : List (ℕ × ℕ)) → from ≤ next
    → ((n : ℕ) → P n → next + missed + count ≤ n)
    → AreRuns (λ n. ((from_after from (next + missed) count ≤ n) × (n < next + missed + count)) ⊎ P n) runs
    → AreRuns (λ n. ((from ≤ n) × (n < next + missed)) ⊎ P n) (run_before from (next + missed) count ++ runs)
with_page from next missed zero P runs low above are =
    same_runs runs
    (λ n h. ⊎_elim
    (λ (here : (from ≤ n) × (n < next + missed + 0)). inl (here.0, omega (arith, here.1))) (λ (p : P n). inr p) h)
    (λ n h. ⊎_elim
    (λ (here : (from ≤ n) × (n < next + missed)). inl (here.0, omega (arith, here.1))) (λ (p : P n). inr p) h)
    are
with_page from next missed (suc count) P runs low above are =
    run_first from (next + missed) P runs
    (same_runs runs
    (λ n h. ⊎_elim
    (λ (here : (next + missed + suc count ≤ n) × (n < next + missed + suc count)).
    absurd (omega (arith, here.0, here.1))) (λ (p : P n). p) h)
    (λ n p. inr p) are)
    (λ n p. let up = above n p in omega (arith, up))

-- where a run begins isn't behind the page
begins_within : (from next missed count : ℕ) → from ≤ next
    → from_after from (next + missed) count ≤ next + missed + count
begins_within from next missed zero low = omega arith
begins_within from next missed (suc count) low = omega arith

pub runs_are : (cpu fill from next : ℕ) (pages : List Page) → from ≤ next
    → AreRuns (IsMissed from next cpu fill pages) (runs_from from next pages)
runs_are cpu fill from next [] low =
    subst (AreRuns (IsMissed from next cpu fill [])) (append-nil (run_between from next))
    (same_runs (run_between from next ++ [])
    (λ n h. ⊎_elim (λ (here : (from ≤ n) × (n < next)). inl here) (λ (none : ⊥). absurd none) h)
    (λ n h. ⊎_elim (λ (here : (from ≤ n) × (n < next)). inl here)
    (λ (none : Misses [] cpu n). absurd (none-some none.parcel none.at)) h)
    (run_first from next (λ n. ⊥) [] no_runs (λ n h. absurd h)))
runs_are cpu fill from next (damaged cause ∷ pages) low = runs_are cpu (suc fill) from next pages low
runs_are cpu fill from next (intact read ∷ pages) low =
    let missed = least_missed read.missed in
    let count = length read.records in
    let p = parcel_at cpu fill next read in
    let ps = parcels_from cpu (suc fill) (behind next (intact read)) pages in
    let others = λ (n : ℕ). Misses ps cpu n in
    same_runs (runs_from from next (intact read ∷ pages))
    (λ n h. ⊎_elim
    (λ (here : (from ≤ n) × (n < next + missed)). ⊎_elim
    (λ (lt : n < next). inl (here.0, lt))
    (λ (le : next ≤ n). inr record {
      index = 0;
      parcel = p;
      at = refl;
      missing = record { cpu_is = refl; low = omega (arith, le); high = here.1 };
    })
    (cases_lt n next))
    (λ (rest : Misses ps cpu n). inr (misses_behind p ps cpu n rest)) h)
    (λ n h. ⊎_elim
    (λ (here : (from ≤ n) × (n < next)). inl (here.0, omega (arith, here.1)))
    (λ (miss : Misses (p ∷ ps) cpu n). ⊎_elim
    (λ (own : IsMissingOf p cpu n). inl (omega (arith, own.low, low), own.high))
    (λ (rest : Misses ps cpu n). inr rest)
    (misses_either p ps cpu n miss)) h)
    (with_page from next missed count others
    (runs_from (from_after from (next + missed) count) (behind next (intact read)) pages) low
    (λ n h. missed_above cpu (suc fill) (behind next (intact read)) n pages h)
    (runs_are cpu (suc fill) (from_after from (next + missed) count) (behind next (intact read)) pages
    (begins_within from next missed count low)))

pub runs_of_all : (cpu fill : ℕ) (pages : List Page)
    → AreRuns (Misses (parcels_from cpu fill 0 pages) cpu) (runs_from 0 0 pages)
runs_of_all cpu fill pages =
    same_runs (runs_from 0 0 pages)
    (λ n h. ⊎_elim (λ (here : (0 ≤ n) × (n < 0)). absurd (omega (arith, here.1)))
    (λ (miss : Misses (parcels_from cpu fill 0 pages) cpu n). miss) h)
    (λ n miss. inr miss) (runs_are cpu fill 0 0 pages (omega arith))
