-- Numbers have one list of runs, and the runs of CPUs one text.
use Rattle.std.proofs.Common.{◌≡◌, ◌⊎◌, inl, inr, ⊎_elim, ℕ, zero, suc, ◌+◌, ◌<◌, ◌≤◌, List, [], ◌∷◌, ◌++◌, flat_map}
use Rattle.std.proofs.Common.{Some, refl, sym, ap₂, subst, arith}
use Rattle.std.specs.Prelude.{⊤, slice_index_or}
use Rattle.std.specs.List.{enumerate_from, slice_get}
use Rattle.std.proofs.lemmas.Bool.{cases_lt}
use Rattle.trace_model.specs.Runs.{InRun, AreRuns}
use Rattle.trace_model.proofs.collections.Elements.{some_is}

-- ---- runs of the same numbers are the same

-- they begin at this number or after it, rise, and none touches the next
Rise : ℕ → List (ℕ × ℕ) → Type 0
Rise low [] = ⊤
Rise low (run ∷ runs) = (low ≤ run.0) × (run.0 ≤ run.1) × Rise (suc (suc run.1)) runs

-- the first or another one has the number
In : ℕ → List (ℕ × ℕ) → Type 0
In n [] = ⊥
In n (run ∷ runs) = ((run.0 ≤ n) × (n ≤ run.1)) ⊎ In n runs

rise_of : (low : ℕ) (runs : List (ℕ × ℕ))
    → ((k : ℕ) (run : ℕ × ℕ) → slice_get runs k ≡ Some run → run.0 ≤ run.1)
    → ((k : ℕ) (a b : ℕ × ℕ) → slice_get runs k ≡ Some a → slice_get runs (suc k) ≡ Some b → suc a.1 < b.0)
    → ((run : ℕ × ℕ) → slice_get runs 0 ≡ Some run → low ≤ run.0)
    → Rise low runs
unfolding Rise
rise_of low [] forward apart from = tt
rise_of low (run ∷ runs) forward apart from = (
  from run refl,
  forward 0 run refl,
  rise_of (suc (suc run.1)) runs (λ k. forward (suc k)) (λ k. apart (suc k))
      (λ next at. let far = apart 0 run next refl at in omega arith),
)

in_of : (n : ℕ) (runs : List (ℕ × ℕ)) (k : ℕ) (run : ℕ × ℕ) → slice_get runs k ≡ Some run → run.0 ≤ n → n ≤ run.1
    → In n runs
unfolding In
in_of n [] k run at from to = cc at
in_of n (first ∷ runs) zero run at from to =
    inl (subst (λ (q : ℕ × ℕ). (q.0 ≤ n) × (n ≤ q.1)) (sym (some_is first run at)) (from, to))
in_of n (first ∷ runs) (suc k) run at from to = inr (in_of n runs k run at from to)

in_run : (n : ℕ) (runs : List (ℕ × ℕ)) → In n runs → InRun runs n
unfolding In
in_run n [] h = absurd h
in_run n (run ∷ runs) h = ⊎_elim
    (λ (here : (run.0 ≤ n) × (n ≤ run.1)). record { index = 0; run = run; at = refl; from = here.0; to = here.1 })
    (λ (behind : In n runs).
    let i = in_run n runs behind in
    record { index = suc i.index; run = i.run; at = i.at; from = i.from; to = i.to })
    h

above : (low n : ℕ) (runs : List (ℕ × ℕ)) → Rise low runs → In n runs → low ≤ n
unfolding Rise In
above low n [] rise h = absurd h
above low n (run ∷ runs) rise h = ⊎_elim
    (λ (here : (run.0 ≤ n) × (n ≤ run.1)). omega arith)
    (λ (behind : In n runs). let far = above (suc (suc run.1)) n runs rise.2 behind in omega arith)
    h

first_below : (low n : ℕ) (run : ℕ × ℕ) (runs : List (ℕ × ℕ)) → Rise low (run ∷ runs) → In n (run ∷ runs) → run.0 ≤ n
unfolding Rise In
first_below low n run runs rise h = ⊎_elim
    (λ (here : (run.0 ≤ n) × (n ≤ run.1)). here.0)
    (λ (behind : In n runs). let far = above (suc (suc run.1)) n runs rise.2 behind in omega arith)
    h

-- the first run doesn't end after the other's first, which begins no later
end_below : (low : ℕ) (a b : ℕ × ℕ) (xs ys : List (ℕ × ℕ)) → Rise low (a ∷ xs) → b.0 ≤ a.0
    → ((n : ℕ) → In n (b ∷ ys) → In n (a ∷ xs)) → b.1 ≤ a.1
unfolding Rise In
end_below low a b xs ys rise begins there = ⊎_elim
    (λ (more : a.1 < b.1).
    let up = rise.1 in
    ⊎_elim
    (λ (here : (a.0 ≤ suc a.1) × (suc a.1 ≤ a.1)). let e = here.1 in omega arith)
    (λ (behind : In (suc a.1) xs). let far = above (suc (suc a.1)) (suc a.1) xs rise.2 behind in omega arith)
    (there (suc a.1) (inl ((let e : b.0 ≤ suc a.1 = omega arith in e), more))))
    (λ (most : b.1 ≤ a.1). most)
    (cases_lt a.1 b.1)

-- what is in the rest of one is in the rest of the other, if the first runs end alike
behind_first : (low : ℕ) (a b : ℕ × ℕ) (xs ys : List (ℕ × ℕ)) → Rise low (a ∷ xs) → a.1 ≡ b.1
    → ((n : ℕ) → In n (a ∷ xs) → In n (b ∷ ys)) → (n : ℕ) → In n xs → In n ys
unfolding Rise In
behind_first low a b xs ys rise ends there n h = ⊎_elim
    (λ (here : (b.0 ≤ n) × (n ≤ b.1)).
    let far = above (suc (suc a.1)) n xs rise.2 h in
    let to = here.1 in
    absurd (omega arith))
    (λ (behind : In n ys). behind)
    (there n (inr h))

same_from : (low other : ℕ) (xs ys : List (ℕ × ℕ)) → Rise low xs → Rise other ys
    → ((n : ℕ) → In n xs → In n ys) → ((n : ℕ) → In n ys → In n xs) → xs ≡ ys
unfolding Rise In
same_from low other [] [] rise also there back = refl
same_from low other [] (b ∷ ys) rise also there back = absurd (back b.0
    (inl ((let e : b.0 ≤ b.0 = omega arith in e), also.1)))
same_from low other (a ∷ xs) [] rise also there back = absurd (there a.0
    (inl ((let e : a.0 ≤ a.0 = omega arith in e), rise.1)))
same_from low other (a ∷ xs) (b ∷ ys) rise also there back =
    let left : b.0 ≤ a.0 = first_below other a.0 b ys also (there a.0 (inl
    ((let e : a.0 ≤ a.0 = omega arith in e), rise.1))) in
    let right : a.0 ≤ b.0 = first_below low b.0 a xs rise (back b.0 (inl
    ((let e : b.0 ≤ b.0 = omega arith in e), also.1))) in
    let begins : a.0 ≡ b.0 = omega arith in
    let ends_low : b.1 ≤ a.1 = end_below low a b xs ys rise left back in
    let ends_high : a.1 ≤ b.1 = end_below other b a ys xs also right there in
    let ends : a.1 ≡ b.1 = omega arith in
    let rest = same_from (suc (suc a.1)) (suc (suc b.1)) xs ys rise.2 also.2
    (behind_first low a b xs ys rise ends there) (behind_first other b a ys xs also (sym ends) back) in
    (λ i. (begins i, ends i) ∷ rest i)

-- numbers have one list of runs
pub one_runs : (P : ℕ → Type 0) (xs ys : List (ℕ × ℕ)) → AreRuns P xs → AreRuns P ys → xs ≡ ys
one_runs P xs ys a b =
    let there : (n : ℕ) → In n xs → In n ys = λ n h.
    let i = b.whole n (a.of_them n (in_run n xs h)) in in_of n ys i.index i.run i.at i.from i.to in
    let here : (n : ℕ) → In n ys → In n xs = λ n h.
    let i = a.whole n (b.of_them n (in_run n ys h)) in in_of n xs i.index i.run i.at i.from i.to in
    same_from 0 0 xs ys (rise_of 0 xs a.forward a.apart (λ run at. omega arith))
    (rise_of 0 ys b.forward b.apart (λ run at. omega arith)) there here

-- ---- the lines of runs

-- the lines of the runs of CPUs from this one on
abbrev lines_from : (ℕ → ℕ × ℕ → List ℕ) → ℕ → List (List (ℕ × ℕ)) → List ℕ
lines_from line cpu runs = flat_map (λ (of : ℕ × List (ℕ × ℕ)). flat_map (line of.0) of.1) (enumerate_from cpu runs)

no_lines : (line : ℕ → ℕ × ℕ → List ℕ) (cpu : ℕ) (runs : List (List (ℕ × ℕ)))
    → ((k : ℕ) → slice_index_or runs k [] ≡ []) → lines_from line cpu runs ≡ []
no_lines line cpu [] none = refl
no_lines line cpu (of_cpu ∷ runs) none =
    ap₂ (λ (rs : List (ℕ × ℕ)) (text : List ℕ). flat_map (line cpu) rs ++ text) (none 0)
    (no_lines line (cpu + 1) runs (λ k. none (suc k)))

-- equal runs have one text
pub one_runs_text : (line : ℕ → ℕ × ℕ → List ℕ) (cpu : ℕ) (xs ys : List (List (ℕ × ℕ)))
    → ((k : ℕ) → slice_index_or xs k [] ≡ slice_index_or ys k []) → lines_from line cpu xs ≡ lines_from line cpu ys
one_runs_text line cpu [] ys same = sym (no_lines line cpu ys (λ k. sym (same k)))
one_runs_text line cpu (a ∷ xs) [] same = no_lines line cpu (a ∷ xs) same
one_runs_text line cpu (a ∷ xs) (b ∷ ys) same =
    ap₂ (λ (rs : List (ℕ × ℕ)) (text : List ℕ). flat_map (line cpu) rs ++ text) (same 0)
    (one_runs_text line (cpu + 1) xs ys (λ k. same (suc k)))
