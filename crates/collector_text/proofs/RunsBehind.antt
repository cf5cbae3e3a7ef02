-- The runs of CPU after CPU.
use Rattle.std.proofs.Common.{◌≡◌, ℕ, zero, suc, ◌+◌, ◌≤◌, List, [], ◌∷◌, ◌++◌, length, flat_map, refl, sym, subst}
use Rattle.std.proofs.Common.{arith}
use Rattle.std.specs.Prelude.{⊤, slice_index_or}
use Rattle.std.proofs.lemmas.List.{append-nil, length_push}
use Rattle.trace_model.specs.Parcel.{Parcel}
use Rattle.trace_model.specs.Collection.{Misses}
use Rattle.trace_model.specs.declared.limits.TheConstants.{MAX_CPUS}
use Rattle.collector.specs.Runs.{AreMissingRuns}
use Rattle.collector.specs.Sound.{AreSound}
use Rattle.world_model.specs.Printing.{printed_missing, printed_runs}
use Rattle.collector_text.proofs.Appended.{text_more}

-- the runs of CPUs from this one on
abbrev pub AreRunsFrom : List Parcel → ℕ → List (List (ℕ × ℕ)) → Type 0
AreRunsFrom parcels cpu [] = ⊤
AreRunsFrom parcels cpu (of_cpu ∷ runs) = AreMissingRuns parcels cpu of_cpu × AreRunsFrom parcels (suc cpu) runs

-- those of the next CPU after them
pub runs_more : (parcels : List Parcel) (cpu : ℕ) (runs : List (List (ℕ × ℕ))) (next : ℕ) (of_next : List (ℕ × ℕ))
    → cpu + length runs ≡ next
    → AreRunsFrom parcels cpu runs → AreMissingRuns parcels next of_next
    → AreRunsFrom parcels cpu (runs ++ of_next ∷ [])
runs_more parcels cpu [] next of_next is all one =
    let e : next ≡ cpu = omega arith in
    (subst (λ (c : ℕ). AreMissingRuns parcels c of_next) e one, tt)
runs_more parcels cpu (of_cpu ∷ runs) next of_next is all one =
    (all.0, runs_more parcels (suc cpu) runs next of_next (omega arith) all.1 one)

-- if none is missing there are no runs
no_runs : (parcels : List Parcel) (cpu : ℕ) → ((number : ℕ) → Misses parcels cpu number → ⊥)
    → AreMissingRuns parcels cpu []
no_runs parcels cpu none = record {
  forward = λ k run at. cc at;
  apart = λ k a b at next. cc at;
  of_them = λ number inside. cc inside.at;
  whole = λ number missed. absurd (none number missed);
}

-- the runs of each CPU, if none is missing after the last
pub each_cpu : (parcels : List Parcel) (first : ℕ) (runs : List (List (ℕ × ℕ))) (k : ℕ) → AreRunsFrom parcels first runs
    → ((cpu number : ℕ) → first + length runs ≤ cpu → Misses parcels cpu number → ⊥)
    → AreMissingRuns parcels (first + k) (slice_index_or runs k [])
each_cpu parcels first [] k all none = no_runs parcels (first + k) (λ number. none (first + k) number (omega arith))
each_cpu parcels first (of_cpu ∷ runs) zero all none =
    let e : first ≡ first + 0 = omega arith in
    subst (λ (c : ℕ). AreMissingRuns parcels c of_cpu) e all.0
each_cpu parcels first (of_cpu ∷ runs) (suc k) all none =
    let e : suc first + k ≡ first + suc k = omega arith in
    subst (λ (c : ℕ). AreMissingRuns parcels c (slice_index_or runs k [])) e
    (each_cpu parcels (suc first) runs k all.1 (λ cpu number far. none cpu number (omega arith)))

-- no number is missing of a CPU that there isn't
pub none_far : (parcels : List Parcel) → AreSound parcels → (cpu number : ℕ) → MAX_CPUS ≤ cpu
    → Misses parcels cpu number → ⊥
none_far parcels sound cpu number far missed =
    let fits = (sound missed.index missed.parcel missed.at).cpu_known in
    let is = missed.missing.cpu_is in
    omega arith

-- out is what was there before, then the text of the runs of all CPUs below this one
pub record ArePut (parcels : List Parcel) (cpu : ℕ) (before out : List ℕ) : Type 0 where
  pub runs : List (List (ℕ × ℕ))
  pub count : length runs ≡ cpu
  pub each : AreRunsFrom parcels 0 runs
  pub text : out ≡ before ++ printed_runs runs

-- of no CPU there is none
pub put_none : (parcels : List Parcel) (before : List ℕ) → ArePut parcels 0 before before
put_none parcels before = record { runs = []; count = refl; each = tt; text = sym (append-nil before) }

-- and so it does with that of the next
pub put_more : (parcels : List Parcel) (cpu : ℕ) (before so_far out : List ℕ) (of_cpu : List (ℕ × ℕ))
    → ArePut parcels cpu before so_far
    → AreMissingRuns parcels cpu of_cpu → out ≡ so_far ++ flat_map (printed_missing cpu) of_cpu
    → ArePut parcels (cpu + 1) before out
put_more parcels cpu before so_far out of_cpu put one text =
    let count = put.count in
    let one_more = length_push put.runs of_cpu in
    record {
      runs = put.runs ++ of_cpu ∷ [];
      count = omega arith;
      each = runs_more parcels 0 put.runs cpu of_cpu (omega arith) put.each one;
      text = text_more (λ (of : ℕ × List (ℕ × ℕ)). flat_map (printed_missing of.0) of.1) before so_far out put.runs
          of_cpu cpu count put.text text;
    }

-- if all CPUs are there the runs are those of each
pub put_all : (parcels : List Parcel) (before out : List ℕ) (cpu : ℕ) → AreSound parcels → MAX_CPUS ≤ cpu
    → (put : ArePut parcels cpu before out)
    → (k : ℕ) → AreMissingRuns parcels k (slice_index_or put.runs k [])
put_all parcels before out cpu sound all put k =
    let count = put.count in
    let e : 0 + k ≡ k = omega arith in
    subst (λ (c : ℕ). AreMissingRuns parcels c (slice_index_or put.runs k [])) e
    (each_cpu parcels 0 put.runs k put.each (λ c number far. none_far parcels sound c number (omega arith)))
