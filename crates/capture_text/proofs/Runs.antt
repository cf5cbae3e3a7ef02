-- The runs of CPU after CPU.
use Rattle.std.proofs.Common.{◌≡◌, ℕ, ◌+◌, ◌≤◌, List, [], ◌∷◌, ◌++◌, length, flat_map, Option, refl, ap, ◌∙◌, subst}
use Rattle.std.proofs.Common.{arith}
use Rattle.std.specs.Prelude.{slice_index_or}
use Rattle.std.specs.List.{enumerate_from}
use Rattle.std.proofs.lemmas.List.{length_push}
use Rattle.std.proofs.lemmas.Grind.{flat_map-append}
use Rattle.std.proofs.lemmas.List.{append-nil}
use Rattle.trace_model.specs.Parcel.{Parcel}
use Rattle.trace_model.specs.declared.limits.TheConstants.{MAX_CPUS}
use Rattle.collector.specs.Runs.{AreMissingRuns}
use Rattle.collector.specs.Sound.{AreSound}
use Rattle.collector_text.proofs.Appended.{numbered_behind}
use Rattle.collector_text.proofs.RunsBehind.{AreRunsFrom, runs_more, each_cpu, none_far}
use Rattle.command_io.specs.declared.ends.Sink.{Ghosts}
use Rattle.text_values.specs.declared.output.Out.{Out}
use Rattle.text_values.specs.Putting.{Puts}
use Rattle.capture_text.specs.declared.form.Form.{Form}
use Rattle.capture_text.specs.Window.{KnownBound}
use Rattle.capture_text.specs.Listed.{listed_run, listed_runs}
use Rattle.text_values.proofs.Chains.{put_none, put_more}

more : (line : ℕ → ℕ × ℕ → List ℕ) (runs : List (List (ℕ × ℕ))) (of_cpu : List (ℕ × ℕ)) (cpu : ℕ) → length runs ≡ cpu
    → flat_map (λ (of : ℕ × List (ℕ × ℕ)). flat_map (line of.0) of.1) (enumerate_from 0 (runs ++ of_cpu ∷ []))
    ≡ flat_map (λ (of : ℕ × List (ℕ × ℕ)). flat_map (line of.0) of.1) (enumerate_from 0 runs)
    ++ flat_map (line cpu) of_cpu
more line runs of_cpu cpu count =
    let f : ℕ × List (ℕ × ℕ) → List ℕ = λ of. flat_map (line of.0) of.1 in
    let number : 0 + length runs ≡ cpu = omega arith in
    ap (flat_map f) (numbered_behind 0 runs of_cpu)
    ∙ flat_map-append f (enumerate_from 0 runs) ((0 + length runs, of_cpu) ∷ [])
    ∙ ap (λ (t : List ℕ). flat_map f (enumerate_from 0 runs) ++ t) (append-nil (f (0 + length runs, of_cpu)))
    ∙ ap (λ (c : ℕ). flat_map f (enumerate_from 0 runs) ++ flat_map (line c) of_cpu) number

-- one CPU's runs more
lines_more : (form : Form) (bounds : ℕ → Option KnownBound) (runs : List (List (ℕ × ℕ))) (of_cpu : List (ℕ × ℕ))
    (cpu : ℕ) → length runs ≡ cpu
    → listed_runs form bounds (runs ++ of_cpu ∷ [])
    ≡ listed_runs form bounds runs ++ flat_map (listed_run form (bounds cpu) cpu) of_cpu
lines_more form bounds runs of_cpu cpu count = more (λ c. listed_run form (bounds c) c) runs of_cpu cpu count

-- the text of the runs of all CPUs below this one was put
pub record ArePut {W : Type 0} {g : Ghosts W} (form : Form) (bounds : ℕ → Option KnownBound) (parcels : List Parcel)
    (cpu : ℕ) (o0 o1 : Out W g) : Type 0 where
  pub runs : List (List (ℕ × ℕ))
  pub count : length runs ≡ cpu
  pub each : AreRunsFrom parcels 0 runs
  pub put : Puts (listed_runs form bounds runs) o0 o1

module _ {W : Type 0} {g : Ghosts W} (form : Form) (bounds : ℕ → Option KnownBound) (parcels : List Parcel) where
  -- of no CPU there is none
  pub runs_none : (out : Out W g) → ArePut form bounds parcels 0 out out
  runs_none out = record { runs = []; count = refl; each = tt; put = put_none out }

  -- and so it does with that of the next
  pub runs_put : (cpu : ℕ) (bound : Option KnownBound) (of_cpu : List (ℕ × ℕ)) (o0 o1 o2 : Out W g)
      → bound ≡ bounds cpu → ArePut form bounds parcels cpu o0 o1 → AreMissingRuns parcels cpu of_cpu
      → Puts (flat_map (listed_run form bound cpu) of_cpu) o1 o2 → ArePut form bounds parcels (cpu + 1) o0 o2
  runs_put cpu bound of_cpu o0 o1 o2 is put one more =
      let count = put.count in
      let one_more = length_push put.runs of_cpu in
      let last : Puts (flat_map (listed_run form (bounds cpu) cpu) of_cpu) o1 o2 =
      subst (λ (b : Option KnownBound). Puts (flat_map (listed_run form b cpu) of_cpu) o1 o2) is more in
      record {
        runs = put.runs ++ of_cpu ∷ [];
        count = omega arith;
        each = runs_more parcels 0 put.runs cpu of_cpu (omega arith) put.each one;
        put =
            put_more (listed_runs form bounds (put.runs ++ of_cpu ∷ [])) (listed_runs form bounds put.runs)
            (flat_map (listed_run form (bounds cpu) cpu) of_cpu) o0 o1 o2
            (lines_more form bounds put.runs of_cpu cpu count) put.put last;
      }

  -- if all CPUs are there the runs are those of each
  pub runs_all : (cpu : ℕ) (o0 o1 : Out W g)
      → AreSound parcels → MAX_CPUS ≤ cpu → (put : ArePut form bounds parcels cpu o0 o1)
      → (k : ℕ) → AreMissingRuns parcels k (slice_index_or put.runs k [])
  runs_all cpu o0 o1 sound all put k =
      let count = put.count in
      let e : 0 + k ≡ k = omega arith in
      subst (λ (c : ℕ). AreMissingRuns parcels c (slice_index_or put.runs k [])) e
      (each_cpu parcels 0 put.runs k put.each (λ c number far. none_far parcels sound c number (omega arith)))
