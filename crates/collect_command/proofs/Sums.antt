-- The losses of CPUs in sum, one after the other.
use Rattle.std.proofs.Common.{◌≡◌, ℕ, suc, ◌+◌, List, [], ◌∷◌, ◌++◌, length, slice_index_or, append_assoc}
use Rattle.std.proofs.Common.{append-nil, Option, refl, sym, ap, ap₂, ◌∙◌, subst, arith}
use Rattle.trace_dat.specs.declared.kernel_texts.counters.Counters.{Counters}
use Rattle.capture.specs.Pages.{Page, unknown_from}
use Rattle.capture.specs.declared.files.captured.CpuCapture.{CpuCapture}
use Rattle.capture.specs.files.Files.{ModelPart}
use Rattle.capture_text.specs.declared.form.Form.{Form}
use Rattle.capture_text.specs.LossSums.{missing_count}
use Rattle.capture_text.specs.Selection.{Selected}
use Rattle.collect_command.specs.Gathered.{AreReadFrom}
use Rattle.collect_command.specs.Listings.{sum_of, all_sums, AreCounted}

-- the counters of the last of CPUs
pub last_counted : (counted : ℕ → Option Counters) (cpu : ℕ) (front : List CpuCapture) (found : CpuCapture)
    → AreCounted counted cpu (front ++ found ∷ [])
    → AreCounted counted cpu front × (found.counters ≡ counted (cpu + length front))
last_counted counted cpu [] found are =
    (tt, subst (λ (n : ℕ). found.counters ≡ counted n) (let e : cpu ≡ cpu + 0 = omega arith in e) are.0)
last_counted counted cpu (first ∷ front) found are =
    let last = last_counted counted (suc cpu) front found are.1 in (
      (are.0, last.0),
      subst (λ (n : ℕ). found.counters ≡ counted n)
          (let e : suc cpu + length front ≡ cpu + suc (length front) = omega arith in e) last.1,
    )

-- there are as many captures as CPUs
pub read_length : (parts : List ModelPart) (cpu : ℕ) (cpus : List CpuCapture) (captures : List (List Page))
    → AreReadFrom parts cpu cpus captures → length captures ≡ length cpus
read_length parts cpu [] [] read = refl
read_length parts cpu [] (own ∷ captures) read = absurd read
read_length parts cpu (found ∷ cpus) [] read = absurd read
read_length parts cpu (found ∷ cpus) (own ∷ captures) read = ap suc (read_length parts (suc cpu) cpus captures read.1)

module _ (form : Form) (selected : Selected) (counted : ℕ → Option Counters) (runs : List (List (ℕ × ℕ))) where
  -- the losses of one CPU in sum
  abbrev own_sum : (cpu : ℕ) → List Page → List ℕ
  own_sum cpu own =
      sum_of form selected (counted cpu) cpu (missing_count (slice_index_or runs cpu [])) (length (unknown_from 0 own))

  pub sums_more : (cpu : ℕ) (captures : List (List Page)) (own : List Page)
      → all_sums form selected counted runs cpu (captures ++ own ∷ [])
      ≡ all_sums form selected counted runs cpu captures ++ own_sum (cpu + length captures) own
  sums_more cpu [] own =
      append-nil (own_sum cpu own) ∙ ap (λ (n : ℕ). own_sum n own) (let e : cpu ≡ cpu + 0 = omega arith in e)
  sums_more cpu (pages ∷ captures) own =
      ap (λ (text : List ℕ). own_sum cpu pages ++ text) (sums_more (suc cpu) captures own)
      ∙ sym (append_assoc (own_sum cpu pages) (all_sums form selected counted runs (suc cpu) captures)
      (own_sum (suc cpu + length captures) own))
      ∙ ap (λ (n : ℕ). (own_sum cpu pages ++ all_sums form selected counted runs (suc cpu) captures) ++ own_sum n own)
      (let e : suc cpu + length captures ≡ cpu + suc (length captures) = omega arith in e)

-- the sums are those of the missing numbers of each CPU
pub same_sums : (form : Form) (selected : Selected) (counted : ℕ → Option Counters) (runs others : List (List (ℕ × ℕ)))
    (cpu : ℕ) (captures : List (List Page))
    → ((k : ℕ) → slice_index_or runs k [] ≡ slice_index_or others k [])
    → all_sums form selected counted runs cpu captures ≡ all_sums form selected counted others cpu captures
same_sums form selected counted runs others cpu [] same = refl
same_sums form selected counted runs others cpu (own ∷ captures) same =
    ap₂ (λ (own_runs : List (ℕ × ℕ)) (more : List ℕ).
    sum_of form selected (counted cpu) cpu (missing_count own_runs) (length (unknown_from 0 own)) ++ more)
    (same cpu) (same_sums form selected counted runs others (suc cpu) captures same)
