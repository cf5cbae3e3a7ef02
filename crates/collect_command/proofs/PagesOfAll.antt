-- The pages of all CPUs, of what is captured of each.
use Rattle.std.proofs.Common.{◌≡◌, ℕ, suc, ◌+◌, List, [], ◌∷◌, length, Option, Some, refl, ap, subst, arith}
use Rattle.std.specs.List.{slice_get}
use Rattle.capture.specs.Pages.{Page}
use Rattle.capture.specs.declared.files.captured.CpuCapture.{CpuCapture}
use Rattle.capture.specs.files.Files.{ModelPart, parts_of_cpu}
use Rattle.capture.specs.files.Captures.{IsCpuCaptured, AreCpusCaptured}
use Rattle.capture.specs.files.Losses.{overrun_by, settled}
use Rattle.trace_dat.specs.declared.kernel_texts.counters.Counters.{Counters}
use Rattle.collect_command.specs.Gathered.{AreCpusPages, AreReadFrom}
use Rattle.collect_command.specs.Listings.{AreCounted}

-- the pages of all CPUs, from this one on
pub record AllPages (counted : ℕ → Option Counters) (parts : List ModelPart) (cpu : ℕ) (cpus : List CpuCapture)
    : Type 0 where
  pub captures : List (List Page)
  pub read : AreReadFrom parts cpu cpus captures
  pub counters_are : AreCounted counted cpu cpus
  pub pages_are : AreCpusPages (λ n. overrun_by (counted n)) parts cpu captures
  pub count : length captures ≡ length cpus

abbrev IsOf : (counted : ℕ → Option Counters) → List ModelPart → CpuCapture → ℕ → Type 0
IsOf counted parts found cpu = IsCpuCaptured cpu (counted cpu) (parts_of_cpu cpu parts) found

all_pages : (counted : ℕ → Option Counters) (parts : List ModelPart) (cpu : ℕ) (cpus : List CpuCapture)
    → ((k : ℕ) (found : CpuCapture) → slice_get cpus k ≡ Some found → IsOf counted parts found (cpu + k))
    → AllPages counted parts cpu cpus
all_pages counted parts cpu [] each = record {
  captures = [];
  read = tt;
  counters_are = tt;
  pages_are = tt;
  count = refl;
}
all_pages counted parts cpu (found ∷ cpus) each =
    let first : IsOf counted parts found cpu =
    subst (IsOf counted parts found) (let e : cpu + 0 ≡ cpu = omega arith in e) (each 0 found refl) in
    let others = all_pages counted parts (suc cpu) cpus
    (λ k x at. subst (IsOf counted parts x) (let e : cpu + suc k ≡ suc cpu + k = omega arith in e)
    (each (suc k) x at)) in
    record {
      captures = settled (overrun_by (counted cpu)) first.pages ∷ others.captures;
      read =
          (record { capture_is = first.capture_is; cpu_is = first.cpu_is; parts_are = first.parts_are }, others.read);
      counters_are = (first.counters_are, others.counters_are);
      pages_are = (
        record {
          pages = first.pages;
          cut = first.cut;
          own_is = refl;
          fit = record { pages_fit = first.capture_is.fit; bytes_fit = first.bytes_fit };
        },
        others.pages_are,
      );
      count = ap suc others.count;
    }

-- the pages of all CPUs
pub pages_captured : (counted : ℕ → Option Counters) (parts : List ModelPart) (cpus : List CpuCapture)
    → AreCpusCaptured counted parts cpus → AllPages counted parts 0 cpus
pages_captured counted parts cpus are =
    all_pages counted parts 0 cpus (λ k found at.
    subst (IsOf counted parts found) (let e : k ≡ 0 + k = omega arith in e) (are.each k found at))
