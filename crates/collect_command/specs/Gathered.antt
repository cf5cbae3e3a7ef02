-- The pages of each CPU, as they are read of files.
use Rattle.std.specs.Prelude.{◌≡◌, ℕ, suc, List, [], ◌∷◌, map, Option, ⊤}
use Rattle.capture.specs.Pages.{Page}
use Rattle.capture.specs.Captures.{IsCapture}
use Rattle.capture.specs.declared.files.captured.CpuCapture.{CpuCapture}
use Rattle.capture.specs.files.Files.{ModelPart, parts_of_cpu}
use Rattle.capture.specs.files.Captures.{CutsOf, FitCpu, measured}
use Rattle.capture.specs.files.Losses.{settled}

-- the pages of a CPU's parts, with what the counters say of their losses; its numbers fit
pub record AreCpuPages (overrun : Option ℕ) (parts : List ModelPart) (own : List Page) : Type 0 where
  pub pages : List Page
  pub cut : CutsOf parts pages
  pub own_is : own ≡ settled overrun pages
  pub fit : FitCpu parts own

-- the pages of each CPU, from this one on
abbrev pub AreCpusPages : (overrun : ℕ → Option ℕ) → List ModelPart → (cpu : ℕ) → List (List Page) → Type 0
AreCpusPages overrun parts cpu [] = ⊤
AreCpusPages overrun parts cpu (own ∷ captures) =
    AreCpuPages (overrun cpu) (parts_of_cpu cpu parts) own × AreCpusPages overrun parts (suc cpu) captures

-- what is read of a CPU's parts is what these pages are
pub record IsReadFrom (parts : List ModelPart) (cpu : ℕ) (found : CpuCapture) (own : List Page) : Type 0 where
  pub capture_is : IsCapture found.capture own
  pub cpu_is : found.capture.cpu.0 ≡ cpu
  pub parts_are : found.parts.items ≡ map measured (parts_of_cpu cpu parts)

-- so it is of each CPU, from this one on
abbrev pub AreReadFrom : List ModelPart → (cpu : ℕ) → List CpuCapture → List (List Page) → Type 0
AreReadFrom parts cpu [] [] = ⊤
AreReadFrom parts cpu [] (own ∷ captures) = ⊥
AreReadFrom parts cpu (found ∷ more) [] = ⊥
AreReadFrom parts cpu (found ∷ more) (own ∷ captures) =
    IsReadFrom parts cpu found own × AreReadFrom parts (suc cpu) more captures
