-- One file more.
use Rattle.std.specs.Prelude.{◌≡◌, ℕ, Bool, true, false, List, [], ◌∷◌, ◌++◌, Option, Err, ⊤}
use Rattle.std.specs.Io.KnownBytes.{Consumes, IsAtEnd}
use Rattle.trace_dat.specs.declared.kernel_texts.counters.Counters.{Counters}
use Rattle.capture.specs.declared.files.captured.Captured.{Captured}
use Rattle.capture.specs.declared.files.dat.Losses.{Losses}
use Rattle.capture.specs.declared.files.dat.Losses.TheVariants.{Kept, Settled}
use Rattle.capture.specs.declared.files.fault.InputFault.{InputFault}
use Rattle.capture.specs.declared.files.fault.InputFault.TheVariants as faults
use Rattle.capture.specs.files.Files.{File, is_dat, parts_after, counters_of}
use Rattle.capture.specs.files.Losses.{cpu_counters_of}
use Rattle.capture.specs.files.Captures.{AreFilesRead, AreFilesPast, unsaid}

-- what the counters of a file say, if they are used
abbrev pub said_by : Losses → (name : List ℕ) → File → ℕ → Option Counters
said_by Kept name file = unsaid
said_by Settled name file = λ cpu. cpu_counters_of cpu (counters_of name file)

-- the first file of all, if its counters are used
abbrev pub IsAlone : Losses → List File → Type 0
IsAlone Kept files = ⊤
IsAlone Settled files = files ≡ []

-- after these files this one was read
abbrev pub AddsFile : Losses → (page : ℕ) → (name : List ℕ) → List File → File → Captured → Type 0
AddsFile losses page name files file captured = AreFilesRead (said_by losses name file) page name
    (files ++ file ∷ []) captured

-- after these files a file was read, of which `first` had been read already
pub record AddsRestOf (losses : Losses) (page : ℕ) (name : List ℕ) (cpu : ℕ) (first : List ℕ) (unread left : Option
    (List ℕ))
    (files : List File) (captured : Captured) : Type 0 where
  pub more : List ℕ
  pub taken : Consumes unread left more
  pub added : AddsFile losses page name files (record { cpu = cpu; bytes = first ++ more }) captured

-- why a file wasn't read after these files, though its bytes were
abbrev pub IsFileFault : Losses → (page : ℕ) → (name : List ℕ) → List File → File → InputFault → Type 0
IsFileFault losses page name files file faults.Read = ⊥
IsFileFault losses page name files file (faults.File fault) = parts_after page name files file ≡ Err fault
IsFileFault losses page name files file faults.Numbers = AreFilesPast (said_by losses name file) page name
    (files ++ file ∷ [])
IsFileFault losses page name files file faults.NoMemory = ⊤

-- Why a file wasn't read of which `first` had been read already; `failed` says whether a read has failed.
abbrev pub IsRestFault : Losses → (page : ℕ) → (name : List ℕ) → (cpu : ℕ) → (first : List ℕ)
    → (unread left : Option (List ℕ)) → (failed : Bool)
    → List File → InputFault → Type 0
IsRestFault losses page name cpu first unread left failed files faults.Read = failed ≡ true
IsRestFault losses page name cpu first unread left failed files (faults.File fault) =
    (failed ≡ false) × ((more : List ℕ) × Consumes unread left more
    × (parts_after page name files (record { cpu = cpu; bytes = first ++ more }) ≡ Err fault)
    × (is_dat name (first ++ more) ≡ true → IsAtEnd left))
IsRestFault losses page name cpu first unread left failed files faults.Numbers =
    (failed ≡ false) × ((more : List ℕ) × Consumes unread left more
    × AreFilesPast (said_by losses name (record { cpu = cpu; bytes = first ++ more })) page name
    (files ++ record { cpu = cpu; bytes = first ++ more } ∷ []))
IsRestFault losses page name cpu first unread left failed files faults.NoMemory = failed ≡ false
