-- What is read of files, by CPU.
use Rattle.std.specs.Prelude.{◌≡◌, true, ◌⊎◌, ℕ, ◌+◌, ◌^◌, ◌<◌, List, [], ◌∷◌, ◌++◌, length, map, Option, Some}
use Rattle.std.specs.Prelude.{None}
use Rattle.std.specs.Global.{Vec}
use Rattle.std.specs.List.{slice_get}
use Rattle.std.specs.Io.KnownBytes.{Consumes}
use Rattle.trace_model.specs.declared.limits.TheConstants.{MAX_CPUS}
use Rattle.trace_model.specs.Image.{Missed, unknown}
use Rattle.capture.specs.Pages.{Page, told, AreCut, Fit}
use Rattle.capture.specs.Captures.{IsCapture}
use Rattle.capture.specs.Smaller.{smaller_pages}
use Rattle.std.specs.Option.{option_map}
use Rattle.kernel_names.specs.Tasks.{HasTasks}
use Rattle.kernel_names.specs.SymbolNames.{HasSymbols}
use Rattle.trace_dat.specs.kernel_texts.Names.{HasEvents}
use Rattle.trace_dat.specs.declared.kernel_texts.counters.Counters.{Counters}
use Rattle.capture.specs.declared.part.Part.{Part}
use Rattle.capture.specs.declared.files.captured.CpuCapture.{CpuCapture}
use Rattle.capture.specs.declared.files.captured.Captured.{Captured}
use Rattle.capture.specs.files.Files.{File, ModelPart, bytes_in, parts_of_cpu, ArePartsOf, all_formats, all_others}
use Rattle.capture.specs.files.Files.{is_in_any, tasks_of, symbols_of, all_lines, if_wanted, machine_in, are_of_one}
use Rattle.capture.specs.files.Files.{first_cut}
use Rattle.capture.specs.files.Losses.{cpu_counters_in, overrun_by, loss_of, settled}

-- The pages of parts are those of the first, and then those of the others: each part is cut for itself.
abbrev pub CutsOf : List ModelPart → List Page → Type 0
CutsOf [] pages = pages ≡ []
CutsOf (part ∷ parts) pages =
    (own : List Page) × (others : List Page) × (pages ≡ own ++ others) × AreCut part.size part.bytes own
    × CutsOf parts others

-- the size of a part's pages, and how many bytes it has
abbrev pub measured : ModelPart → Part
measured part = record { size = part.size; length = length part.bytes }

-- What is read of a CPU: the pages of these parts, with what is known of a loss of unknown number.
pub record IsCpuSettled (cpu : ℕ) (overrun : Option ℕ) (parts : List ModelPart) (found : CpuCapture) : Type 0 where
  pub pages : List Page
  pub cut : CutsOf parts pages
  pub cpu_is : found.capture.cpu.0 ≡ cpu
  pub capture_is : IsCapture found.capture (settled overrun pages)
  pub parts_are : found.parts.items ≡ map measured parts
  pub bytes_are : found.bytes ≡ bytes_in parts
  pub bytes_fit : bytes_in parts < 2 ^ 64

-- What is read of a CPU: the pages of these parts, with what its counters say of a loss of unknown number, and these.
pub record IsCpuCaptured (cpu : ℕ) (counted : Option Counters) (parts : List ModelPart) (found : CpuCapture) : Type 0
  where
    pub pages : List Page
    pub cut : CutsOf parts pages
    pub cpu_is : found.capture.cpu.0 ≡ cpu
    pub capture_is : IsCapture found.capture (settled (overrun_by counted) pages)
    pub counters_are : found.counters ≡ counted
    pub parts_are : found.parts.items ≡ map measured parts
    pub bytes_are : found.bytes ≡ bytes_in parts
    pub bytes_fit : bytes_in parts < 2 ^ 64

-- a part was counted
pub record CountsPart (old new : CpuCapture) (part : Part) : Type 0 where
  pub capture_is : new.capture ≡ old.capture
  pub counters_are : new.counters ≡ old.counters
  pub parts_are : new.parts.items ≡ old.parts.items ++ part ∷ []
  pub bytes_are : new.bytes ≡ old.bytes + part.length
  pub fits : old.bytes + part.length < 2 ^ 64

-- What is read of a CPU so far, if a loss of unknown number is `known`; its counters aren't.
pub record IsCpuRead (known : Missed) (cpu : ℕ) (parts : List ModelPart) (found : CpuCapture) : Type 0 where
  pub pages : List Page
  pub cut : CutsOf parts pages
  pub cpu_is : found.capture.cpu.0 ≡ cpu
  pub capture_is : IsCapture found.capture (map (told known) pages)
  pub counters_are : found.counters ≡ None
  pub parts_are : found.parts.items ≡ map measured parts
  pub bytes_are : found.bytes ≡ bytes_in parts
  pub bytes_fit : bytes_in parts < 2 ^ 64

-- what is read of each CPU, if a loss of unknown number is `known` and these parts are read
pub record AreCpusRead (known : Missed) (parts : List ModelPart) (cpus : List CpuCapture) : Type 0 where
  pub count : length cpus ≡ MAX_CPUS
  pub each : (cpu : ℕ) (found : CpuCapture) → slice_get cpus cpu ≡ Some found
      → IsCpuRead known cpu (parts_of_cpu cpu parts) found

-- what is read of each CPU, if the files have these parts and counters
pub record AreCpusCaptured (counted : ℕ → Option Counters) (parts : List ModelPart) (cpus : List CpuCapture) : Type 0
  where
    pub count : length cpus ≡ MAX_CPUS
    pub each : (cpu : ℕ) (found : CpuCapture) → slice_get cpus cpu ≡ Some found
        → IsCpuCaptured cpu (counted cpu) (parts_of_cpu cpu parts) found

-- texts that own their bytes
abbrev pub texts_held : List (Vec ℕ) → List (List ℕ)
texts_held texts = map (λ text. text.items) texts

-- What is read of files, none of which has a fault, if `counted` are the counters of each CPU.
pub record AreFilesRead (counted : ℕ → Option Counters) (page : ℕ) (name : List ℕ) (files : List File)
    (captured : Captured) : Type 0 where
  pub parts : List ModelPart
  pub parts_are : ArePartsOf page name files parts
  pub cpus_are : AreCpusCaptured counted parts captured.cpus.items
  pub names_are : HasEvents captured.names (all_formats files)
  pub others_are : texts_held captured.others.items ≡ all_others name files
  pub found_is : captured.found ≡ is_in_any name files
  pub tasks_are : HasTasks captured.tasks (if_wanted captured.wanted.tasks (all_lines tasks_of files))
  pub symbols_are : HasSymbols captured.symbols (if_wanted captured.wanted.symbols (all_lines symbols_of files))
  pub machine_is : option_map (λ text. text.items) captured.machine ≡ machine_in files
  pub cut_is : captured.cut ≡ first_cut name 0 files
  pub of_one : are_of_one None files ≡ true

-- What is read of files: if there is one alone, its counters are kept, and settle losses.
abbrev pub AreCaptured : (page : ℕ) → (name : List ℕ) → List File → Captured → Type 0
AreCaptured page name files captured = AreFilesRead (cpu_counters_in name files) page name files captured

-- there are no counters
abbrev pub unsaid : ℕ → Option Counters
unsaid cpu = None

-- the numbers of a CPU's records, pages and bytes fit 64 bits
pub record FitCpu (parts : List ModelPart) (pages : List Page) : Type 0 where
  pub pages_fit : Fit pages
  pub bytes_fit : bytes_in parts < 2 ^ 64

-- these parts of a CPU were read, and with a beginning of the next one the numbers don't fit
pub record IsPartPast (known : Missed) (parts : List ModelPart) (part : ModelPart) : Type 0 where
  pub front : List ℕ
  pub behind : List ℕ
  pub bytes_are : part.bytes ≡ front ++ behind
  pub pages : List Page
  pub cut : CutsOf (parts ++ record part { bytes = front } ∷ []) pages
  pub past : FitCpu (parts ++ record part { bytes = front } ∷ []) (map (told known) pages) → ⊥

-- A source, of which `first` had been read, had `unread` before, and `left` after these bytes: none, if the first ones
-- are less than a page. No page shows that there are smaller ones.
pub record IsRest (size : ℕ) (first : List ℕ) (unread left : Option (List ℕ)) (more : List ℕ) : Type 0 where
  pub taken : Consumes unread left more
  pub no_more : length first < size → more ≡ []
  pub none_smaller : smaller_pages size (first ++ more) ≡ None

-- a part, which is a source of which `first` had been read, was read after these parts of a CPU
pub record AddsRaw (cpu size : ℕ) (first : List ℕ) (unread left : Option (List ℕ)) (parts : List ModelPart)
    (found : CpuCapture) : Type 0 where
  pub more : List ℕ
  pub rest : IsRest size first unread left more
  pub read : IsCpuRead unknown cpu (parts ++ record { cpu = cpu; size = size; bytes = first ++ more } ∷ []) found

-- with a beginning of that part the numbers don't fit
pub record IsRawPast (cpu size : ℕ) (first : List ℕ) (unread left : Option (List ℕ)) (parts : List ModelPart)
    : Type 0 where
  pub more : List ℕ
  pub rest : IsRest size first unread left more
  pub past : IsPartPast unknown parts (record { cpu = cpu; size = size; bytes = first ++ more })

-- a source, of which `first` had been read, shows that its pages are smaller, and have this size
pub record IsRawSmaller (size : ℕ) (first : List ℕ) (unread left : Option (List ℕ)) (smaller : ℕ) : Type 0 where
  pub more : List ℕ
  pub taken : Consumes unread left more
  pub no_more : length first < size → more ≡ []
  pub smaller_is : smaller_pages size (first ++ more) ≡ Some smaller

-- Numbers don't fit: of the parts of a CPU some were read, `whole`, and a beginning of the next one. A loss of unknown
-- number is `known`.
pub record IsCpuPast (known : Missed) (cpu : ℕ) (parts : List ModelPart) : Type 0 where
  pub whole : List ModelPart
  pub last : ModelPart
  pub behind : List ℕ
  pub further : List ModelPart
  pub begin : parts_of_cpu cpu parts ≡ whole ++ record last { bytes = last.bytes ++ behind } ∷ further
  pub pages : List Page
  pub cut : CutsOf (whole ++ last ∷ []) pages
  pub past : FitCpu (whole ++ last ∷ []) (map (told known) pages) → ⊥

-- what is known of a loss of unknown number in the pages of parts: nothing, or what the counters say of it
abbrev pub IsKnown : (overrun : Option ℕ) → List ModelPart → Missed → Type 0
IsKnown overrun parts known =
    (known ≡ unknown) ⊎ ((pages : List Page) × CutsOf parts pages × (known ≡ loss_of overrun pages))

-- the numbers of a CPU don't fit, once what is known of its loss is counted
abbrev pub IsOwnPast : (overrun : Option ℕ) → (cpu : ℕ) → List ModelPart → Type 0
IsOwnPast overrun cpu parts =
    (known : Missed) × IsKnown overrun (parts_of_cpu cpu parts) known × IsCpuPast known cpu parts

-- Numbers of a CPU of these files don't fit, if `counted` are the counters of each.
pub record AreFilesPast (counted : ℕ → Option Counters) (page : ℕ) (name : List ℕ) (files : List File) : Type 0 where
  pub parts : List ModelPart
  pub parts_are : ArePartsOf page name files parts
  pub of_one : are_of_one None files ≡ true
  pub cpu : ℕ
  pub past : IsOwnPast (overrun_by (counted cpu)) cpu parts

-- Numbers of a CPU of these files don't fit.
abbrev pub ArePast : (page : ℕ) → (name : List ℕ) → List File → Type 0
ArePast page name files = AreFilesPast (cpu_counters_in name files) page name files
