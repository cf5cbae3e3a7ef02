-- A loss of unknown number, which the kernel's counters may settle.
use Rattle.std.specs.Prelude.{ℕ, ◌+◌, ◌-◌, ◌==◌, ◌&&◌, Bool, true, false, List, [], ◌∷◌, map, Option, Some, None}
use Rattle.std.specs.Prelude.{nat_lt, if◌then◌else◌}
use Rattle.trace_model.specs.Image.{Missed, none, unknown, counted}
use Rattle.page_numbers.specs.Parcels.{ParcelValue}
use Rattle.capture.specs.Pages.{Page, intact, damaged, told}
use Rattle.trace_dat.specs.kernel_texts.Counters.{counters_in}
use Rattle.trace_dat.specs.declared.kernel_texts.counters.Counters.{Counters}
use Rattle.capture.specs.files.Files.{File, counters_of}

-- the counters, if they are of this CPU
abbrev pub cpu_counters_at : (cpu : ℕ) → Option Counters → Option Counters → Option Counters
cpu_counters_at cpu None otherwise = otherwise
cpu_counters_at cpu (Some counters) otherwise = if counters.cpu == cpu then Some counters else otherwise

-- the counters of a CPU, by the first text that has them
abbrev pub cpu_counters_of : (cpu : ℕ) → List (List ℕ) → Option Counters
cpu_counters_of cpu [] = None
cpu_counters_of cpu (text ∷ texts) = cpu_counters_at cpu (counters_in text) (cpu_counters_of cpu texts)

-- the counters that a file has of a CPU in the buffer that is listed, if it is the only file; those of several files
-- say nothing of all
abbrev pub cpu_counters_in : (name : List ℕ) → List File → (cpu : ℕ) → Option Counters
cpu_counters_in name [] cpu = None
cpu_counters_in name (file ∷ []) cpu = cpu_counters_of cpu (counters_of name file)
cpu_counters_in name (file ∷ other ∷ files) cpu = None

-- how many records were overwritten, by the counters of their CPU
abbrev pub overrun_by : Option Counters → Option ℕ
overrun_by None = None
overrun_by (Some counters) = Some counters.overrun

-- how many records of a CPU were overwritten, by the counters of the only file
abbrev pub overrun_in : (name : List ℕ) → List File → (cpu : ℕ) → Option ℕ
overrun_in name files cpu = overrun_by (cpu_counters_in name files cpu)

-- how many records are lost by what pages count
abbrev pub counted_in : Missed → ℕ
counted_in none = 0
counted_in unknown = 0
counted_in (counted events) = events

abbrev pub counted_losses : List Page → ℕ
counted_losses [] = 0
counted_losses (intact read ∷ pages) = counted_in read.missed + counted_losses pages
counted_losses (damaged cause ∷ pages) = counted_losses pages

-- how many losses of unknown number there are
abbrev pub unknown_in : Missed → ℕ
unknown_in none = 0
unknown_in unknown = 1
unknown_in (counted events) = 0

abbrev pub unknown_losses : List Page → ℕ
unknown_losses [] = 0
unknown_losses (intact read ∷ pages) = unknown_in read.missed + unknown_losses pages
unknown_losses (damaged cause ∷ pages) = unknown_losses pages

-- how many numbers parcels miss
abbrev pub missed_in : List ParcelValue → ℕ
missed_in [] = 0
missed_in (parcel ∷ parcels) = parcel.missed + missed_in parcels

-- no page is damaged
abbrev pub are_intact : List Page → Bool
are_intact [] = true
are_intact (intact read ∷ pages) = are_intact pages
are_intact (damaged cause ∷ pages) = false

-- What is known of losses of unknown number in a CPU's pages, if it is known how many of its records were overwritten:
-- if there is one such loss, no page is damaged, and more were overwritten than pages count, it is the rest.
abbrev pub loss_of : (overrun : Option ℕ) → List Page → Missed
loss_of None pages = unknown
loss_of (Some overrun) pages =
    if unknown_losses pages == 1 && are_intact pages && nat_lt (counted_losses pages) overrun
    then counted (overrun - counted_losses pages) else unknown

-- the pages, with what the counters say of their losses
abbrev pub settled : (overrun : Option ℕ) → List Page → List Page
settled overrun pages = map (told (loss_of overrun pages)) pages
