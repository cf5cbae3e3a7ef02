-- What pages say besides their records.
use Rattle.std.specs.Prelude.{◌≡◌, ℕ, zero, suc, ◌+◌, ◌-◌, ◌^◌, ◌<◌, nat_lt, if◌then◌else◌, List, []}
use Rattle.std.specs.Prelude.{◌∷◌, ◌++◌, length, map}
use Rattle.std.specs.Prelude.{Option, Some, None, ⊤}
use Rattle.std.specs.List.{enumerate_from}
use Rattle.trace_model.specs.Record.{Record}
use Rattle.trace_model.specs.declared.numbers.CpuId.{CpuId}
use Rattle.trace_model.specs.declared.numbers.RecordNo.{RecordNo}
use Rattle.page_image.specs.declared.image.Missed.{Missed}
use Rattle.page_numbers.specs.Parcels.{ParcelValue, as_parcel}
use Rattle.capture.specs.Pages.{Page, intact, damaged, least_missed, behind, unknown_from, damages_from}
use Rattle.capture.specs.Pages.{end_from, Fit}
use Rattle.capture.specs.Captures.{numbers_of, AreDamages}
use Rattle.page_lines.specs.declared.page.Loss.{Loss}
use Rattle.page_lines.specs.declared.tally.Tally.{Tally}

-- ---- the numbers that pages miss

-- the run of the numbers from `from` to the one before `until`, if there are some
abbrev pub run_between : (from until : ℕ) → List (ℕ × ℕ)
run_between from until = if nat_lt from until then (from, until - 1) ∷ [] else []

-- the run that ends before so many records, if there are some: the first of them is `first`
abbrev pub run_before : (from first count : ℕ) → List (ℕ × ℕ)
run_before from first zero = []
run_before from first (suc count) = run_between from first

-- the number after that of the last of so many records, or else what it was
abbrev pub from_after : (from first count : ℕ) → ℕ
from_after from first zero = from
from_after from first (suc count) = first + suc count

-- The runs that pages miss, if `next` numbers are before them, and those from `from` on are missing.
abbrev pub runs_from : (from next : ℕ) → List Page → List (ℕ × ℕ)
runs_from from next [] = run_between from next
runs_from from next (intact read ∷ pages) =
    run_before from (next + least_missed read.missed) (length read.records)
    ++ runs_from (from_after from (next + least_missed read.missed) (length read.records)) (behind next (intact read))
    pages
runs_from from next (damaged cause ∷ pages) = runs_from from next pages

-- ---- the records of pages, each under its number

abbrev pub entries_from : (next : ℕ) → List Page → List (ℕ × Record)
entries_from next [] = []
entries_from next (intact read ∷ pages) =
    enumerate_from (next + least_missed read.missed) read.records ++ entries_from (behind next (intact read)) pages
entries_from next (damaged cause ∷ pages) = entries_from next pages

-- ---- the tally

abbrev pub run_numbers : RecordNo × RecordNo → ℕ × ℕ
run_numbers run = (run.0.0, run.1.0)

-- What is said of these pages. Of the runs that they and others after them miss, some are known.
pub record IsTally (tally : Tally) (pages : List Page) : Type 0 where
  pub missing_are : (more : List Page)
      → map run_numbers tally.missing.items ++ runs_from tally.from.0 tally.next.0 more ≡ runs_from 0 0 (pages ++ more)
  pub unknown_are : numbers_of tally.unknown.items ≡ unknown_from 0 pages
  pub damaged_are : AreDamages tally.damaged.items (damages_from 0 0 pages)
  pub next_is : tally.next.0 ≡ end_from 0 pages
  pub count_is : tally.pages ≡ length pages
  pub fit : Fit pages

-- it is of the same CPU, and a loss of unknown number is taken as before
pub record KeepsRing (old new : Tally) : Type 0 where
  pub cpu_is : new.cpu ≡ old.cpu
  pub known_is : new.known ≡ old.known

-- nothing is read yet of a CPU, and a loss of unknown number is taken as this
pub record HasNothing (cpu : CpuId) (known : Missed) (tally : Tally) : Type 0 where
  pub cpu_is : tally.cpu ≡ cpu
  pub known_is : tally.known ≡ known
  pub none_unknown : tally.stated.unknown ≡ 0
  pub none_counted : tally.stated.counted ≡ 0
  pub tally_is : IsTally tally []

-- So many records were counted, the first of which is `first`, and before them this loss.
pub record AddsRead (old : Tally) (loss : Loss) (count first : ℕ) (new : Tally) : Type 0 where
  pub first_is : first ≡ old.next.0 + loss.least
  pub missing_are : map run_numbers new.missing.items
      ≡ map run_numbers old.missing.items ++ run_before old.from.0 first count
  pub unknown_are : numbers_of new.unknown.items
      ≡ numbers_of old.unknown.items ++ (if loss.is_unknown then old.next.0 ∷ [] else [])
  pub damaged_are : new.damaged ≡ old.damaged
  pub from_is : new.from.0 ≡ from_after old.from.0 first count
  pub next_is : new.next.0 ≡ first + count
  pub fits : first + count < 2 ^ 64
  pub pages_are : new.pages ≡ old.pages

-- what was found of a page, if `next` numbers are before it: the number of its first record, and its records
abbrev pub IsFoundAt : (next : ℕ) → Page → Option (RecordNo × ParcelValue) → Type 0
IsFoundAt next (intact read) (Some (first, parcel)) =
    (first.0 ≡ next + least_missed read.missed) × ((as_parcel parcel).records ≡ read.records)
IsFoundAt next (damaged cause) None = ⊤
IsFoundAt next (intact read) None = ⊥
IsFoundAt next (damaged cause) (Some found) = ⊥

-- One page more was read, and this was found of it.
pub record AddsPage (old : Tally) (page : Page) (found : Option (RecordNo × ParcelValue)) (new : Tally) : Type 0 where
  pub found_is : IsFoundAt old.next.0 page found
  pub next_is : new.next.0 ≡ behind old.next.0 page
  pub tally_is : (pages : List Page) → IsTally old pages → IsTally new (pages ++ page ∷ [])
