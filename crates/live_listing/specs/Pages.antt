-- The pages of a CPU, read one after the other: the lines of their records, each with what was lost before it.
use Rattle.std.specs.Prelude.{◌≡◌, ℕ, suc, Bool, true, false, List, [], ◌∷◌, ◌++◌, map, flat_map}
use Rattle.trace_model.specs.Record.{Record}
use Rattle.capture.specs.Pages.{Page, intact, damaged}
use Rattle.page_numbers.specs.Faults.{image_fault}
use Rattle.line_follower.specs.declared.lines.Line.{Line}
use Rattle.live_listing.specs.declared.pages.Content.{Content}
use Rattle.live_listing.specs.declared.pages.CpuPages.{CpuPages}
use Rattle.capture.specs.declared.pages.Damaged.{Damaged as DamagedPage}
use Rattle.live_listing.specs.Gaps.{Lost, gap_seen, no_gap, with_loss, with_page}

-- How far a CPU is read: what was lost since its last record, how many pages are read, and whether each could be. The
-- number before which the loss ends is that of the next record, if the next page states no loss.
pub record Reached : Type 0 where
  pub lost : Lost
  pub pages : ℕ
  pub is_intact : Bool

abbrev pub reached : CpuPages → Reached
reached cpu = record { lost = gap_seen cpu.gap; pages = cpu.pages; is_intact = cpu.is_intact }

-- of a CPU of which nothing is read
abbrev pub nothing_reached : Reached
nothing_reached = record { lost = no_gap 0; pages = 0; is_intact = true }

-- a record that was read: its number, what it is, and what was lost before it
pub record ReadRecord : Type 0 where
  pub number : ℕ
  pub value : Record
  pub lost : Lost

-- the records of a page, the first of them behind this gap
abbrev pub records_behind : Lost → List Record → List ReadRecord
records_behind lost [] = []
records_behind lost (r ∷ records) =
    record { number = lost.until; value = r; lost = lost } ∷ records_behind (no_gap (suc lost.until)) records

-- what is lost behind them
abbrev pub lost_behind : Lost → List Record → Lost
lost_behind lost [] = lost
lost_behind lost (r ∷ records) = lost_behind (no_gap (suc lost.until)) records

-- the records that are read with one page more
abbrev pub records_read : Reached → Page → List ReadRecord
records_read reached (intact read) = records_behind (with_loss read.missed reached.lost) read.records
records_read reached (damaged cause) = []

-- and how far the CPU is read then
abbrev pub reached_with : Reached → Page → Reached
reached_with reached (intact read) = record {
  lost = lost_behind (with_loss read.missed reached.lost) read.records;
  pages = suc reached.pages;
  is_intact = reached.is_intact;
}
reached_with reached (damaged cause) = record {
  lost = with_page reached.pages (image_fault cause) reached.lost;
  pages = suc reached.pages;
  is_intact = false;
}

-- the line of a record of a CPU
abbrev pub line_read : Line Content → ℕ × ReadRecord
line_read line = (
  line.place.cpu.0,
  record {
    number = line.place.number.0;
    value = record { moment = line.place.moment.0; bytes = line.content.bytes.items };
    lost = gap_seen line.content.gap;
  },
)

-- these are the lines of these records of the CPU
abbrev pub AreLinesOf : (cpu : ℕ) → List (Line Content) → List ReadRecord → Type 0
AreLinesOf cpu lines records = map line_read lines ≡ map (λ r. (cpu, r)) records

-- all but the gap is as it was
pub record KeepsPages (old new : CpuPages) : Type 0 where
  pub cpu_is : new.cpu ≡ old.cpu
  pub pages_are : new.pages ≡ old.pages
  pub intact_is : new.is_intact ≡ old.is_intact

-- One line more was added, that of a record of the CPU behind a gap; nothing is lost behind it yet.
pub record AddsLine (cpu : ℕ) (lost : Lost) (value : Record) (before after : List (Line Content)) (behind : Lost)
    : Type 0 where
  pub lines : map line_read after ≡ map line_read before
      ++ (cpu, record { number = lost.until; value = value; lost = lost }) ∷ []
  pub gap : behind ≡ no_gap (suc lost.until)

-- the records of pages, one after the other
abbrev pub records_of_pages : Reached → List Page → List ReadRecord
records_of_pages reached [] = []
records_of_pages reached (page ∷ pages) =
    records_read reached page ++ records_of_pages (reached_with reached page) pages

-- and how far the CPU is read then
abbrev pub reached_by : Reached → List Page → Reached
reached_by reached [] = reached
reached_by reached (page ∷ pages) = reached_by (reached_with reached page) pages

-- a record under its number
abbrev pub numbered : ReadRecord → ℕ × Record
numbered r = (r.number, r.value)

-- the losses of unknown number before records, and behind the last of them
abbrev pub unknown_before : List ReadRecord → (behind : Lost) → List ℕ
unknown_before records behind = flat_map (λ r. r.lost.unknown) records ++ behind.unknown

-- the damaged pages before records, and behind the last of them
abbrev pub damaged_before : List ReadRecord → (behind : Lost) → List DamagedPage
damaged_before records behind = flat_map (λ r. r.lost.damaged) records ++ behind.damaged

-- The numbers before `next` that aren't those of records are in the gaps: each record's gap begins after the record
-- before, and ends with the record, and the last one ends before `next`.
abbrev pub AreBetween : (next : ℕ) → List ReadRecord → (behind : Lost) → Type 0
AreBetween next [] behind = behind.from ≡ next
AreBetween next (r ∷ records) behind =
    (r.lost.from ≡ next) × (r.lost.until ≡ r.number) × AreBetween (suc r.number) records behind
