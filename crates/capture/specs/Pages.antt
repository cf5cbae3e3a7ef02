-- A capture: all that was read of one CPU's pages, which are page images one after the other, and what it holds. How
-- many records were lost a page states (kernel/trace/ring_buffer.c, ring_buffer_read_page), and no number; so numbers
-- are counted over the capture.
use Rattle.std.specs.Prelude.{◌≡◌, ℕ, suc, ◌+◌, ◌-◌, ◌^◌, ◌==◌, ◌<◌, if◌then◌else◌, List, [], ◌∷◌, ◌++◌, length, take}
use Rattle.std.specs.Prelude.{drop}
use Rattle.trace_model.specs.Record.{Record}
use Rattle.trace_model.specs.Parcel.{Parcel}
use Rattle.trace_model.specs.Image.{Missed, none, unknown, counted, DecodesImage, ImageCause, FirstImageFault}
use Rattle.capture.specs.stamps.Restored.{restored_image}

-- a page that reads: what is known of records that were lost before it, and its records
pub record PageRead : Type 0 where
  pub missed : Missed
  pub records : List Record

-- a page of a capture reads, or it is damaged, and has a first fault
pub data Page : Type 0 where
  intact : (read : PageRead) → Page
  damaged : (cause : ImageCause) → Page

-- What an image says of records that were lost before it, by what it states. A count of 2^64 - 1 is none: trace-cmd
-- writes it for a loss of unknown number (`trace-cmd split`), and libtraceevent reads it so (kbuffer-parse.c).
abbrev pub loss_stated : Missed → Missed
loss_stated none = none
loss_stated unknown = unknown
loss_stated (counted events) = if events == 2 ^ 64 - 1 then unknown else counted events

-- The bytes of a page are this page: they are read with the times of stamps restored.
abbrev pub IsPageOf : List ℕ → Page → Type 0
IsPageOf bytes (intact read) =
    (time size : ℕ) × (stated : Missed) × DecodesImage (restored_image bytes) time size stated read.records
    × (read.missed ≡ loss_stated stated)
IsPageOf bytes (damaged cause) = FirstImageFault (restored_image bytes) cause

-- A capture is these pages: each of `size` bytes, but for the last one, which may be shorter.
abbrev pub AreCut : (size : ℕ) → List ℕ → List Page → Type 0
AreCut size bytes [] = bytes ≡ []
AreCut size bytes (page ∷ pages) =
    (0 < length bytes) × IsPageOf (take size bytes) page × AreCut size (drop size bytes) pages

-- what is known of a loss, if one of unknown number is `known`
abbrev pub told_of : (known : Missed) → Missed → Missed
told_of known none = none
told_of known unknown = known
told_of known (counted events) = counted events

-- the page, if a loss of unknown number is `known`
abbrev pub told : (known : Missed) → Page → Page
told known (intact read) = intact record { missed = told_of known read.missed; records = read.records }
told known (damaged cause) = damaged cause

-- how many records were lost before a page at least: one, if their number isn't stated
abbrev pub least_missed : Missed → ℕ
least_missed none = 0
least_missed unknown = 1
least_missed (counted events) = events

-- the number after a page's last record, if `next` numbers are before the page: a damaged page counts none
abbrev pub behind : (next : ℕ) → Page → ℕ
behind next (intact read) = next + least_missed read.missed + length read.records
behind next (damaged cause) = next

-- the number after the last record of these pages
abbrev pub end_from : (next : ℕ) → List Page → ℕ
end_from next [] = next
end_from next (page ∷ pages) = end_from (behind next page) pages

-- the page as a parcel of a CPU, if `next` numbers are before the page
abbrev pub parcel_at : (cpu fill next : ℕ) → PageRead → Parcel
parcel_at cpu fill next read = record {
  cpu = cpu;
  fill = fill;
  first = next + least_missed read.missed;
  missed = least_missed read.missed;
  records = read.records;
}

-- The parcels of the pages that read. Fills count all pages, from `fill`, so that a parcel's is the place of its page.
abbrev pub parcels_from : (cpu fill next : ℕ) → List Page → List Parcel
parcels_from cpu fill next [] = []
parcels_from cpu fill next (intact read ∷ pages) =
    parcel_at cpu fill next read ∷ parcels_from cpu (suc fill) (behind next (intact read)) pages
parcels_from cpu fill next (damaged cause ∷ pages) = parcels_from cpu (suc fill) next pages

-- the numbers at which records were lost whose number isn't stated: one at least
abbrev pub unknown_at : (next : ℕ) → Missed → List ℕ
unknown_at next unknown = next ∷ []
unknown_at next none = []
unknown_at next (counted events) = []

abbrev pub unknown_from : (next : ℕ) → List Page → List ℕ
unknown_from next [] = []
unknown_from next (intact read ∷ pages) = unknown_at next read.missed ++ unknown_from (behind next (intact read)) pages
unknown_from next (damaged cause ∷ pages) = unknown_from next pages

-- A damaged page: how many numbers are before it, how many pages are before it, and its first fault. A loss that the
-- next page states comes after these numbers.
pub record Damage : Type 0 where
  pub number : ℕ
  pub index : ℕ
  pub cause : ImageCause

abbrev pub damages_from : (index next : ℕ) → List Page → List Damage
damages_from index next [] = []
damages_from index next (intact read ∷ pages) = damages_from (suc index) (behind next (intact read)) pages
damages_from index next (damaged cause ∷ pages) =
    record { number = next; index = index; cause = cause } ∷ damages_from (suc index) next pages

-- the numbers of records and pages fit 64 bits
pub record Fit (pages : List Page) : Type 0 where
  pub numbers : end_from 0 pages < 2 ^ 64
  pub fills : length pages < 2 ^ 64
