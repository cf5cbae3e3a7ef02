-- What each step of a ring keeps of its pages and their records.
use Rattle.std.specs.Prelude.{◌≡◌, ◌≢◌, ℕ, ◌+◌, ◌-◌, ◌<◌, ◌≤◌, List, [], ◌∷◌, length, slice_index_or}
use Rattle.trace_model.specs.History.{HistoryEvent, Reservation, reserved_records, settled_prefix}
use Rattle.trace_model.specs.Packing.{opens_of, cut_from, first_of_fill}
use Rattle.trace_model.specs.Fitting.{IsRising}
use Rattle.trace_model.specs.Ring.{PageRecords, empty_page, Core, page_at}

-- a fill as the cuts give it: its records, from its first number on
abbrev pub cut_fill : ℕ → List ℕ → List Reservation → ℕ → PageRecords
cut_fill start cuts records f = record {
  first = slice_index_or (0 ∷ cuts) (f - start) 0;
  records = slice_index_or (cut_from 0 cuts records) (f - start) [];
}

-- the page of a fill holds it
abbrev pub Holds : ℕ → ℕ → List ℕ → List PageRecords → List ℕ → List Reservation → ℕ → Type 0
Holds n start order held cuts records f =
    slice_index_or held (page_at n order f) empty_page ≡ cut_fill start cuts records f

-- The fills are as many as are begun, the first of them at or before the head, and their cuts rise; it is known what
-- each of the n + 1 pages holds; and those that are begun and not taken or lost are in their pages.
pub record PagesKept (n start : ℕ) (order : List ℕ) (held : List PageRecords) (cuts : List ℕ)
    (records : List Reservation) (head opened : ℕ)
    : Type 0 where
  pub begun : opened ≡ start + 1 + length cuts
  pub from_start : start ≤ head
  pub bodies : length held ≡ n + 1
  pub rising : IsRising 0 cuts (length records)
  pub each : (f : ℕ) → head ≤ f → f < opened → Holds n start order held cuts records f

abbrev pub ContentsKept : ℕ → ℕ → Core → Type 0
ContentsKept n start c =
    PagesKept n start c.order c.held (opens_of c.history) (reserved_records c.history) c.head c.opened

-- the records of the fills that are closed are committed
abbrev pub ClosedAt : ℕ → List HistoryEvent → ℕ → Type 0
ClosedAt start history done = first_of_fill history start done ≤ length (reserved_records (settled_prefix history))

abbrev pub ClosedKept : ℕ → Core → Type 0
ClosedKept start c = ClosedAt start c.history c.done

-- The writer holds the pages of the fills that are begun and not closed, the oldest first.
pub record OpenPagesAt (n : ℕ) (order open_pages : List ℕ) (done opened : ℕ) : Type 0 where
  pub count : done + length open_pages ≡ opened
  pub each : (i : ℕ) → i < length open_pages → slice_index_or open_pages i 0 ≡ page_at n order (done + i)

abbrev pub OpenPagesKept : ℕ → Core → Type 0
OpenPagesKept n c = OpenPagesAt n c.order c.open_pages c.done c.opened

-- each page that the writer doesn't hold has none but committed records: their numbers end with these
abbrev pub OtherPagesAt : List HistoryEvent → List ℕ → List PageRecords → Type 0
OtherPagesAt history open_pages held = (page : ℕ)
    → ((i : ℕ) → i < length open_pages → slice_index_or open_pages i 0 ≢ page)
    → (slice_index_or held page empty_page).first + length (slice_index_or held page empty_page).records
    ≤ length (reserved_records (settled_prefix history))

abbrev pub OtherPagesKept : Core → Type 0
OtherPagesKept c = OtherPagesAt c.history c.open_pages c.held
