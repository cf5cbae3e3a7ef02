-- What a page holds that a writer's stack passes out.
use Rattle.std.specs.Prelude.{◌≡◌, ◌+◌, ◌≤◌, ℕ, All, List, length, take, drop, map}
use Rattle.trace_model.specs.declared.limits.TheConstants.{MAX_SIZE}
use Rattle.trace_model.specs.History.{HistoryEvent, HasItsBytes, as_record, reserved_records, committed_records}
use Rattle.trace_model.specs.Ring.{PageRecords}
use Rattle.trace_model.specs.OpenPages.{HoldsRecords}
use Rattle.page_image.specs.Contents.{Contents, records_of_page, IsPage}

-- A page of a fill that holds this: all of its records are written, and it reads as them.
pub record IsWrittenPage (size fill : ℕ) (held : PageRecords) (page : Contents) : Type 0 where
  pub page_reads : IsPage page
  pub size_is : page.size ≡ size
  pub fill_is : page.fill ≡ fill
  pub first_is : page.first ≡ held.first
  pub holds : HoldsRecords page.time page.bytes held.records
  pub written : All HasItsBytes held.records
  pub records_are : records_of_page page ≡ map as_record held.records

-- the page's records are the committed ones from its first number on
abbrev pub AreCommitted : List HistoryEvent → Contents → Type 0
AreCommitted history page = records_of_page page ≡ take page.count (drop page.first (committed_records history))

-- The tail page of an empty stack, of a fill that holds this: all of its records are written, and they are all the
-- committed ones from its first number on. No record was reserved after them, and they fit in the page.
pub record IsRestingTail (size fill : ℕ) (held : PageRecords) (history : List HistoryEvent) (page : Contents)
    : Type 0 where
  pub written : IsWrittenPage size fill held page
  pub newest : records_of_page page ≡ drop page.first (committed_records history)
  pub last : page.first + page.count ≡ length (reserved_records history)
  pub fits : length page.bytes ≤ size
  pub limit : size ≤ MAX_SIZE
