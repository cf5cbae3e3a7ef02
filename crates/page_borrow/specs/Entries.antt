-- The records of a page as they are lent out of it: each under its number, with its bytes in place.
use Rattle.std.specs.Prelude.{◌≡◌, ℕ, ◌+◌, ◌-◌, List, take, Some, slice_range}
use Rattle.std.specs.List.{enumerate_from, slice_get}
use Rattle.trace_model.specs.Record.{Record}
use Rattle.trace_model.specs.Overwriting.{IsPlaceOf}
use Rattle.page_image.specs.declared.walk.Reached.{Reached}
use Rattle.page_image.specs.Contents.{Contents, records_of_page}
use Rattle.page_image.specs.Walk.{records_left}
use Rattle.page_borrow.specs.declared.entries.Entry.{Entry}

-- what an entry states: a record, and its number
abbrev pub numbered_record : Entry → ℕ × Record
numbered_record entry = (entry.number.0, record { moment = entry.moment.0; bytes = entry.bytes.now })

-- the records of a page in their order, numbered from the page's first number on
abbrev pub entries_of : Contents → List (ℕ × Record)
entries_of page = enumerate_from page.first (records_of_page page)

-- The bytes of an entry are those in the page at the place of its record: the one of this index.
pub record StandsInPage (page : Contents) (index : ℕ) (entry : ℕ × Record) : Type 0 where
  pub start : ℕ
  pub len : ℕ
  pub place : IsPlaceOf page.bytes index start len
  pub bytes_is : entry.1.bytes ≡ slice_range page.bytes start (start + len)

-- so are those of all of these entries, one after the other from the first record on
abbrev pub AllStandInPage : Contents → List (ℕ × Record) → Type 0
AllStandInPage page entries = (index : ℕ) (entry : ℕ × Record)
    → slice_get entries index ≡ Some entry
    → StandsInPage page index entry

-- what a walk over data still comes by, numbered from this number on and up to the one that ends it
abbrev pub entries_left : List ℕ → Reached → ℕ → ℕ → List (ℕ × Record)
entries_left bytes reached number end = enumerate_from number (take (end - number) (records_left bytes reached))
