-- What contracts see of a page.
use Rattle.std.specs.Prelude.{◌≡◌, ℕ, ◌^◌, ◌<◌, Bool, true, false, List, [], ◌∷◌, length}
use Rattle.trace_model.specs.Record.{Record}
use Rattle.trace_model.specs.Words.{Decodes}
use Rattle.trace_model.specs.Reading.{records_in}

-- A page: its time, the number of its first record, how many records it holds, its fill, its data size in
-- bytes, and its data, without the unused bytes after it.
pub record Contents : Type 0 where
  pub time : ℕ
  pub first : ℕ
  pub count : ℕ
  pub fill : ℕ
  pub size : ℕ
  pub bytes : List ℕ

-- the records of the page, in order
abbrev pub records_of_page : Contents → List Record
records_of_page page = records_in page.time page.bytes

-- the data is empty: the next record is the page's first
abbrev pub is_blank : List ℕ → Bool
is_blank [] = true
is_blank (byte ∷ bytes) = false

-- What holds of every page that is made, and what every call but `part_mut` keeps: its data reads, and its records are
-- counted.
pub record IsPage (page : Contents) : Type 0 where
  pub reads : Decodes page.bytes page.time (records_of_page page)
  pub counted : page.count ≡ length (records_of_page page)
  pub in_time : page.time < 2 ^ 64

-- both have the same time and data, and so the same records
pub record HaveSameData (page other : Contents) : Type 0 where
  pub time_is : page.time ≡ other.time
  pub bytes_are : page.bytes ≡ other.bytes
