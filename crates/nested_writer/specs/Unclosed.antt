-- The records that are reserved and in no closed fill.
use Rattle.std.specs.Prelude.{◌≡◌, ℕ, ◌+◌, List, [], ◌∷◌, length, Option, Some, None}
use Rattle.trace_model.specs.History.{HistoryEvent, reserved_records}
use Rattle.trace_model.specs.Packing.{first_of_fill}
use Rattle.page_image.specs.Contents.{Contents}

-- the number of the first record of the oldest of these pages
abbrev pub first_of_pages : List Contents → Option ℕ
first_of_pages [] = None
first_of_pages (page ∷ pages) = Some page.first

-- Of the records that this history reserved, this many are in no closed fill, if the fills below done are closed and
-- the first fill has the number start.
abbrev pub AreUnclosed : (start done : ℕ) → List HistoryEvent → ℕ → Type 0
AreUnclosed start done history count = count + first_of_fill history start done ≡ length (reserved_records history)
