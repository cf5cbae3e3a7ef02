-- What is printed of a collector states exactly what it has and misses.
use Rattle.std.specs.Prelude.{◌≡◌, ℕ, ◌≤◌, List, [], ◌++◌, length, flat_map, slice_index_or}
use Rattle.std.specs.List.{slice_range}
use Rattle.trace_model.specs.Parcel.{Parcel}
use Rattle.trace_model.specs.Listing.{IsListing}
use Rattle.collector.specs.Runs.{AreMissingRuns}
use Rattle.world_model.specs.Printing.{Shown, printed_line, printed_runs}

-- The lines are the listing of what the collector's parcels have, and of each CPU the runs are those of the numbers
-- that they miss. A CPU after the last one has none.
pub record IsPrintOf (collector : List Parcel) (shown : Shown) : Type 0 where
  pub lines : IsListing collector shown.lines
  pub runs : (cpu : ℕ) → AreMissingRuns collector cpu (slice_index_or shown.runs cpu [])

-- what is printed of a collector below its head line
abbrev pub text_below : Shown → List ℕ
text_below shown = flat_map printed_line shown.lines ++ printed_runs shown.runs

-- The text between these places states what the collector has and misses.
pub record StandsBetween (collector : List Parcel) (text : List ℕ) (start end : ℕ) : Type 0 where
  pub shown : Shown
  pub reports : IsPrintOf collector shown
  pub forward : start ≤ end
  pub inside : end ≤ length text
  pub is : slice_range text start end ≡ text_below shown
