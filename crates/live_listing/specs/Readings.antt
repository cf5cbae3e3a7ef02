-- What a listing gives of inputs, as a reading of the lines of their pages.
use Rattle.std.specs.Prelude.{◌≡◌, ◌==◌, ◌<◌, ℕ, if◌then◌else◌, List, [], ◌∷◌}
use Rattle.std.specs.List.{filter}
use Rattle.trace_model.specs.declared.limits.TheConstants.{MAX_CPUS}
use Rattle.line_follower.specs.declared.lines.Line.{Line}
use Rattle.line_follower.specs.declared.lines.Said.{Said}
use Rattle.line_follower.specs.Known.{Event, page, quiet, ended}
use Rattle.line_follower.specs.Runs.{IsFollowed, all_read, events_of, given_in}
use Rattle.capture.specs.Pages.{Page, IsPageOf}
use Rattle.live_listing.specs.declared.pages.Content.{Content}
use Rattle.live_listing.specs.Pages.{Reached, nothing_reached, reached_by, records_of_pages, AreLinesOf}
use Rattle.live_listing.specs.Live.{Happening, page_read, was_quiet, has_ended, reached_of}

-- what happens is this event of a reading: some lines come of a page
abbrev pub IsEvent : Happening → Event Content → Type 0
IsEvent (page_read cpu bytes) event = (lines : List (Line Content)) × (event ≡ page cpu lines)
IsEvent (was_quiet cpu) event = event ≡ quiet cpu
IsEvent (has_ended cpu) event = event ≡ ended cpu

-- each of these happenings is the event at its place
abbrev pub AreEvents : List Happening → List (Event Content) → Type 0
AreEvents [] events = events ≡ []
AreEvents (happening ∷ others) events =
    (event : Event Content) × (rest : List (Event Content)) × IsEvent happening event × AreEvents others rest
    × (events ≡ event ∷ rest)

-- these are the pages that are read in what happens, each with its CPU
abbrev pub AreRead : List Happening → List (ℕ × Page) → Type 0
AreRead [] pages = pages ≡ []
AreRead (page_read cpu bytes ∷ others) pages =
    (value : Page) × (rest : List (ℕ × Page)) × IsPageOf bytes value × AreRead others rest
    × (pages ≡ (cpu, value) ∷ rest)
AreRead (was_quiet cpu ∷ others) pages = AreRead others pages
AreRead (has_ended cpu ∷ others) pages = AreRead others pages

-- the pages of a CPU among them
abbrev pub pages_of : (cpu : ℕ) → List (ℕ × Page) → List Page
pages_of cpu [] = []
pages_of cpu (read ∷ others) =
    if read.0 == cpu then read.1 ∷ pages_of cpu others else pages_of cpu others

-- the lines of a CPU among these
abbrev pub lines_of : (cpu : ℕ) → List (Line Content) → List (Line Content)
lines_of cpu lines = filter (λ line. line.place.cpu.0 == cpu) lines

-- What happened is a reading as it is meant, with what was given of it and what was left in the end. The lines of each
-- CPU in it are those of the records of its pages, and it is read as far as these pages.
pub record IsReadingOf (happened : List Happening) (given rest : List (Said Content)) (last : List Reached) : Type 0
  where
    pub steps : List (Event Content × List (Said Content))
    pub events_are : AreEvents happened (events_of steps)
    pub given_are : given_in steps ≡ given
    pub followed : IsFollowed MAX_CPUS steps rest
    pub pages : List (ℕ × Page)
    pub are_read : AreRead happened pages
    pub lines_are : (cpu : ℕ)
        → cpu < MAX_CPUS
        → AreLinesOf cpu (lines_of cpu (all_read (events_of steps)))
        (records_of_pages nothing_reached (pages_of cpu pages))
    pub reached_are : (cpu : ℕ)
        → cpu < MAX_CPUS
        → reached_of last cpu ≡ reached_by nothing_reached (pages_of cpu pages)
