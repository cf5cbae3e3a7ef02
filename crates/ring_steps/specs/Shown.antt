-- The rule of a ring's table: its words, the pages at home and what its two ends know show some state of the ring.
-- docs/MODEL.md, "The running ring"; the words are specified in docs/formats/ring.md, "The ring".
use Rattle.std.specs.Prelude.{◌≡◌, ℕ, ◌+◌, ◌-◌, ◌<◌, ◌≤◌, List, [], ◌∷◌, length, map, take, Option, Some, None, false}
use Rattle.std.specs.Prelude.{slice_index_or}
use mathlib.Core.Option.{some}
use mathlib.Core.Option as maybe
use lib.ListN.{get_elem?}
use Rattle.atomic_table.specs.Table.{State}
use Rattle.trace_model.specs.declared.limits.TheConstants.{MAX_PAGES}
use Rattle.trace_model.specs.History.{as_record, reserved_records}
use Rattle.trace_model.specs.Links.{word_of}
use Rattle.trace_model.specs.Ring.{PageRecords, Core, link_into, page_at}
use Rattle.trace_model.specs.Steps.{contents_of}
use Rattle.ring_model.specs.Reached.{IsReached}
use Rattle.page_image.specs.Contents.{Contents}
use Rattle.nested_writer.specs.Released.{IsWrittenPage}
use Rattle.ring_steps.specs.Made.{trace_to, writer_made_of, reader_made_of}
use Rattle.ring_steps.specs.Receipts.{AreInTime}
use Rattle.ring_steps.specs.Views.{Writing, writing_of, Reading, SeatView, laid, AreSeated}
use Rattle.ring_steps.specs.Words.{opened_word, done_word, wish_word, page_word, word_count}

-- ---- words

-- the page whose link leads into the position of a fill: it is at the position before
abbrev pub page_before : ℕ → List ℕ → ℕ → ℕ
page_before n order f = page_at n order (f + n - 1)

-- The words show the counts and the links of a state: each page has one, the link into the position after its own, and
-- the page outside the ring too.
pub record AreWords (n : ℕ) (c : Core) (words : List ℕ) : Type 0 where
  pub count : length words ≡ word_count n
  pub opened : slice_index_or words opened_word 0 ≡ c.opened
  pub done : slice_index_or words done_word 0 ≡ c.done
  pub wish : slice_index_or words wish_word 0 ≡ c.wish
  pub links : (f : ℕ)
      → slice_index_or words (page_word (page_before n c.order f)) 0 ≡ word_of (link_into n c.links f)
  pub spare : slice_index_or words (page_word c.spare) 0 ≡ word_of c.spare_link

-- ---- pages at home

-- what is in the slots: a slot that is out with a seat is none
abbrev pub Homes : Type 0
Homes = List (maybe.Option (Option Contents))

-- the page of this number is at home, and is the one of this fill with what it holds
abbrev pub IsHome : Homes → (size page fill : ℕ) → PageRecords → Type 0
IsHome homes size page fill held =
    (body : Contents) × (get_elem? homes page ≡ some (some (Some body))) × IsWrittenPage size fill held body

-- a page of this size is at home under this number
abbrev pub HasBody : Homes → (size page : ℕ) → Type 0
HasBody homes size page = (body : Contents) × (get_elem? homes page ≡ some (some (Some body))) × (body.size ≡ size)

-- The page of each fill that is closed and unread is at home with what it holds; and so is a page for each fill that
-- may be begun before one more is closed. The spare's slot is empty if the reader doesn't keep it.
pub record AreHomes (n size : ℕ) (c : Core) (r : Reading) (homes : Homes) : Type 0 where
  pub count : length homes ≡ n + 1
  pub closed : (f : ℕ)
      → c.head ≤ f
      → f < c.done
      → IsHome homes size (page_at n c.order f) f (contents_of c (page_at n c.order f))
  pub free : (f : ℕ) → c.opened ≤ f → f < c.done + n → HasBody homes size (page_at n c.order f)
  pub spare : r.keeps_spare ≡ false → get_elem? homes c.spare ≡ some (some None)

-- ---- the rule

-- The reader's part is the state's; and it observed the records up to the last one that it took, which are committed.
pub record IsReading (c : Core) (r : Reading) : Type 0 where
  pub order_is : r.order ≡ c.order
  pub spare_is : r.spare ≡ c.spare
  pub spare_link_is : r.spare_link ≡ c.spare_link
  pub reader_is : r.reader ≡ c.reader
  pub wish_is : r.wish ≡ c.wish
  pub observed_is : r.observed ≡ take c.reader.expected (map as_record (reserved_records c.history))

-- These words and pages at home, with what the reader knows, show this state, which steps reach from a new ring of n
-- positions, of pages of this size, whose first fill has the number start.
pub record IsShown (n size start : ℕ) (c : Core) (r : Reading) (words : List ℕ) (homes : Homes) : Type 0 where
  pub pages_fit : n ≤ MAX_PAGES
  pub reached : IsReached n size start c
  pub are_words : AreWords n c words
  pub are_homes : AreHomes n size c r homes
  pub is_reading : IsReading c r
  pub reader_made_is : r.made ≡ reader_made_of reached
  pub in_time : AreInTime (trace_to reached) r.lessons

-- Some state is shown, and its two parts are what the seats know. The tail's slot is empty, while no seat has it.
pub record Shows (n size start : ℕ) (s : State (Option Contents) SeatView) : Type 0 where
  pub core : Core
  pub reader : Reading
  pub shown : IsShown n size start core reader s.words s.homes
  pub seats : AreSeated (writing_of (writer_made_of shown.reached) core) reader core.head s.views
  pub tail : (w : Writing) (r : Reading)
      → s.views ≡ laid w r ∷ []
      → get_elem? s.homes (slice_index_or w.open_pages 0 0) ≡ some (some None)
