-- The state of a ring, and what holds of it between any two steps.
-- After Documentation/trace/ring-buffer-design.rst and kernel/trace/ring_buffer.c (struct
-- ring_buffer_per_cpu, rb_handle_head_page, rb_get_reader_page); docs/formats/ring.md, "The ring".
use Rattle.std.specs.Prelude.{◌≡◌, ◌≢◌, ℕ, suc, ◌+◌, ◌-◌, ◌%◌, ◌<◌, ◌≤◌, ◌⊎◌, List, [], ◌∷◌, length, take, map, Some}
use Rattle.std.specs.Prelude.{slice_index_or, slice_get, slice_set}
use Rattle.trace_model.specs.declared.limits.TheConstants.{MIN_PAGES, MAX_PAGES, MIN_SIZE, MAX_SIZE}
use Rattle.trace_model.specs.Record.{Record}
use Rattle.trace_model.specs.History.{HistoryEvent, Reservation, reserved_records, committed_records, as_record}
use Rattle.trace_model.specs.Packing.{fills_of, first_of_fill}
use Rattle.trace_model.specs.Links.{Link, normal_link, header_link, update_link}
use Rattle.trace_model.specs.Frames.{Frame, noted_fill, owned_update}
use Rattle.trace_model.specs.Window.{Window}
use Rattle.trace_model.specs.Sublist.{IsPrefix}

-- How many pages a ring may have, and of how many bytes of data: whole words.
pub record HasRingLimits (pages size : ℕ) : Type 0 where
  pub some_pages : MIN_PAGES ≤ pages
  pub most_pages : pages ≤ MAX_PAGES
  pub small : MIN_SIZE ≤ size
  pub large : size ≤ MAX_SIZE
  pub words : size % 4 ≡ 0

-- ---- links and positions

-- the link into the position of a fill, in a ring of n positions: fill f is at position f % n
abbrev pub link_into : ℕ → List Link → ℕ → Link
link_into n links f = slice_index_or links (f % n) (normal_link 0 0)

-- links with this one into the position of fill f
abbrev pub links_with : ℕ → List Link → ℕ → Link → List Link
links_with n links f l = slice_set links (f % n) l

-- the page at the position of a fill, by the order of pages
abbrev pub page_at : ℕ → List ℕ → ℕ → ℕ
page_at n order f = slice_index_or order (f % n) 0

-- ---- the state

-- What a page holds: records, and the number of the first of them.
pub record PageRecords : Type 0 where
  pub first : ℕ
  pub records : List Reservation

-- a page without a record
abbrev pub empty_page : PageRecords
empty_page = record { first = 0; records = [] }

-- A fill that the reader took: how many records were lost before it since the last one taken, and
-- its own.
pub record TakenFill : Type 0 where
  pub fill : ℕ
  pub skipped : ℕ
  pub held : PageRecords

-- How far the reader's take has come. fill: the head that it has seen, on this page.
pub data ReaderPhase : Type 0 where
  loading_head : ReaderPhase
  loading_done storing_spare_link swapping : (page fill : ℕ) → ReaderPhase

-- hint: the least fill that the reader doesn't know to be taken or lost. seen: the greatest number of closed
-- fills that it has seen. expected: the number after the last record that it took. taken: the fills that it
-- took, in order.
pub record Reader : Type 0 where
  pub phase : ReaderPhase
  pub hint : ℕ
  pub seen : ℕ
  pub expected : ℕ
  pub taken : List TakenFill

-- Words of the ring: links, the link into each position; spare_link, that of the spare; done, opened and
-- wish, of which the writer alone stores the first two, and the reader alone the last, as the number of closed
-- fills that it knew, and one. head: the least fill that is neither taken nor lost. held: what each page holds, by
-- its number.
-- The writer's part: frames; open_pages, the pages of the fills that are begun and not closed, the oldest first;
-- history, what the frames did. The reader's part: order, the page at each position; spare, the page outside the
-- ring; reader.
pub record Core : Type 0 where
  pub links : List Link
  pub spare_link : Link
  pub done : ℕ
  pub opened : ℕ
  pub wish : ℕ
  pub head : ℕ
  pub held : List PageRecords
  pub frames : List Frame
  pub open_pages : List ℕ
  pub history : List HistoryEvent
  pub order : List ℕ
  pub spare : ℕ
  pub reader : Reader

-- the three counts of the state
abbrev pub window_of : Core → Window
window_of c = record { head = c.head; done = c.done; opened = c.opened }

-- ---- the start

-- the reader of a new ring whose first fill has this number
abbrev pub first_reader : ℕ → Reader
first_reader start = record { phase = loading_head; hint = start; seen = start; expected = 0; taken = [] }

-- The state of a new ring of n positions whose first fill has this number: fill f is on page f % n, the
-- head is the first fill and the tail, and the spare is page n.
pub record IsStart (n start : ℕ) (c : Core) : Type 0 where
  pub positions : length c.links ≡ n
  pub first_link : link_into n c.links start ≡ header_link (start % n) start
  pub links : (f : ℕ) → start < f → f < start + n → link_into n c.links f ≡ normal_link (f % n) f
  pub pages : length c.order ≡ n
  pub order : (position : ℕ) → position < n → slice_index_or c.order position 0 ≡ position
  pub spare : c.spare ≡ n
  pub spare_link : c.spare_link ≡ normal_link 0 0
  pub head : c.head ≡ start
  pub done : c.done ≡ start
  pub opened : c.opened ≡ start + 1
  pub wish : c.wish ≡ 0
  pub frames : c.frames ≡ []
  pub open_pages : c.open_pages ≡ (start % n) ∷ []
  pub reader : c.reader ≡ first_reader start
  pub bodies : length c.held ≡ n + 1
  pub held : (page : ℕ) → page < n + 1 → slice_index_or c.held page empty_page ≡ empty_page
  pub history : c.history ≡ []

-- ---- what holds of it

-- this frame has set the UPDATE at the position of fill f and not yet cleared it
abbrev pub Moves : List Frame → ℕ → ℕ → Type 0
Moves frames k f = (frame : Frame) × (slice_get frames k ≡ Some frame) × (owned_update frame.phase ≡ Some f)

-- exactly one frame on the stack has set it
pub record IsMoved (frames : List Frame) (f : ℕ) : Type 0 where
  pub by : ℕ
  pub moves : Moves frames by f
  pub alone : (k : ℕ) → Moves frames k f → k ≡ by

-- The link into the position of a fill after the head states that fill; or it still states the fill that was
-- lost there, which is so if and only if a frame has set this UPDATE and not yet cleared it.
pub data IsBehindHead (n : ℕ) (c : Core) (f : ℕ) : Type 0 where
  reported : link_into n c.links f ≡ normal_link (page_at n c.order f) f
      → ((k : ℕ) → Moves c.frames k f → ⊥)
      → IsBehindHead n c f
  moved : (lost : ℕ)
      → lost + n ≡ f
      → link_into n c.links f ≡ update_link (page_at n c.order f) lost
      → IsMoved c.frames f
      → IsBehindHead n c f

-- The link to the head is its HEADER; or that HEADER is still to be stored by a move of the head.
pub data IsAtHead (n : ℕ) (c : Core) : Type 0 where
  marked : link_into n c.links c.head ≡ header_link (page_at n c.order c.head) c.head
      → IsAtHead n c
  owed : (lost : ℕ)
      → suc lost ≡ c.head
      → link_into n c.links c.head ≡ normal_link (page_at n c.order c.head) c.head
      → IsMoved c.frames (lost + n)
      → IsAtHead n c

-- the pages of the ring differ, and the spare is the other one of n + 1
pub record AreApart (n : ℕ) (order : List ℕ) (spare : ℕ) : Type 0 where
  pub pages : length order ≡ n
  pub each : (i : ℕ) → i < n → slice_index_or order i 0 < n + 1
  pub differ : (i j : ℕ) → i < n → j < n → slice_index_or order i 0 ≡ slice_index_or order j 0 → i ≡ j
  pub spare_below : spare < n + 1
  pub spare_differs : (i : ℕ) → i < n → slice_index_or order i 0 ≢ spare

-- a fill as the history has it: its records, from its first number on
abbrev pub fill_of : List HistoryEvent → ℕ → ℕ → PageRecords
fill_of history start f = record {
  first = first_of_fill history start f;
  records = slice_index_or (fills_of history) (f - start) [];
}

-- the page of a fill that is begun and not yet taken or lost holds that fill
abbrev pub HoldsFill : ℕ → ℕ → Core → ℕ → Type 0
HoldsFill n start c f = slice_index_or c.held (page_at n c.order f) empty_page ≡ fill_of c.history start f

-- A taken page is a fill of the history: its number is that fill's, it has all its records and no others, as
-- they are in the history, from its first number on.
pub record IsFillOf (start : ℕ) (history : List HistoryEvent) (t : TakenFill) : Type 0 where
  pub from_start : start ≤ t.fill
  pub begun : t.fill < start + length (fills_of history)
  pub held : t.held ≡ fill_of history start t.fill

-- What the reader took are such fills, and their numbers rise.
pub record AreFillsOf (start : ℕ) (history : List HistoryEvent) (taken : List TakenFill) : Type 0 where
  pub each : (k : ℕ) (t : TakenFill) → slice_get taken k ≡ Some t → IsFillOf start history t
  pub rising : (j k : ℕ) (earlier later : TakenFill)
      → j < k
      → slice_get taken j ≡ Some earlier
      → slice_get taken k ≡ Some later
      → earlier.fill < later.fill

-- a fill that the reader took
abbrev pub IsTaken : Core → ℕ → Type 0
IsTaken c f = (k : ℕ) × (t : TakenFill) × (slice_get c.reader.taken k ≡ Some t) × (t.fill ≡ f)

-- the records in the fills below this one, as they are by now
abbrev pub records_before_fill : List HistoryEvent → ℕ → ℕ → List Record
records_before_fill history start f =
    map as_record (take (first_of_fill history start f) (reserved_records history))

-- where the reader is about to swap, the spare's link is the HEADER of the next fill
abbrev pub IsSwapReady : ℕ → Core → ReaderPhase → Type 0
IsSwapReady n c (swapping page fill) = c.spare_link ≡ header_link (page_at n c.order (suc fill)) (suc fill)
IsSwapReady n c _ = Unit {0}

-- The ring, between any two steps. Each position has a link, and each page a body; the pages go round; the
-- window keeps its order, from the first fill on, and the fills begun are those of the history; the reader wishes
-- for no fill that isn't begun; links after the head, and to it, are as above; pages hold their fills; what is
-- closed is committed, and a fill that is lost was lost in a full ring; and what a frame or the reader knows of
-- the counts is at most what they are.
pub record IsRing (n start : ℕ) (c : Core) : Type 0 where
  pub positions : length c.links ≡ n
  pub bodies : length c.held ≡ n + 1
  pub apart : AreApart n c.order c.spare
  pub head_le : c.head ≤ c.done
  pub done_lt : c.done < c.opened
  pub opened_le : c.opened ≤ c.head + n
  pub from_start : start ≤ c.head
  pub begun : c.opened ≡ start + length (fills_of c.history)
  pub wish_le : c.wish ≤ c.opened
  pub behind_head : (f : ℕ) → c.head < f → f < c.head + n → IsBehindHead n c f
  pub at_head : IsAtHead n c
  pub contents : (f : ℕ) → c.head ≤ f → f < c.opened → HoldsFill n start c f
  pub closed : IsPrefix (records_before_fill c.history start c.done) (committed_records c.history)
  pub lost : (f : ℕ) → start ≤ f → f < c.head → IsTaken c f ⊎ (f + n ≤ c.opened)
  pub lost_at_rest : (f : ℕ) → start ≤ f → f < c.head → c.frames ≡ [] → IsTaken c f ⊎ (f + n < c.opened)
  pub hint_le : c.reader.hint ≤ c.head
  pub noted : (k o : ℕ) (frame : Frame)
      → slice_get c.frames k ≡ Some frame
      → noted_fill frame.phase ≡ Some o
      → (c.done < o) × (o ≤ c.opened)
  pub ready : IsSwapReady n c c.reader.phase
