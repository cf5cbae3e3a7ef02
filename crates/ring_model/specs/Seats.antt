-- The two seats of a ring, the writer's and the reader's: what each changes, and the writer's private steps, which
-- touch no word of the ring.
-- docs/formats/ring.md, "The ring".
use Rattle.std.specs.Prelude.{◌≡◌, ◌≢◌, ℕ, ◌<◌, List, [], ◌∷◌, length, slice_index_or}
use Rattle.trace_model.specs.History.{HistoryEvent}
use Rattle.trace_model.specs.Links.{Link}
use Rattle.trace_model.specs.Frames.{owner, helper, Phase, idle, looking, claiming, looking_next, marking, clearing}
use Rattle.trace_model.specs.Frames.{opening, releasing, wishing, Frame}
use Rattle.trace_model.specs.Ring.{Reader, Core}
use Rattle.trace_model.specs.Steps.{contents_of, Event, pushes, pushes_close, steps, ends, reads, wishes, Step}
use Rattle.trace_model.specs.Steps.{Exchange}

-- ---- the seats

abbrev pub IsOfReader : Event → Type 0
IsOfReader (pushes moment len) = ⊥
IsOfReader pushes_close = ⊥
IsOfReader steps = ⊥
IsOfReader (ends payload) = ⊥
IsOfReader reads = Unit {0}
IsOfReader wishes = Unit {0}

-- what the reader alone knows and stores
pub record ReaderPart : Type 0 where
  pub order : List ℕ
  pub spare : ℕ
  pub spare_link : Link
  pub reader : Reader

-- the state with this as the reader's part
abbrev pub seen_by : ReaderPart → Core → Core
seen_by part c = record c {
  order = part.order;
  spare = part.spare;
  spare_link = part.spare_link;
  reader = part.reader;
}

-- what the writer alone knows, and the count that it alone stores and the reader doesn't load
pub record WriterPart : Type 0 where
  pub frames : List Frame
  pub open_pages : List ℕ
  pub history : List HistoryEvent
  pub opened : ℕ

-- the state with this as the writer's part
abbrev pub written_by : WriterPart → Core → Core
written_by part c = record c {
  frames = part.frames;
  open_pages = part.open_pages;
  history = part.history;
  opened = part.opened;
}

-- an event of the reader changes nothing of the writer's part, nor a word that the writer alone stores
pub record WriterStays (c after : Core) : Type 0 where
  pub frames : after.frames ≡ c.frames
  pub open_pages : after.open_pages ≡ c.open_pages
  pub history : after.history ≡ c.history
  pub done : after.done ≡ c.done
  pub opened : after.opened ≡ c.opened

-- an event of the writer changes nothing of the reader's part, nor the wish
pub record ReaderStays (c after : Core) : Type 0 where
  pub order : after.order ≡ c.order
  pub spare : after.spare ≡ c.spare
  pub spare_link : after.spare_link ≡ c.spare_link
  pub reader : after.reader ≡ c.reader
  pub wish : after.wish ≡ c.wish

-- ---- private steps

-- a step of a frame in this phase touches no word: it rests, or another frame has begun a fill since it noted what
-- to begin
abbrev pub PhaseIsPrivate : Phase → ℕ → Type 0
PhaseIsPrivate idle opened = Unit {0}
PhaseIsPrivate (looking noted) opened = noted ≢ opened
PhaseIsPrivate (claiming noted page) opened = noted ≢ opened
PhaseIsPrivate (looking_next owner noted page) opened = ⊥
PhaseIsPrivate (looking_next helper noted page) opened = noted ≢ opened
PhaseIsPrivate (marking owner noted page next) opened = ⊥
PhaseIsPrivate (marking helper noted page next) opened = noted ≢ opened
PhaseIsPrivate (clearing noted page) opened = ⊥
PhaseIsPrivate (opening noted page) opened = noted ≢ opened
PhaseIsPrivate releasing opened = ⊥
PhaseIsPrivate wishing opened = ⊥

abbrev pub TopIsPrivate : List Frame → ℕ → Type 0
TopIsPrivate [] opened = Unit {0}
TopIsPrivate (frame ∷ below) opened = PhaseIsPrivate frame.phase opened

-- an event of the writer that touches no word of the ring
abbrev pub IsPrivate : Core → Event → Type 0
IsPrivate c (pushes moment len) = Unit {0}
IsPrivate c pushes_close = Unit {0}
IsPrivate c steps = TopIsPrivate c.frames c.opened
IsPrivate c (ends payload) = Unit {0}
IsPrivate c reads = ⊥
IsPrivate c wishes = ⊥

-- private steps, one after the other, lead from one state to another
abbrev pub PrivateRun : ℕ → ℕ → Core → List Exchange → Core → Type 0
PrivateRun n size before [] after = before ≡ after
PrivateRun n size before (x ∷ exchanges) after =
    IsPrivate before x.event
    × (between : Core)
    × Step n size before x.event x.answer between
    × PrivateRun n size between exchanges after

-- every word of the ring, and the head, as they were
pub record WordsStay (c after : Core) : Type 0 where
  pub links : after.links ≡ c.links
  pub spare_link : after.spare_link ≡ c.spare_link
  pub done : after.done ≡ c.done
  pub opened : after.opened ≡ c.opened
  pub wish : after.wish ≡ c.wish
  pub head : after.head ≡ c.head

-- the writer's own pages, those of the fills that are begun and not closed, hold what they held
abbrev pub OpenPagesHold : Core → Core → Type 0
OpenPagesHold c after = (i : ℕ)
    → i < length c.open_pages
    → contents_of after (slice_index_or c.open_pages i 0) ≡ contents_of c (slice_index_or c.open_pages i 0)

-- and every other page does
abbrev pub OtherPagesHold : Core → Core → Type 0
OtherPagesHold c after = (page : ℕ)
    → ((i : ℕ) → i < length c.open_pages → slice_index_or c.open_pages i 0 ≢ page)
    → contents_of after page ≡ contents_of c page
