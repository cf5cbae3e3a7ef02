-- What a step text says of a ring: the words that the ring's ends share, the counts, the frames and the reader, each
-- under a key of its own. docs/formats/program.md, "Step text".
use Rattle.std.specs.Prelude.{ℕ, ◌+◌, ◌-◌, List, [], ◌∷◌, length, drop, fold, slice_set}
use Rattle.trace_model.specs.HistoryLaws.{committed_count}
use Rattle.trace_model.specs.Links.{Link}
use Rattle.trace_model.specs.Frames.{Purpose, Progress, waiting, Phase, idle, Frame}
use Rattle.trace_model.specs.Ring.{ReaderPhase, Core}

-- what is seen of the reader
pub record ReaderSeen : Type 0 where
  pub phase : ReaderPhase
  pub hint : ℕ
  pub seen : ℕ
  pub expected : ℕ

-- The counts of a ring: the spare is the reader's page; done, opened and wish are words that both ends see; head is the
-- least fill that is neither taken nor lost; committed, how many records are.
pub record CountsSeen : Type 0 where
  pub spare : ℕ
  pub done : ℕ
  pub opened : ℕ
  pub wish : ℕ
  pub head : ℕ
  pub committed : ℕ

-- What is seen of a ring: the link into each position, and that of the spare; the page at each position; the counts;
-- the frames, the top one first; the reader.
pub record RingSeen : Type 0 where
  pub links : List Link
  pub spare_link : Link
  pub order : List ℕ
  pub counts : CountsSeen
  pub frames : List Frame
  pub reader : ReaderSeen

abbrev pub reader_seen : Core → ReaderSeen
reader_seen c = let r = c.reader in
    record { phase = r.phase; hint = r.hint; seen = r.seen; expected = r.expected }

abbrev pub counts_seen : Core → CountsSeen
counts_seen c = record {
  spare = c.spare;
  done = c.done;
  opened = c.opened;
  wish = c.wish;
  head = c.head;
  committed = committed_count c.history;
}

-- what is seen of a ring in this state
abbrev pub ring_seen : Core → RingSeen
ring_seen c = record {
  links = c.links;
  spare_link = c.spare_link;
  order = c.order;
  counts = counts_seen c;
  frames = c.frames;
  reader = reader_seen c;
}

-- ---- keys and their values

-- the key of a count
pub data CountKey : Type 0 where
  spare_key done_key opened_key wish_key head_key committed_key : CountKey

-- A key with the value that it has from now on. The frame on the bottom has the depth 1; a frame that is pushed waits,
-- and is idle.
pub data Change : Type 0 where
  link_is : (position : ℕ) → Link → Change
  spare_link_is : Link → Change
  page_is : (position page : ℕ) → Change
  count_is : CountKey → ℕ → Change
  frame_is : (depth : ℕ) → Purpose → Change
  frame_gone : (depth : ℕ) → Change
  phase_is : (depth : ℕ) → Progress → Phase → Change
  reader_is : ReaderSeen → Change

abbrev pub with_count : CountKey → ℕ → CountsSeen → CountsSeen
with_count spare_key value counts = record counts { spare = value }
with_count done_key value counts = record counts { done = value }
with_count opened_key value counts = record counts { opened = value }
with_count wish_key value counts = record counts { wish = value }
with_count head_key value counts = record counts { head = value }
with_count committed_key value counts = record counts { committed = value }

-- the frames of these that are below this depth
abbrev pub frames_below : (depth : ℕ) → List Frame → List Frame
frames_below depth frames = drop ((length frames + 1) - depth) frames

-- the top one of these frames is in this state and phase
abbrev pub with_top_at : Progress → Phase → List Frame → List Frame
with_top_at state phase [] = []
with_top_at state phase (frame ∷ below) = record frame { state = state; phase = phase } ∷ below

-- the key has this value: nothing else changes
abbrev pub assigned : Change → RingSeen → RingSeen
assigned (link_is position link) v = record v { links = slice_set v.links position link }
assigned (spare_link_is link) v = record v { spare_link = link }
assigned (page_is position page) v = record v { order = slice_set v.order position page }
assigned (count_is key value) v = record v { counts = with_count key value v.counts }
assigned (frame_is depth kind) v = record v {
  frames = record { kind = kind; state = waiting; phase = idle } ∷ frames_below depth v.frames;
}
assigned (frame_gone depth) v = record v { frames = frames_below depth v.frames }
assigned (phase_is depth state phase) v = record v {
  frames = with_top_at state phase (frames_below (depth + 1) v.frames);
}
assigned (reader_is reader) v = record v { reader = reader }

-- these keys get their values, one after the other
abbrev pub all_assigned : List Change → RingSeen → RingSeen
all_assigned changes v = fold (λ w change. assigned change w) v changes
