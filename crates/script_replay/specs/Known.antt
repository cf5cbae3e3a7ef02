-- What a teller of steps has told so far, and what it knows of the rings.
use Rattle.std.specs.Prelude.{◌≡◌, ◌≢◌, ℕ, List, [], ◌∷◌, length, Option, Some, None}
use Rattle.std.specs.List.{slice_get}
use Rattle.trace_model.specs.History.{last_moment, reserved_records}
use Rattle.trace_model.specs.Links.{Link}
use Rattle.trace_model.specs.Frames.{Frame}
use Rattle.trace_model.specs.Ring.{Core}
use Rattle.step_model.specs.Seen.{ReaderSeen, CountsSeen, reader_seen, counts_seen}
use Rattle.step_model.specs.StepCounts.{records_in}

-- What is known of a ring: the link into each position, and that of the spare; the page at each position; the counts;
-- how many frames are on the stack, and the one on top; the reader; how many records are reserved, and the moment of
-- the last one.
pub record RingKnown : Type 0 where
  pub links : List Link
  pub spare_link : Link
  pub order : List ℕ
  pub counts : CountsSeen
  pub depth : ℕ
  pub top : Option Frame
  pub reader : ReaderSeen
  pub records : ℕ
  pub last_moment : ℕ

-- the frame on top of these
abbrev pub top_frame : List Frame → Option Frame
top_frame [] = None
top_frame (frame ∷ below) = Some frame

-- what is known of a ring in this state
abbrev pub ring_known : Core → RingKnown
ring_known c = record {
  links = c.links;
  spare_link = c.spare_link;
  order = c.order;
  counts = counts_seen c;
  depth = length c.frames;
  top = top_frame c.frames;
  reader = reader_seen c;
  records = records_in c;
  last_moment = last_moment (reserved_records c.history);
}

-- the text so far, and what is known of the ring of each CPU
pub record StepTextValue : Type 0 where
  pub text : List ℕ
  pub rings : List RingKnown

-- the ring of this CPU is known to be in this state
abbrev pub Knows : StepTextValue → (cpu : ℕ) → Core → Type 0
Knows v cpu c = slice_get v.rings cpu ≡ Some (ring_known c)

-- of other rings the same is known
abbrev pub KnowsOthers : (cpu : ℕ) → StepTextValue → StepTextValue → Type 0
KnowsOthers cpu old new = (other : ℕ) → other ≢ cpu → slice_get new.rings other ≡ slice_get old.rings other
