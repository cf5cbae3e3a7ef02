-- What ties a ring as a value to a state of the ring's model, which no field keeps.
use Rattle.std.specs.Prelude.{◌≡◌, ℕ, ◌+◌, ◌<◌, ◌≤◌, List, length, Option, Some}
use Rattle.std.specs.List.{slice_get}
use Rattle.trace_model.specs.Ring.{PageRecords, Core, page_at}
use Rattle.trace_model.specs.Steps.{contents_of}
use Rattle.ring_model.specs.Reached.{IsReached}
use Rattle.page_image.specs.Contents.{Contents}
use Rattle.nested_writer.specs.Released.{IsWrittenPage}
use Rattle.ring_frames.specs.AreFrames.{AreFrames}
use Rattle.ring_frames.specs.ReaderPhases.{reader_phase_of}
use Rattle.ring_core.specs.Value.{CoreValue, frames_of}

-- ---- pages at home

-- the page of this number is at home, and is the one of this fill with what it holds
abbrev pub IsHome : List (Option Contents) → (size page fill : ℕ) → PageRecords → Type 0
IsHome homes size page fill held =
    (body : Contents) × (slice_get homes page ≡ Some (Some body)) × IsWrittenPage size fill held body

-- a page of this size is at home under this number
abbrev pub HasBody : List (Option Contents) → (size page : ℕ) → Type 0
HasBody homes size page = (body : Contents) × (slice_get homes page ≡ Some (Some body)) × (body.size ≡ size)

-- ---- the ring

-- The value shows a state of the model, in a ring of n positions and pages of this size whose first fill has the
-- number start: the words and the reader are the state's, but for what it took, and the head follows from the links;
-- the writers' stack is what the state's history leaves, in its phases; a page of a fill that is closed and unread is
-- at home with what it holds; and so is a page for each fill that may be begun before one more is closed.
pub record HasStateOf (n size start : ℕ) (v : CoreValue) (c : Core) : Type 0 where
  pub frames : AreFrames n size start (frames_of v) c
  pub positions : length v.links ≡ n
  pub links_are : c.links ≡ v.links
  pub spare_link_is : c.spare_link ≡ v.spare_link
  pub order_is : c.order ≡ v.order
  pub spare_is : c.spare ≡ v.spare
  pub wish_is : c.wish ≡ v.wish
  pub reader_phase_is : c.reader.phase ≡ reader_phase_of v.reader.phase
  pub hint_is : c.reader.hint ≡ v.reader.hint
  pub seen_is : c.reader.seen ≡ v.reader.seen
  pub expected_is : c.reader.expected ≡ v.reader.expected
  pub closed : (f : ℕ)
      → c.head ≤ f
      → f < c.done
      → IsHome v.homes size (page_at n c.order f) f (contents_of c (page_at n c.order f))
  pub free : (f : ℕ) → c.opened ≤ f → f < c.done + n → HasBody v.homes size (page_at n c.order f)

-- The value is the ring in this state, which steps from a new ring reach.
pub record IsCore (n size start : ℕ) (v : CoreValue) (c : Core) : Type 0 where
  pub reached : IsReached n size start c
  pub shows : HasStateOf n size start v c
