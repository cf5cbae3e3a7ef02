-- What holds of the fields of a writer's stack.
use Rattle.std.specs.Prelude.{◌≡◌, ◌+◌, ◌-◌, ◌≤◌, ◌<◌, List, [], ◌∷◌, length, Option, Some, None}
use Rattle.std.specs.VecDeque.{deque_capacity}
use Rattle.trace_model.specs.declared.limits.TheConstants.{MIN_PAGES, MAX_PAGES, MIN_SIZE, MAX_SIZE, MAX_FRAMES}
use Rattle.trace_model.specs.declared.limits.TheConstants.{LINK_FILLS}
use Rattle.record_words.specs.declared.format.TheConstants.{SHORT_LIMIT}
use Rattle.nested_writer.specs.declared.frame.Frame.{Frame}
use Rattle.nested_writer.specs.declared.stack.WriterStack.TheInside.{Inside}
use Rattle.nested_writer.specs.Stack.{Stack}
use Rattle.nested_writer.specs.TopFrame.{frame_in}

-- the frames, the top first
abbrev pub frames_from : Option Frame → List Frame → List Frame
frames_from None below = below
frames_from (Some top) below = top ∷ below

-- the frame on top
abbrev pub top_frame : Inside → Option Frame
top_frame w = frame_in w.top (w.done + length w.older.pages)

abbrev pub stack_of : Inside → Stack
stack_of w = record {
  pages = w.pages;
  size = w.size;
  done = w.done;
  older = w.older.pages;
  tail = w.tail.page;
  frames = frames_from (top_frame w) w.below.items;
  last_moment = w.last_moment;
}

-- There is room for all pages and frames, and no other room is taken; if the stack is empty, all fills but the tail
-- are released; the next fill has a number; a payload of the plain length has room on an empty page; and up to the
-- plain end the tail has room for any short record (docs/GLOSSARY.md).
pub record IsWriterStack (w : Inside) : Type 0 where
  pub some_pages : MIN_PAGES ≤ w.pages
  pub most_pages : w.pages ≤ MAX_PAGES
  pub small : MIN_SIZE ≤ w.size
  pub large : w.size ≤ MAX_SIZE
  pub room : w.pages ≡ w.older.room
  pub open_pages : length w.older.pages < w.pages
  pub frames_room : MAX_FRAMES ≡ deque_capacity w.below
  pub frames : length (frames_from (top_frame w) w.below.items) ≤ MAX_FRAMES
  pub top_first : top_frame w ≡ None → w.below.items ≡ []
  pub at_rest : top_frame w ≡ None → w.older.pages ≡ []
  pub fills : w.done + length w.older.pages + 1 + w.pages ≤ LINK_FILLS
  pub plain_short : w.plain_len ≤ SHORT_LIMIT
  pub plain_room : w.plain_len + 12 ≤ w.size
  pub plain_end_is : w.plain_end ≡ w.size - (4 + SHORT_LIMIT)
