-- What contracts see of a writer's stack.
use Rattle.std.specs.Prelude.{ℕ, ◌+◌, List, [], ◌∷◌, length}
use Rattle.trace_model.specs.Frames.{for_record, for_close, waiting, reserved, left, StackFrame}
use Rattle.trace_model.specs.Frames as frames_model
use Rattle.page_image.specs.Contents.{Contents}
use Rattle.nested_writer.specs.declared.frame.Purpose.{Purpose}
use Rattle.nested_writer.specs.declared.frame.Purpose.TheVariants.{Record, Close}
use Rattle.nested_writer.specs.declared.frame.Progress.{Progress}
use Rattle.nested_writer.specs.declared.frame.Progress.TheVariants.{Waiting, Through, Reserved, Left}
use Rattle.nested_writer.specs.declared.frame.Frame.{Frame}

-- A stack over the open pages of a ring of `pages` pages of this data size: how many fills are closed; the pages of
-- the fills that are begun and not closed, the oldest first and the tail apart; the frames, the top first; and the
-- moment of the last record that was reserved.
pub record Stack : Type 0 where
  pub pages : ℕ
  pub size : ℕ
  pub done : ℕ
  pub older : List Contents
  pub tail : Contents
  pub frames : List Frame
  pub last_moment : ℕ

-- the number of the tail's fill
abbrev pub tail_fill : Stack → ℕ
tail_fill s = s.done + length s.older

-- how many fills are begun, those closed counted
abbrev pub opened : Stack → ℕ
opened s = tail_fill s + 1

-- the number of the next record
abbrev pub next_number : Stack → ℕ
next_number s = s.tail.first + s.tail.count

-- a page without a record, the first of which will have this number
abbrev pub blank_page : (size first fill : ℕ) → Contents
blank_page size first fill = record {
  time = 0;
  first = first;
  count = 0;
  fill = fill;
  size = size;
  bytes = [];
}

-- a new stack: it is empty, over one page, which is empty
abbrev pub new_stack : (pages size start : ℕ) → Stack
new_stack pages size start = record {
  pages = pages;
  size = size;
  done = start;
  older = [];
  tail = blank_page size 0 start;
  frames = [];
  last_moment = 0;
}

-- ---- frames as the model has them

abbrev pub kind_of : Purpose → frames_model.Purpose
kind_of (Record moment len) = for_record moment len
kind_of Close = for_close

abbrev pub state_of : Progress → frames_model.Progress
state_of (Waiting noted) = waiting
state_of (Through noted) = waiting
state_of (Reserved slot) = reserved slot.number
state_of (Left noted) = left

abbrev pub model_frame : Frame → StackFrame
model_frame f = record { kind = kind_of f.purpose; state = state_of f.progress }

abbrev pub model_frames : List Frame → List StackFrame
model_frames [] = []
model_frames (f ∷ below) = model_frame f ∷ model_frames below
