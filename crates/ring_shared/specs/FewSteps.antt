-- How many steps a writer's end makes: those of a frame in a row, and those of a call.
use Rattle.std.specs.Prelude.{ℕ, suc, ◌+◌, ◌≤◌, Bool, true, false, ◌&&◌, if◌then◌else◌, ◌==◌, List, [], ◌∷◌, length}
use Rattle.trace_model.specs.Frames.{Progress, waiting, reserved, left, Frame}
use Rattle.trace_model.specs.Steps as model
use Rattle.ring_model.specs.Ranks.{frame_limit}
use Rattle.ring_steps.specs.declared.rule.Shape.{Shape}
use Rattle.ring_steps.specs.Made.{WriterMade}
use Rattle.ring_steps.specs.Views.{Writing}
use Rattle.ring_steps.specs.Paging.{IsWriterReached}

-- ---- a frame

-- whether this brings a frame nearer to being gone: a step, unless it has reserved; and its end, if it has
abbrev pub brings_on : model.Event → Progress → Bool
brings_on (model.pushes moment len) state = false
brings_on model.pushes_close state = false
brings_on model.steps waiting = true
brings_on model.steps (reserved number) = false
brings_on model.steps left = true
brings_on (model.ends payload) waiting = false
brings_on (model.ends payload) (reserved number) = true
brings_on (model.ends payload) left = false
brings_on model.reads state = false
brings_on model.wishes state = false

-- the frame on top of these
abbrev pub brings_top_on : model.Event → List Frame → Bool
brings_top_on event [] = false
brings_top_on event (frame ∷ below) = brings_on event frame.state

-- one more in a row, if it brought on the frame on top of these, which is still on the stack; if not, the row is over
abbrev pub row_after : List Frame → ℕ → WriterMade → ℕ
row_after frames row one =
    if brings_top_on one.exchange.event frames && (length one.frames == length frames) then suc row else 0

abbrev pub row_from : List Frame → ℕ → List WriterMade → ℕ
row_from frames row [] = row
row_from frames row (one ∷ made) = row_from one.frames (row_after frames row one) made

-- how many such steps the frame on top has made in a row by now
abbrev pub steps_in_a_row : List WriterMade → ℕ
steps_in_a_row made = row_from [] 0 made

-- They are at most 3N + 52 in a ring of N pages, whatever the reader did in between.
abbrev pub FramesMakeFewSteps : Type 0
FramesMakeFewSteps = (shape : Shape) (w : Writing)
    → IsWriterReached shape w
    → steps_in_a_row w.made ≤ frame_limit shape.pages

-- ---- a call

-- the writer's end has made at most this many steps more
abbrev pub MakesAtMost : ℕ → Writing → Writing → Type 0
MakesAtMost most before after = length after.made ≤ length before.made + most

-- the most that `finish_top` makes, 3N + 53: those of a frame in a row, and the one by which it is gone
abbrev pub most_to_finish : Shape → ℕ
most_to_finish shape = frame_limit shape.pages + 1

-- the most that `write` makes, 3N + 54: its push, and then at most these
abbrev pub most_to_write : Shape → ℕ
most_to_write shape = most_to_finish shape + 1
