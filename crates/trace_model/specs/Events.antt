-- What a ring is asked, step by step, what it answers, and what a step leads to.
use Rattle.std.specs.Prelude.{ℕ, Bool, true, false, List, Option, None}
use Rattle.trace_model.specs.Frames.{WriteFault}
use Rattle.trace_model.specs.Ring.{TakenFill, Core}

-- pushes, pushes_close: a frame is pushed, for a record or for a close. steps: the frame on top makes one step. ends:
-- it is ended with its payload, which takes the slot that the record has. reads: the reader makes one step, which
-- begins a take if none is under way. wishes: it wishes for the tail page.
pub data Event : Type 0 where
  pushes : (moment len : ℕ) → Event
  pushes_close steps reads wishes : Event
  ends : (payload : List ℕ) → Event

-- pushed: the frame is on the stack now. refused: why. going: the frame is on the stack, and has reserved nothing, or
-- has left and has more to do. reserved_as: its record has this number. pending, full: it was ended, with a frame
-- below it or with none. gone: it has left the stack. reading: the take goes on. empty: no closed fill is unread, and
-- done is the oldest fill that isn't closed. moving: a head move is in progress, and fills below this one are taken or
-- lost. page_taken: a fill is taken. wished_for: the reader wished for this fill.
pub data Answer : Type 0 where
  pushed going pending full gone reading : Answer
  reserved_as : (number : ℕ) → Answer
  empty : (done : ℕ) → Answer
  moving wished_for : (fill : ℕ) → Answer
  refused : WriteFault → Answer
  page_taken : TakenFill → Answer

-- what a step answers, and the state after it; None: there is no such step
abbrev pub Outcome : Type 0
Outcome = Option (Answer × Core)

-- the outcome, if this holds; else there is no such step
abbrev pub only_if : Bool → Outcome → Outcome
only_if true outcome = outcome
only_if false outcome = None
