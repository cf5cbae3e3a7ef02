-- The frames on the writer's stack of a ring, and how far each has come.
-- After kernel/trace/ring_buffer.c (rb_reserve_next_event, rb_move_tail, rb_handle_head_page) and
-- Documentation/trace/ring-buffer-design.rst, "Nested writes"; phase by phase in docs/formats/ring.md,
-- "Writer frames".
use Rattle.std.specs.Prelude.{ℕ, List, [], ◌∷◌, Option, Some, None}
use Rattle.trace_model.specs.History.{PushedFrame, record_frame, close_frame}

-- ---- the stack

-- A record frame writes one record, pushed with its moment and its payload's length in bytes; a close
-- frame begins the next fill, if the tail holds a record.
pub data Purpose : Type 0 where
  for_record : (moment len : ℕ) → Purpose
  for_close : Purpose

-- What a frame is on the writer's stack. waiting: it has no record yet. reserved: its record has this number.
-- left: it was ended or refused, or had nothing more to do, and stays only at the bottom, to close fills and to look
-- for the reader's wish.
pub data Progress : Type 0 where
  waiting left : Progress
  reserved : (number : ℕ) → Progress

-- the number of the frame's record, while it has reserved one
abbrev pub number_of : Progress → Option ℕ
number_of (reserved number) = Some number
number_of _ = None

-- a frame as the history has it
abbrev pub pushed_frame : Purpose → Progress → PushedFrame
pushed_frame (for_record moment len) state = record_frame moment len (number_of state)
pushed_frame for_close state = close_frame

-- the frames that haven't left, with this one on top
abbrev pub pushed_onto : Purpose → Progress → List PushedFrame → List PushedFrame
pushed_onto kind waiting below = pushed_frame kind waiting ∷ below
pushed_onto kind (reserved number) below = pushed_frame kind (reserved number) ∷ below
pushed_onto kind left below = below

-- a frame of the stack, whatever writer or ring it belongs to
pub record StackFrame : Type 0 where
  pub kind : Purpose
  pub state : Progress

-- the frames of a stack, the top first, that haven't left, as the history has them
abbrev pub pushed_of : List StackFrame → List PushedFrame
pushed_of [] = []
pushed_of (frame ∷ below) = pushed_onto frame.kind frame.state (pushed_of below)

-- ---- the head's protocol

-- Who moves the head: the frame that set the UPDATE, or one that found it.
pub data Role : Type 0 where
  owner helper : Role

-- How far a frame has come with the ring's words, in this order: idle, it has noted nothing; looking, claiming,
-- looking_next, marking, clearing, opening, the rows of docs/formats/ring.md, "Writer frames"; releasing, it closes
-- fills; wishing, none was left to close, and it looks for the reader's wish. noted: the number of begun fills when
-- it found that it needs a page, which is the number of the fill to open. page: the page at that fill's position. next:
-- the page after that.
pub data Phase : Type 0 where
  idle releasing wishing : Phase
  looking : (noted : ℕ) → Phase
  claiming clearing opening : (noted page : ℕ) → Phase
  looking_next : Role → (noted page : ℕ) → Phase
  marking : Role → (noted page next : ℕ) → Phase

-- A frame of a ring: what it was pushed for, what it is on the stack, and how far it has come. One that has left and
-- has noted a fill begins it for the reader's wish.
pub record Frame : Type 0 where
  pub kind : Purpose
  pub state : Progress
  pub phase : Phase

-- a ring's frames as those of a stack
abbrev pub stack_of : List Frame → List StackFrame
stack_of [] = []
stack_of (frame ∷ below) = record { kind = frame.kind; state = frame.state } ∷ stack_of below

-- the frames that haven't left, as the history has them
abbrev pub pushed_frames : List Frame → List PushedFrame
pushed_frames frames = pushed_of (stack_of frames)

-- the fill that a frame is about to open, if it has noted one
abbrev pub noted_fill : Phase → Option ℕ
noted_fill (looking o) = Some o
noted_fill (claiming o page) = Some o
noted_fill (looking_next role o page) = Some o
noted_fill (marking role o page next) = Some o
noted_fill (clearing o page) = Some o
noted_fill (opening o page) = Some o
noted_fill _ = None

-- the fill to open, if the frame owns the UPDATE at its position: it has set that, and not
-- yet cleared it
abbrev pub owned_update : Phase → Option ℕ
owned_update (looking_next owner o page) = Some o
owned_update (marking owner o page next) = Some o
owned_update (clearing o page) = Some o
owned_update _ = None

-- ---- refusals

-- why a push, a step or an end is refused: docs/formats/ring.md, "What is asked, and what is answered"
pub data WriteFault : Type 0 where
  too_deep too_long late_moment crowded worn no_frame not_reserved : WriteFault
