-- One step of a ring: what an event makes of its state, and what it answers.
-- After kernel/trace/ring_buffer.c and docs/formats/ring.md, "Writer frames" and "The reader": each row is one case of
-- WriterSteps, HeadMove or ReaderSteps.
use Rattle.std.specs.Prelude.{◌≡◌, ℕ, List, [], ◌∷◌, Some}
use Rattle.trace_model.specs.Frames.{Phase, idle, looking, claiming, looking_next, marking, clearing, opening}
use Rattle.trace_model.specs.Frames.{releasing, wishing, Frame, no_frame}
use Rattle.trace_model.specs.Ring.{ReaderPhase, loading_head, loading_done, storing_spare_link, swapping, Core}
use Rattle.trace_model.specs.Events.{Event, pushes, pushes_close, steps, ends, reads, wishes, Answer, refused, Outcome}
use Rattle.trace_model.specs.WriterSteps.{push_record, push_close_frame, idle_step, load_link, open_fill, end_top}
use Rattle.trace_model.specs.WriterSteps.{release_fill, load_wish}
use Rattle.trace_model.specs.HeadMove.{claim_head, load_next, mark_head, clear_update}
use Rattle.trace_model.specs.ReaderSteps.{load_head, load_done, store_spare_link, swap_head, store_wish}
-- what is said of steps, by one name
pub use Rattle.trace_model.specs.Events.{Event, pushes, pushes_close, steps, ends, reads, wishes, Answer, pushed, going}
pub use Rattle.trace_model.specs.Events.{reserved_as, pending, full, gone, refused, reading, empty, moving, page_taken}
pub use Rattle.trace_model.specs.Events.{wished_for}
pub use Rattle.trace_model.specs.WriterSteps.{with_history_event, in_phase, with_link, with_held, contents_of}
pub use Rattle.trace_model.specs.WriterSteps.{tail_page, closing_phase, frames_after_leave, leave_answer}
pub use Rattle.trace_model.specs.WriterSteps.{held_with_payload, own_number, after_leave, with_frame, new_reservation}
pub use Rattle.trace_model.specs.WriterSteps.{with_reservation, in_reserved, with_new_tail, end_answer, with_released}
pub use Rattle.trace_model.specs.HeadMove.{with_head_claimed, after_next}
pub use Rattle.trace_model.specs.ReaderSteps.{reader_at, reader_saw, next_header, taken_fill, reader_after, after_swap}
pub use Rattle.trace_model.specs.ReaderSteps.{with_wish}
pub use Rattle.trace_model.specs.StepConditions.{MayContinue, NeedsPage, IsGranted, IsTooLong, begin_answer}
pub use Rattle.trace_model.specs.StepConditions.{after_begin}

-- the step of the frame on top, in its phase
abbrev pub frame_step_of : (n size : ℕ) → Core → Frame → List Frame → Phase → Outcome
frame_step_of n size c frame below idle = idle_step n size c frame below frame.state
frame_step_of n size c frame below (looking noted) = load_link n c frame below noted
frame_step_of n size c frame below (claiming noted page) = claim_head n c frame below noted page
frame_step_of n size c frame below (looking_next role noted page) = load_next n c frame below role noted page
frame_step_of n size c frame below (marking role noted page next) = mark_head n c frame below role noted page next
frame_step_of n size c frame below (clearing noted page) = clear_update n c frame below noted page
frame_step_of n size c frame below (opening noted page) = open_fill c frame below noted page
frame_step_of n size c frame below releasing = release_fill c frame below
frame_step_of n size c frame below wishing = load_wish n c frame below

abbrev pub top_step_of : (n size : ℕ) → Core → List Frame → Outcome
top_step_of n size c [] = Some (refused no_frame, c)
top_step_of n size c (frame ∷ below) = frame_step_of n size c frame below frame.phase

-- the step of the reader, in its phase
abbrev pub read_step_of : (n : ℕ) → Core → ReaderPhase → Outcome
read_step_of n c loading_head = load_head n c
read_step_of n c (loading_done page fill) = load_done c page fill
read_step_of n c (storing_spare_link page fill) = store_spare_link n c page fill
read_step_of n c (swapping page fill) = swap_head n c page fill

-- The step of a ring of n positions and pages of this size: its answer, and the state after it.
abbrev pub step_of : (n size : ℕ) → Core → Event → Outcome
step_of n size c (pushes moment len) = push_record size c moment len
step_of n size c pushes_close = push_close_frame c
step_of n size c steps = top_step_of n size c c.frames
step_of n size c (ends payload) = end_top c payload c.frames
step_of n size c reads = read_step_of n c c.reader.phase
step_of n size c wishes = store_wish c

-- the event is a step, with this answer and this state after it
pub record Step (n size : ℕ) (c : Core) (event : Event) (answer : Answer) (after : Core) : Type 0 where
  pub is : step_of n size c event ≡ Some (answer, after)

-- what was asked of the ring, and what it answered
pub record Exchange : Type 0 where
  pub event : Event
  pub answer : Answer

-- The exchanges are steps, one after the other, and lead from one state to another.
abbrev pub Run : ℕ → ℕ → Core → List Exchange → Core → Type 0
Run n size before [] after = before ≡ after
Run n size before (x ∷ exchanges) after =
    (between : Core) × Step n size before x.event x.answer between × Run n size between exchanges after
