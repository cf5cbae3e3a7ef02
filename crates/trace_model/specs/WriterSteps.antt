-- The steps of a writer's frame but for the move of the head: docs/formats/ring.md, "Writer frames", row by row.
-- After kernel/trace/ring_buffer.c (rb_reserve_next_event, rb_move_tail, rb_end_commit, rb_set_commit_to_write). A step
-- reads or writes one word of the ring at most, with what goes with it in the frame.
use Rattle.std.specs.Prelude.{ℕ, ◌+◌, ◌-◌, Bool, true, if◌then◌else◌, ◌&&◌, ◌||◌, ◌==◌, nat_lt, nat_le, List, [], ◌∷◌}
use Rattle.std.specs.Prelude.{◌++◌, length, map, Option, Some, None, drop, slice_index_or, slice_set}
use Rattle.trace_model.specs.declared.limits.TheConstants.{MAX_FRAMES, MOMENT_LIMIT, LINK_FILLS}
use Rattle.trace_model.specs.Words.{slot_len, encoded_len}
use Rattle.trace_model.specs.History.{HistoryEvent, push, push_close, leave, wished, Reservation, reservation_for}
use Rattle.trace_model.specs.History.{reserved_records, records_with_payload}
use Rattle.trace_model.specs.Packing.{fill_len, tail_of}
use Rattle.trace_model.specs.Links.{Mark, normal, header, update, Link}
use Rattle.trace_model.specs.Frames.{Purpose, for_record, for_close, Progress, waiting, reserved, left, number_of}
use Rattle.trace_model.specs.Frames.{helper, Phase, idle, looking, claiming, looking_next, opening, releasing, wishing}
use Rattle.trace_model.specs.Frames.{Frame, WriteFault, too_deep, too_long, late_moment, crowded, worn, no_frame}
use Rattle.trace_model.specs.Frames.{not_reserved}
use Rattle.trace_model.specs.Ring.{PageRecords, empty_page, Core, link_into, links_with}
use Rattle.trace_model.specs.Events.{Answer, pushed, going, reserved_as, pending, full, gone, refused, Outcome, only_if}

-- ---- what a step makes of the state

-- the state after a history event of the frame on top
abbrev pub with_history_event : Core → HistoryEvent → Core
with_history_event c history_event = record c { history = c.history ++ history_event ∷ [] }

-- the frame on top goes on in this phase
abbrev pub in_phase : Core → Frame → List Frame → Phase → Core
in_phase c frame below phase = record c { frames = record frame { phase = phase } ∷ below }

abbrev pub goes_on : Core → Frame → List Frame → Phase → Outcome
goes_on c frame below phase = Some (going, in_phase c frame below phase)

-- the link into the position of a fill is set
abbrev pub with_link : ℕ → Core → ℕ → Link → Core
with_link n c f l = record c { links = links_with n c.links f l }

-- a page holds these records from now on
abbrev pub with_held : Core → ℕ → PageRecords → Core
with_held c page h = record c { held = slice_set c.held page h }

-- what a page holds
abbrev pub contents_of : Core → ℕ → PageRecords
contents_of c page = slice_index_or c.held page empty_page

-- the tail page: the last one that the writer holds
abbrev pub tail_page : Core → ℕ
tail_page c = slice_index_or c.open_pages (length c.open_pages - 1) 0

-- the tail holds a record
abbrev pub tail_holds : Core → Bool
tail_holds c = nat_lt 0 (length (tail_of c.history))

-- ---- a frame leaves

-- the phase of a frame that has left: it closes fills, or where none is left to close looks for a wish
abbrev pub closing_phase : Core → Phase
closing_phase c = if (c.done + 1) == c.opened then wishing else releasing

-- The frame leaves: one with a frame below it is popped; the bottom one stays, to close fills.
abbrev pub frames_after_leave : Core → Frame → List Frame → List Frame
frames_after_leave c frame [] = record frame { state = left; phase = closing_phase c } ∷ []
frames_after_leave c frame (next ∷ below) = next ∷ below

abbrev pub leave_answer : List Frame → Answer
leave_answer [] = going
leave_answer (next ∷ below) = gone

-- what a page holds, with the payload of the record of this number
abbrev pub held_with_payload : Option ℕ → Option (List ℕ) → PageRecords → PageRecords
held_with_payload None payload h = h
held_with_payload (Some number) payload h = record h {
  records =
      if nat_lt number h.first then h.records else records_with_payload (Some (number - h.first)) payload h.records;
}

-- the number of the record that a frame reserved
abbrev pub own_number : Purpose → Progress → Option ℕ
own_number (for_record moment len) state = number_of state
own_number for_close state = None

-- the state in which the frame has left
abbrev pub after_leave : Core → Frame → List Frame → Option (List ℕ) → Core
after_leave c frame below payload = record c {
  frames = frames_after_leave c frame below;
  history = c.history ++ leave payload ∷ [];
  held = map (held_with_payload (own_number frame.kind frame.state) payload) c.held;
}

-- the frame is refused, and leaves
abbrev pub refuses : Core → Frame → List Frame → WriteFault → Outcome
refuses c frame below why = Some (refused why, after_leave c frame below None)

-- ---- a fill is begun, by this frame or by another

-- What a frame does once its fill is begun: a record frame tries again; a close frame has what it wanted and leaves;
-- one that has left goes on to close fills.
abbrev pub begins_again : Purpose → Progress → Core → Frame → List Frame → Outcome
begins_again (for_record moment len) waiting c frame below = goes_on c frame below idle
begins_again for_close waiting c frame below = Some (leave_answer below, after_leave c frame below None)
begins_again kind (reserved number) c frame below = goes_on c frame below idle
begins_again kind left c frame below = goes_on c frame below (closing_phase c)

-- A frame whose noted fill was begun by another begins again, and does nothing else in that step.
abbrev pub unless_begun : ℕ → Core → Frame → List Frame → Outcome → Outcome
unless_begun noted c frame below outcome =
    if noted == c.opened then outcome else begins_again frame.kind frame.state c frame below

-- ---- a push

-- a frame of this kind is pushed
abbrev pub with_frame : Core → Purpose → Core
with_frame c kind = record c { frames = record { kind = kind; state = waiting; phase = idle } ∷ c.frames }

-- It is refused if there is no room for one more frame, its record has no room in an empty page of this size, or its
-- moment is too late.
abbrev pub push_record : (size : ℕ) → Core → (moment len : ℕ) → Outcome
push_record size c moment len =
    if nat_le MAX_FRAMES (length c.frames) then Some (refused too_deep, c)
    else (if nat_lt size len || nat_lt size (encoded_len len 0 true) then Some (refused too_long, c)
    else (if nat_le MOMENT_LIMIT moment then Some (refused late_moment, c)
    else Some (pushed, with_history_event (with_frame c (for_record moment len)) (push moment len))))

abbrev pub push_close_frame : Core → Outcome
push_close_frame c =
    if nat_le MAX_FRAMES (length c.frames) then Some (refused too_deep, c)
    else Some (pushed, with_history_event (with_frame c for_close) push_close)

-- ---- idle, waiting

-- the reservation of a record of this moment, for a payload of len bytes, if it is made now
abbrev pub new_reservation : Core → (moment len : ℕ) → Reservation
new_reservation c moment len = reservation_for moment len (reserved_records c.history)

-- the state in which a record is reserved: it is the last in the tail page
abbrev pub with_reservation : Core → Reservation → Core
with_reservation c r =
    let tail : PageRecords = contents_of c (tail_page c) in
    let next : PageRecords = record tail { records = tail.records ++ r ∷ [] } in
    with_history_event (with_held c (tail_page c) next) HistoryEvent.reserve

-- the frame on top has reserved the record of this number
abbrev pub in_reserved : Core → Frame → List Frame → ℕ → Core
in_reserved c frame below number =
    record c { frames = record frame { state = reserved number; phase = idle } ∷ below }

-- A page is needed: all pages have fills that aren't closed, or the tail is the last fill that may be begun, or the
-- fill to open is noted.
abbrev pub note_fill : (n : ℕ) → Core → Frame → List Frame → Outcome
note_fill n c frame below =
    if c.opened == c.done + n then refuses c frame below crowded
    else (if nat_le LINK_FILLS (c.opened + n) then refuses c frame below worn
    else goes_on c frame below (looking c.opened))

-- A record that fits in the tail page gets its number and moment. A close frame leaves if the tail is empty.
abbrev pub reserve : (n size : ℕ) → Core → Frame → List Frame → Purpose → Outcome
reserve n size c frame below (for_record moment len) =
    let r : Reservation = new_reservation c moment len in
    let number : ℕ = length (reserved_records c.history) in
    if nat_le (fill_len (tail_of c.history ++ r ∷ [])) size
    then Some (reserved_as number, in_reserved (with_reservation c r) frame below number)
    else note_fill n c frame below
reserve n size c frame below for_close =
    if tail_holds c then note_fill n c frame below
    else Some (leave_answer below, after_leave c frame below None)

-- ---- looking: a load of the link into the position of the fill to open

-- the link is this one
abbrev pub sees_link : ℕ → Core → Frame → List Frame → (noted : ℕ) → Mark → (page fill : ℕ) → Outcome
sees_link n c frame below noted normal page fill =
    only_if (fill == noted) (goes_on c frame below (opening noted page))
sees_link n c frame below noted header page fill =
    only_if (fill + n == noted) (goes_on c frame below (claiming noted page))
sees_link n c frame below noted update page fill =
    only_if (fill + n == noted) (goes_on c frame below (looking_next helper noted page))

abbrev pub load_link : (n : ℕ) → Core → Frame → List Frame → (noted : ℕ) → Outcome
load_link n c frame below noted =
    let l : Link = link_into n c.links noted in
    unless_begun noted c frame below (sees_link n c frame below noted l.mark l.page l.fill)

-- claiming, looking at the next, marking, clearing: HeadMove

-- ---- opening: a store of the number of begun fills

-- The state in which the fill is begun: the writer holds its page, which is empty, and its first record will be
-- the next one that is reserved.
abbrev pub with_new_tail : Core → ℕ → Core
with_new_tail c page =
    let empty : PageRecords = record { first = length (reserved_records c.history); records = [] } in
    record (with_history_event (with_held c page empty) HistoryEvent.open_fill) {
      opened = c.opened + 1;
      open_pages = c.open_pages ++ page ∷ [];
    }

abbrev pub open_fill : Core → Frame → List Frame → (noted page : ℕ) → Outcome
open_fill c frame below noted page =
    unless_begun noted c frame below (begins_again frame.kind frame.state (with_new_tail c page) frame below)

-- ---- idle, reserved: a step, and the end with the payload

abbrev pub idle_step : (n size : ℕ) → Core → Frame → List Frame → Progress → Outcome
idle_step n size c frame below waiting = reserve n size c frame below frame.kind
idle_step n size c frame below (reserved number) = Some (reserved_as number, c)
idle_step n size c frame below left = None

-- the answer to the end of a record above these frames
abbrev pub end_answer : List Frame → Answer
end_answer [] = full
end_answer (next ∷ below) = pending

-- The payload takes the slot that the record has.
abbrev pub end_frame : Core → List ℕ → Frame → List Frame → Purpose → (reserved : Option ℕ) → Outcome
end_frame c payload frame below kind None = Some (refused not_reserved, c)
end_frame c payload frame below (for_record moment len) (Some number) =
    only_if (slot_len (length payload) == slot_len len)
    (Some (end_answer below, after_leave c frame below (Some payload)))
end_frame c payload frame below for_close (Some number) = None

abbrev pub end_top : Core → List ℕ → List Frame → Outcome
end_top c payload [] = Some (refused no_frame, c)
end_top c payload (frame ∷ below) = end_frame c payload frame below frame.kind (number_of frame.state)

-- ---- releasing: a store of the number of closed fills, by the bottom frame

-- the oldest fill that isn't closed is closed, and the writer lets its page go
abbrev pub with_released : Core → Core
with_released c = record c { done = c.done + 1; open_pages = drop 1 c.open_pages }

abbrev pub release_fill : Core → Frame → List Frame → Outcome
release_fill c frame [] =
    if c.done + 2 == c.opened then goes_on (with_released c) frame [] wishing
    else only_if (nat_lt (c.done + 2) c.opened) (Some (going, with_released c))
release_fill c frame (next ∷ below) = None

-- ---- wishing: a load of the reader's wish, by the bottom frame

-- the wish is for the tail, which holds a record and isn't the last fill that may be begun
abbrev pub is_granted : (n : ℕ) → Core → Bool
is_granted n c = c.wish == c.opened && tail_holds c && nat_lt (c.opened + n) LINK_FILLS

abbrev pub load_wish : (n : ℕ) → Core → Frame → List Frame → Outcome
load_wish n c frame [] =
    if is_granted n c then goes_on (with_history_event c wished) frame [] (looking c.opened)
    else (if c.done + 1 == c.opened then Some (gone, record c { frames = [] })
    else only_if (nat_lt (c.done + 1) c.opened) (goes_on c frame [] releasing))
load_wish n c frame (next ∷ below) = None
