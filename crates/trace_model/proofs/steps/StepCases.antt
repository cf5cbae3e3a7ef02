-- The steps of a ring case by case, with what holds in each: what a proof splits a step into. By StepSound and StepIs
-- they are the steps that the function makes.
use Rattle.std.specs.Prelude.{◌≡◌, ◌≢◌, ℕ, suc, ◌+◌, ◌<◌, ◌≤◌, List, [], ◌∷◌, length, Some, None}
use Rattle.trace_model.specs.declared.limits.TheConstants.{MAX_FRAMES, MOMENT_LIMIT, LINK_FILLS}
use Rattle.trace_model.specs.Words.{slot_len}
use Rattle.trace_model.specs.History.{push, push_close, wished, Reservation, reserved_records}
use Rattle.trace_model.specs.Packing.{tail_of, FitsBehind}
use Rattle.trace_model.specs.Links.{normal_link, header_link, update_link}
use Rattle.trace_model.specs.Frames.{for_record, for_close, Progress, waiting, reserved, left, number_of, Role, owner}
use Rattle.trace_model.specs.Frames.{helper, Phase, idle, looking, claiming, looking_next, marking, clearing, opening}
use Rattle.trace_model.specs.Frames.{releasing, wishing, Frame, WriteFault, too_deep, too_long, late_moment, crowded}
use Rattle.trace_model.specs.Frames.{worn, no_frame, not_reserved}
use Rattle.trace_model.specs.Ring.{link_into, ReaderPhase, loading_head, loading_done, storing_spare_link, swapping}
use Rattle.trace_model.specs.Ring.{Core}
use Rattle.trace_model.specs.Events.{Event, pushes, pushes_close, steps, ends, reads, wishes, Answer, pushed, going}
use Rattle.trace_model.specs.Events.{reserved_as, gone, refused, reading, empty, moving, page_taken, wished_for}
use Rattle.trace_model.specs.WriterSteps.{with_history_event, in_phase, with_link, leave_answer, after_leave}
use Rattle.trace_model.specs.WriterSteps.{with_frame, new_reservation, with_reservation, in_reserved, with_new_tail}
use Rattle.trace_model.specs.WriterSteps.{end_answer, with_released}
use Rattle.trace_model.specs.HeadMove.{with_head_claimed, after_next}
use Rattle.trace_model.specs.ReaderSteps.{reader_at, reader_saw, next_header, taken_fill, after_swap, with_wish}
use Rattle.trace_model.specs.StepConditions.{MayContinue, NeedsPage, IsGranted, IsTooLong, begin_answer, after_begin}

-- ---- the steps of a frame, phase by phase

-- Private: the record is reserved in the tail page; or there is nothing to close; or a page is needed,
-- and refused or noted.
pub data ReserveStep (n size : ℕ) (c : Core) (frame : Frame) (below : List Frame) (answer : Answer) (after : Core)
    : Type 0 where
  reserves : (moment len : ℕ) (r : Reservation)
      → frame.kind ≡ for_record moment len
      → r ≡ new_reservation c moment len
      → FitsBehind size (tail_of c.history) r
      → answer ≡ reserved_as (length (reserved_records c.history))
      → after ≡ in_reserved (with_reservation c r) frame below (length (reserved_records c.history))
      → ReserveStep n size c frame below answer after
  finds_nothing :
      frame.kind ≡ for_close
      → tail_of c.history ≡ []
      → answer ≡ leave_answer below
      → after ≡ after_leave c frame below None
      → ReserveStep n size c frame below answer after
  is_crowded :
      NeedsPage size c frame.kind
      → c.opened ≡ c.done + n
      → answer ≡ refused crowded
      → after ≡ after_leave c frame below None
      → ReserveStep n size c frame below answer after
  is_worn :
      NeedsPage size c frame.kind
      → c.opened ≢ c.done + n
      → LINK_FILLS ≤ c.opened + n
      → answer ≡ refused worn
      → after ≡ after_leave c frame below None
      → ReserveStep n size c frame below answer after
  notes :
      NeedsPage size c frame.kind
      → c.opened ≢ c.done + n
      → c.opened + n < LINK_FILLS
      → answer ≡ going
      → after ≡ in_phase c frame below (looking c.opened)
      → ReserveStep n size c frame below answer after

-- Another frame has begun a fill since this one noted what to open.
pub record BeginsAgain (c : Core) (frame : Frame) (below : List Frame) (noted : ℕ) (answer : Answer) (after : Core)
    : Type 0 where
  pub passed : noted ≢ c.opened
  pub answer_is : answer ≡ begin_answer frame.kind frame.state below
  pub after_is : after ≡ after_begin frame.kind frame.state c frame below

-- A load of the link into the position of the fill to open: the position is free, or its page is the head, or
-- a frame below is moving the head.
pub data LoadLinkStep (n : ℕ) (c : Core) (frame : Frame) (below : List Frame)
    (noted : ℕ) (answer : Answer) (after : Core)
    : Type 0 where
  load_link_late :
      BeginsAgain c frame below noted answer after
      → LoadLinkStep n c frame below noted answer after
  sees_free : (page : ℕ)
      → noted ≡ c.opened
      → link_into n c.links noted ≡ normal_link page noted
      → answer ≡ going
      → after ≡ in_phase c frame below (opening noted page)
      → LoadLinkStep n c frame below noted answer after
  sees_header : (page lost : ℕ)
      → noted ≡ c.opened
      → lost + n ≡ noted
      → link_into n c.links noted ≡ header_link page lost
      → answer ≡ going
      → after ≡ in_phase c frame below (claiming noted page)
      → LoadLinkStep n c frame below noted answer after
  sees_update : (page lost : ℕ)
      → noted ≡ c.opened
      → lost + n ≡ noted
      → link_into n c.links noted ≡ update_link page lost
      → answer ≡ going
      → after ≡ in_phase c frame below (looking_next helper noted page)
      → LoadLinkStep n c frame below noted answer after

-- A compare and exchange of that link from HEADER to UPDATE: if it succeeds, the head is lost and the frame
-- owns the UPDATE.
pub data ClaimHeadStep (n : ℕ) (c : Core) (frame : Frame) (below : List Frame)
    (noted page : ℕ) (answer : Answer) (after : Core)
    : Type 0 where
  claim_late :
      BeginsAgain c frame below noted answer after
      → ClaimHeadStep n c frame below noted page answer after
  claims : (lost : ℕ)
      → noted ≡ c.opened
      → lost + n ≡ noted
      → link_into n c.links noted ≡ header_link page lost
      → answer ≡ going
      → after ≡ in_phase (with_head_claimed n c noted page lost) frame below (looking_next owner noted page)
      → ClaimHeadStep n c frame below noted page answer after
  claim_fails :
      noted ≡ c.opened
      → ((lost : ℕ) → lost + n ≡ noted → link_into n c.links noted ≢ header_link page lost)
      → answer ≡ going
      → after ≡ in_phase c frame below (looking noted)
      → ClaimHeadStep n c frame below noted page answer after

-- A load of the next link, that of the page which is passed: does it still wait for the HEADER?
pub data LoadNextStep (n : ℕ) (c : Core) (frame : Frame) (below : List Frame)
    (role : Role) (noted page : ℕ) (answer : Answer) (after : Core)
    : Type 0 where
  load_next_late :
      role ≡ helper
      → BeginsAgain c frame below noted answer after
      → LoadNextStep n c frame below role noted page answer after
  sees_normal : (lost next : ℕ)
      → MayContinue role noted c.opened
      → lost + n ≡ noted
      → link_into n c.links (suc lost) ≡ normal_link next (suc lost)
      → answer ≡ going
      → after ≡ in_phase c frame below (marking role noted page next)
      → LoadNextStep n c frame below role noted page answer after
  sees_other : (lost : ℕ)
      → MayContinue role noted c.opened
      → lost + n ≡ noted
      → ((next : ℕ) → link_into n c.links (suc lost) ≢ normal_link next (suc lost))
      → answer ≡ going
      → after ≡ in_phase c frame below (after_next role noted page)
      → LoadNextStep n c frame below role noted page answer after

-- A compare and exchange of the next link from NORMAL to HEADER, which succeeds or fails.
pub data MarkHeadStep (n : ℕ) (c : Core) (frame : Frame) (below : List Frame)
    (role : Role) (noted page next : ℕ) (answer : Answer) (after : Core)
    : Type 0 where
  mark_late :
      role ≡ helper
      → BeginsAgain c frame below noted answer after
      → MarkHeadStep n c frame below role noted page next answer after
  marks : (lost : ℕ)
      → MayContinue role noted c.opened
      → lost + n ≡ noted
      → link_into n c.links (suc lost) ≡ normal_link next (suc lost)
      → answer ≡ going
      → after
      ≡ in_phase (with_link n c (suc lost) (header_link next (suc lost))) frame below (after_next role noted page)
      → MarkHeadStep n c frame below role noted page next answer after
  mark_fails : (lost : ℕ)
      → MayContinue role noted c.opened
      → lost + n ≡ noted
      → link_into n c.links (suc lost) ≢ normal_link next (suc lost)
      → answer ≡ going
      → after ≡ in_phase c frame below (after_next role noted page)
      → MarkHeadStep n c frame below role noted page next answer after

-- A compare and exchange of the link from UPDATE to NORMAL by the frame that owns it.
pub data ClearUpdateStep (n : ℕ) (c : Core) (frame : Frame) (below : List Frame)
    (noted page : ℕ) (answer : Answer) (after : Core)
    : Type 0 where
  clears : (lost : ℕ)
      → lost + n ≡ noted
      → link_into n c.links noted ≡ update_link page lost
      → answer ≡ going
      → after ≡ in_phase (with_link n c noted (normal_link page noted)) frame below (opening noted page)
      → ClearUpdateStep n c frame below noted page answer after

-- A store of the number of begun fills.
pub data OpenFillStep (n : ℕ) (c : Core) (frame : Frame) (below : List Frame)
    (noted page : ℕ) (answer : Answer) (after : Core)
    : Type 0 where
  open_late :
      BeginsAgain c frame below noted answer after
      → OpenFillStep n c frame below noted page answer after
  opens :
      noted ≡ c.opened
      → answer ≡ begin_answer frame.kind frame.state below
      → after ≡ after_begin frame.kind frame.state (with_new_tail c page) frame below
      → OpenFillStep n c frame below noted page answer after

-- A store of the number of closed fills; with the last one that is left to close, the frame looks for a wish.
pub data ReleaseFillStep (c : Core) (frame : Frame) (below : List Frame) (answer : Answer) (after : Core)
    : Type 0 where
  releases :
      below ≡ []
      → c.done + 2 < c.opened
      → answer ≡ going
      → after ≡ with_released c
      → ReleaseFillStep c frame below answer after
  releases_last :
      below ≡ []
      → c.done + 2 ≡ c.opened
      → answer ≡ going
      → after ≡ in_phase (with_released c) frame below wishing
      → ReleaseFillStep c frame below answer after

-- A load of the reader's wish: the frame closes the tail for it; or it closes what was begun meanwhile, or is gone.
pub data LoadWishStep (n : ℕ) (c : Core) (frame : Frame) (below : List Frame) (answer : Answer) (after : Core)
    : Type 0 where
  grants :
      below ≡ []
      → IsGranted n c
      → answer ≡ going
      → after ≡ in_phase (with_history_event c wished) frame below (looking c.opened)
      → LoadWishStep n c frame below answer after
  closes_more :
      below ≡ []
      → (IsGranted n c → ⊥)
      → c.done + 1 < c.opened
      → answer ≡ going
      → after ≡ in_phase c frame below releasing
      → LoadWishStep n c frame below answer after
  goes_away :
      below ≡ []
      → (IsGranted n c → ⊥)
      → c.done + 1 ≡ c.opened
      → answer ≡ gone
      → after ≡ record c { frames = [] }
      → LoadWishStep n c frame below answer after

-- the step of a frame on top that has noted nothing
abbrev pub IdleStep : ℕ → ℕ → Core → Frame → List Frame → Progress → Answer → Core → Type 0
IdleStep n size c frame below waiting answer after = ReserveStep n size c frame below answer after
IdleStep n size c frame below (reserved number) answer after = (answer ≡ reserved_as number) × (after ≡ c)
IdleStep n size c frame below left answer after = ⊥

-- the step of the frame on top, in its phase
abbrev pub FrameStep : ℕ → ℕ → Core → Frame → List Frame → Phase → Answer → Core → Type 0
FrameStep n size c frame below idle answer after = IdleStep n size c frame below frame.state answer after
FrameStep n size c frame below (looking noted) answer after = LoadLinkStep n c frame below noted answer after
FrameStep n size c frame below (claiming noted page) answer after =
    ClaimHeadStep n c frame below noted page answer after
FrameStep n size c frame below (looking_next role noted page) answer after =
    LoadNextStep n c frame below role noted page answer after
FrameStep n size c frame below (marking role noted page next) answer after =
    MarkHeadStep n c frame below role noted page next answer after
FrameStep n size c frame below (clearing noted page) answer after =
    ClearUpdateStep n c frame below noted page answer after
FrameStep n size c frame below (opening noted page) answer after = OpenFillStep n c frame below noted page answer after
FrameStep n size c frame below releasing answer after = ReleaseFillStep c frame below answer after
FrameStep n size c frame below wishing answer after = LoadWishStep n c frame below answer after

-- what follows from each kind of step of a frame follows from its step in each phase
module _ (n size : ℕ) (c : Core) (frame : Frame) (below : List Frame) (answer : Answer) (after : Core)
    (P : Phase → Type 0)
    (at_idle : IdleStep n size c frame below frame.state answer after → P idle)
    (at_looking : (noted : ℕ) → LoadLinkStep n c frame below noted answer after → P (looking noted))
    (at_claiming : (noted page : ℕ) → ClaimHeadStep n c frame below noted page answer after → P (claiming noted page))
    (at_looking_next : (role : Role) (noted page : ℕ) → LoadNextStep n c frame below role noted page answer after
    → P (looking_next role noted page))
    (at_marking : (role : Role) (noted page next : ℕ) → MarkHeadStep n c frame below role noted page next answer after
    → P (marking role noted page next))
    (at_clearing : (noted page : ℕ) → ClearUpdateStep n c frame below noted page answer after → P (clearing noted page))
    (at_opening : (noted page : ℕ) → OpenFillStep n c frame below noted page answer after → P (opening noted page))
    (at_releasing : ReleaseFillStep c frame below answer after → P releasing)
    (at_wishing : LoadWishStep n c frame below answer after → P wishing) where
  pub by_phase : (phase : Phase) → FrameStep n size c frame below phase answer after → P phase
  by_phase idle step = at_idle step
  by_phase (looking noted) step = at_looking noted step
  by_phase (claiming noted page) step = at_claiming noted page step
  by_phase (looking_next role noted page) step = at_looking_next role noted page step
  by_phase (marking role noted page next) step = at_marking role noted page next step
  by_phase (clearing noted page) step = at_clearing noted page step
  by_phase (opening noted page) step = at_opening noted page step
  by_phase releasing step = at_releasing step
  by_phase wishing step = at_wishing step

-- ---- the steps of the reader, phase by phase

-- A load of the link into the position of the hint.
pub data LoadHeadStep (n : ℕ) (c : Core) (answer : Answer) (after : Core) : Type 0 where
  loads_header : (page fill : ℕ)
      → link_into n c.links c.reader.hint ≡ header_link page fill
      → answer ≡ reading
      → after ≡ reader_at c (loading_done page fill) fill
      → LoadHeadStep n c answer after
  loads_update : (page lost : ℕ)
      → link_into n c.links c.reader.hint ≡ update_link page lost
      → answer ≡ moving (suc lost)
      → after ≡ reader_at c loading_head (suc lost)
      → LoadHeadStep n c answer after
  loads_owed : (page : ℕ)
      → link_into n c.links c.reader.hint ≡ normal_link page c.reader.hint
      → answer ≡ moving c.reader.hint
      → after ≡ reader_at c loading_head c.reader.hint
      → LoadHeadStep n c answer after
  loads_passed : (page fill least : ℕ)
      → link_into n c.links c.reader.hint ≡ normal_link page fill
      → c.reader.hint < fill
      → least + n ≡ suc fill
      → answer ≡ reading
      → after ≡ reader_at c loading_head least
      → LoadHeadStep n c answer after

-- A load of the number of closed fills.
pub data LoadDoneStep (c : Core) (page fill : ℕ) (answer : Answer) (after : Core) : Type 0 where
  finds_none :
      c.done ≤ fill
      → answer ≡ empty c.done
      → after ≡ reader_saw c loading_head
      → LoadDoneStep c page fill answer after
  finds_closed :
      fill < c.done
      → answer ≡ reading
      → after ≡ reader_saw c (storing_spare_link page fill)
      → LoadDoneStep c page fill answer after

-- A store of the spare's link.
pub record StoreSpareLinkStep (n : ℕ) (c : Core) (page fill : ℕ) (answer : Answer) (after : Core) : Type 0 where
  pub answer_is : answer ≡ reading
  pub after_is : after
      ≡ record (reader_at c (swapping page fill) c.reader.hint) { spare_link = next_header n c fill }

-- A compare and exchange of the link to the head from HEADER to NORMAL: the swap, which succeeds or fails.
pub data SwapHeadStep (n : ℕ) (c : Core) (page fill : ℕ) (answer : Answer) (after : Core) : Type 0 where
  swaps :
      link_into n c.links fill ≡ header_link page fill
      → answer ≡ page_taken (taken_fill c page fill)
      → after ≡ after_swap n c page fill
      → SwapHeadStep n c page fill answer after
  swap_fails :
      link_into n c.links fill ≢ header_link page fill
      → answer ≡ reading
      → after ≡ reader_at c loading_head (suc fill)
      → SwapHeadStep n c page fill answer after

-- the step of the reader, in its phase
abbrev pub ReadStep : ℕ → Core → ReaderPhase → Answer → Core → Type 0
ReadStep n c loading_head answer after = LoadHeadStep n c answer after
ReadStep n c (loading_done page fill) answer after = LoadDoneStep c page fill answer after
ReadStep n c (storing_spare_link page fill) answer after = StoreSpareLinkStep n c page fill answer after
ReadStep n c (swapping page fill) answer after = SwapHeadStep n c page fill answer after

-- ---- the whole

-- there is room for one more frame
abbrev pub HasRoom : Core → Type 0
HasRoom c = length c.frames < MAX_FRAMES

-- why a record frame isn't pushed, the first of these that holds
pub data PushRefused (size : ℕ) (c : Core) (moment len : ℕ) : WriteFault → Type 0 where
  all_stand :
      MAX_FRAMES ≤ length c.frames
      → PushRefused size c moment len too_deep
  has_no_room :
      HasRoom c
      → IsTooLong size len
      → PushRefused size c moment len too_long
  comes_late :
      HasRoom c
      → (IsTooLong size len → ⊥)
      → MOMENT_LIMIT ≤ moment
      → PushRefused size c moment len late_moment

-- The step of an event, with its answer and the state after it, case by case.
pub data StepCases (n size : ℕ) (c : Core) (event : Event) (answer : Answer) (after : Core) : Type 0 where
  push_step : (moment len : ℕ)
      → event ≡ pushes moment len
      → HasRoom c
      → (IsTooLong size len → ⊥)
      → moment < MOMENT_LIMIT
      → answer ≡ pushed
      → after ≡ with_history_event (with_frame c (for_record moment len)) (push moment len)
      → StepCases n size c event answer after
  push_refused : (moment len : ℕ) (why : WriteFault)
      → event ≡ pushes moment len
      → PushRefused size c moment len why
      → answer ≡ refused why
      → after ≡ c
      → StepCases n size c event answer after
  close_step :
      event ≡ pushes_close
      → HasRoom c
      → answer ≡ pushed
      → after ≡ with_history_event (with_frame c for_close) push_close
      → StepCases n size c event answer after
  close_refused :
      event ≡ pushes_close
      → MAX_FRAMES ≤ length c.frames
      → answer ≡ refused too_deep
      → after ≡ c
      → StepCases n size c event answer after
  frame_step : (frame : Frame) (below : List Frame)
      → event ≡ steps
      → c.frames ≡ frame ∷ below
      → FrameStep n size c frame below frame.phase answer after
      → StepCases n size c event answer after
  frame_lacks :
      event ≡ steps
      → c.frames ≡ []
      → answer ≡ refused no_frame
      → after ≡ c
      → StepCases n size c event answer after
  end_step : (payload : List ℕ) (frame : Frame) (below : List Frame) (number moment len : ℕ)
      → event ≡ ends payload
      → c.frames ≡ frame ∷ below
      → frame.state ≡ reserved number
      → frame.kind ≡ for_record moment len
      → slot_len (length payload) ≡ slot_len len
      → answer ≡ end_answer below
      → after ≡ after_leave c frame below (Some payload)
      → StepCases n size c event answer after
  end_lacks : (payload : List ℕ)
      → event ≡ ends payload
      → c.frames ≡ []
      → answer ≡ refused no_frame
      → after ≡ c
      → StepCases n size c event answer after
  end_early : (payload : List ℕ) (frame : Frame) (below : List Frame)
      → event ≡ ends payload
      → c.frames ≡ frame ∷ below
      → number_of frame.state ≡ None
      → answer ≡ refused not_reserved
      → after ≡ c
      → StepCases n size c event answer after
  read_step :
      event ≡ reads
      → ReadStep n c c.reader.phase answer after
      → StepCases n size c event answer after
  store_wish_step :
      event ≡ wishes
      → answer ≡ wished_for c.reader.seen
      → after ≡ with_wish c
      → StepCases n size c event answer after
