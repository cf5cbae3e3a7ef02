-- How far the frame on top of a running ring is from being gone, by what its writer knows: its own part of the ring,
-- and below which fill all are passed. Each of its steps before it has reserved, or after it has left,
-- lowers this number, whatever a reader does in between.
-- docs/formats/ring.md, "Writer frames".
use Rattle.std.specs.Prelude.{◌≡◌, ◌≢◌, ℕ, ⊤, ◌+◌, ◌-◌, ◌*◌, ◌<◌, ◌≤◌, nat_lt, if◌then◌else◌, List, [], ◌∷◌, length}
use Rattle.std.specs.Prelude.{None}
use Rattle.trace_model.specs.History.{HistoryEvent, Reservation}
use Rattle.trace_model.specs.Packing.{tail_of}
use Rattle.trace_model.specs.Links.{header_link}
use Rattle.trace_model.specs.Frames.{Progress, waiting, reserved, left, number_of, Phase, idle, looking, claiming}
use Rattle.trace_model.specs.Frames.{looking_next, marking, clearing, opening, releasing, wishing, Frame}
use Rattle.trace_model.specs.Ring.{link_into, Core}
use Rattle.trace_model.specs.Steps.{Event, pushes, pushes_close, steps, ends, reads, wishes, Answer, Step, Exchange}
use Rattle.ring_model.specs.Ranks.{state_rank, late_rank, frame_limit}
use Rattle.ring_model.specs.Reached.{IsReached}
use Rattle.ring_model.specs.RingKept.{IsRingKept}

-- It may have to look twice, unless the fill that is lost for the one to open is known to be passed.
abbrev pub look_rank : (n passed noted : ℕ) → ℕ
look_rank n passed noted = if nat_lt noted (passed + n) then 10 else 12

-- a page is needed only after records
abbrev pub need_rank : List Reservation → ℕ
need_rank [] = 16
need_rank (r ∷ records) = 34

-- a wish is granted only after records
abbrev pub grant_rank : List Reservation → ℕ
grant_rank [] = 0
grant_rank (r ∷ records) = 12

abbrev pub fresh_rank : List HistoryEvent → Progress → ℕ
fresh_rank history waiting = need_rank (tail_of history)
fresh_rank history (reserved number) = 15
fresh_rank history left = 0

-- how far a frame in this state and phase is from closing its last fill, but for the fills that are begun
abbrev pub own_rank : (n passed opened : ℕ) → List HistoryEvent → Progress → Phase → ℕ
own_rank n passed opened history state idle = fresh_rank history state
own_rank n passed opened history state (looking noted) =
    state_rank state + late_rank noted opened + look_rank n passed noted
own_rank n passed opened history state (claiming noted page) = state_rank state + late_rank noted opened + 11
own_rank n passed opened history state (looking_next role noted page) = state_rank state + late_rank noted opened + 8
own_rank n passed opened history state (marking role noted page next) = state_rank state + late_rank noted opened + 7
own_rank n passed opened history state (clearing noted page) = state_rank state + late_rank noted opened + 6
own_rank n passed opened history state (opening noted page) = state_rank state + late_rank noted opened + 5
own_rank n passed opened history state releasing = grant_rank (tail_of history)
own_rank n passed opened history state wishing = grant_rank (tail_of history) + 1

-- of the frame on top, with the fills that are begun and not closed
abbrev pub writer_rank : (n passed done opened : ℕ) → List HistoryEvent → List Frame → ℕ
writer_rank n passed done opened history [] = 0
writer_rank n passed done opened history (frame ∷ below) =
    3 * (opened - done) + own_rank n passed opened history frame.state frame.phase

abbrev pub rank_in : (n passed : ℕ) → Core → ℕ
rank_in n passed c = writer_rank n passed c.done c.opened c.history c.frames

-- The frame on top, which hasn't reserved, makes a step and stays on the stack: it is nearer to its end. All fills
-- below the first number were known to be passed before it looked, and all below the second one after its step; a claim
-- makes that of the fill that is lost.
abbrev pub WriterStepsComeToAnEnd : Type 0
WriterStepsComeToAnEnd = (n size start : ℕ) (c : Core) (frame : Frame) (below : List Frame) (answer : Answer)
    (after : Core) (passed knows : ℕ)
    → IsRingKept n size start c
    → c.frames ≡ frame ∷ below
    → number_of frame.state ≡ None
    → Step n size c steps answer after
    → length after.frames ≡ length c.frames
    → passed ≤ knows
    → ((noted : ℕ) → frame.phase ≡ looking noted → noted ≡ c.opened → passed ≤ c.head)
    → ((noted page : ℕ) → frame.phase ≡ claiming noted page → noted ≡ c.opened → noted < knows + n)
    → rank_in n knows after < rank_in n passed c

-- So it is where its record is ended.
abbrev pub WriterEndsComeToAnEnd : Type 0
WriterEndsComeToAnEnd = (n size start : ℕ) (c : Core) (frame : Frame) (below : List Frame) (number : ℕ)
    (payload : List ℕ) (answer : Answer) (after : Core) (passed knows : ℕ)
    → IsRingKept n size start c
    → c.frames ≡ frame ∷ below
    → frame.state ≡ reserved number
    → Step n size c (ends payload) answer after
    → length after.frames ≡ length c.frames
    → rank_in n knows after < rank_in n passed c

abbrev pub WritersAreNearTheirEnd : Type 0
WritersAreNearTheirEnd = (n size start passed : ℕ) (c : Core)
    → IsRingKept n size start c
    → rank_in n passed c ≤ frame_limit n

-- A frame that is about to claim the head has seen its HEADER: if it is there no more, the head was moved on.
abbrev pub ClaimsFailOnceTheHeadMoved : Type 0
ClaimsFailOnceTheHeadMoved = (n size start : ℕ) (c : Core) (frame : Frame) (below : List Frame) (noted page lost : ℕ)
    → IsReached n size start c
    → c.frames ≡ frame ∷ below
    → frame.phase ≡ claiming noted page
    → noted ≡ c.opened
    → lost + n ≡ noted
    → link_into n c.links noted ≢ header_link page lost
    → lost < c.head

-- ---- how many steps a frame makes in a run

-- what may come next: a step of the frame on top, which hasn't reserved; its end, if it has; or an event of the reader
abbrev pub MayComeNext : Core → Event → Type 0
MayComeNext c (pushes moment len) = ⊥
MayComeNext c pushes_close = ⊥
MayComeNext c steps =
    (frame : Frame) × (below : List Frame) × (c.frames ≡ frame ∷ below) × (number_of frame.state ≡ None)
MayComeNext c (ends payload) =
    (frame : Frame) × (below : List Frame) × (number : ℕ) × (c.frames ≡ frame ∷ below) × (frame.state ≡ reserved number)
MayComeNext c reads = ⊤
MayComeNext c wishes = ⊤

-- A run in which one frame makes steps, its record's end among them, and stays on the stack, and the reader does
-- whatever it does in between.
abbrev pub FrameRunsOn : (n size : ℕ) → Core → List Exchange → Core → Type 0
FrameRunsOn n size before [] after = before ≡ after
FrameRunsOn n size before (x ∷ exchanges) after =
    MayComeNext before x.event
    × (between : Core)
    × Step n size before x.event x.answer between
    × (length between.frames ≡ length before.frames)
    × FrameRunsOn n size between exchanges after

-- how many of them are the frame's
abbrev pub own_step : Event → ℕ
own_step (pushes moment len) = 0
own_step pushes_close = 0
own_step steps = 1
own_step (ends payload) = 1
own_step reads = 0
own_step wishes = 0

abbrev pub own_steps : List Exchange → ℕ
own_steps [] = 0
own_steps (x ∷ exchanges) = own_step x.event + own_steps exchanges

-- Whatever the reader does in between, they are at most 3N + 52.
abbrev pub FramesMakeFewSteps : Type 0
FramesMakeFewSteps = (n size start : ℕ) (c : Core) (exchanges : List Exchange) (after : Core)
    → IsReached n size start c
    → FrameRunsOn n size c exchanges after
    → own_steps exchanges ≤ frame_limit n
