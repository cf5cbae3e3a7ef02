-- How far the frame on top is from being gone, and a take from its answer: numbers that are lower after each step of a
-- take that isn't answered yet, and after each step of a frame that hasn't reserved, and each end, if the frame is
-- still on the stack. So both have an end. docs/formats/ring.md, "Writer frames" and "The reader".
use Rattle.std.specs.Prelude.{◌≡◌, ℕ, ◌+◌, ◌-◌, ◌*◌, ◌<◌, ◌≤◌, min, None, Bool, true, false, if◌then◌else◌, ◌==◌, List}
use Rattle.std.specs.Prelude.{[], ◌∷◌, length}
use Rattle.trace_model.specs.History.{Reservation}
use Rattle.trace_model.specs.Packing.{tail_of}
use Rattle.trace_model.specs.Links.{Mark, normal, header, update}
use Rattle.trace_model.specs.Frames.{Progress, waiting, reserved, left, number_of, Phase, idle, looking, claiming}
use Rattle.trace_model.specs.Frames.{looking_next, marking, clearing, opening, releasing, wishing, Frame}
use Rattle.trace_model.specs.Ring.{link_into, ReaderPhase, loading_head, loading_done, storing_spare_link, swapping}
use Rattle.trace_model.specs.Ring.{Core}
use Rattle.trace_model.specs.Steps.{steps, ends, reads, Answer, reading, Step}
use Rattle.ring_model.specs.RingKept.{IsRingKept}

-- ---- a frame

-- a frame that hasn't left has a way longer by all that it still does when it has left
abbrev pub state_rank : Progress → ℕ
state_rank waiting = 20
state_rank (reserved number) = 20
state_rank left = 0

-- a frame that noted another number of begun fills begins again
abbrev pub late_rank : (noted opened : ℕ) → ℕ
late_rank noted opened = if noted == opened then 0 else 20

-- a claim succeeds where the link is the HEADER of this page
abbrev pub claim_rank : Mark → Bool → ℕ
claim_rank header true = 9
claim_rank header false = 11
claim_rank normal same = 11
claim_rank update same = 11

-- a record fits in an empty tail
abbrev pub tail_rank : List Reservation → ℕ
tail_rank [] = 16
tail_rank (r ∷ records) = 32

abbrev pub idle_rank : Core → Progress → ℕ
idle_rank c waiting = tail_rank (tail_of c.history)
idle_rank c (reserved number) = 15
idle_rank c left = 0

-- the tail is asked for, perhaps
abbrev pub wish_rank : Core → ℕ
wish_rank c = if c.wish == c.opened then 12 else 0

-- how far a frame in this state and phase is from closing its last fill, but for the fills that are begun
abbrev pub phase_rank : ℕ → Core → Progress → Phase → ℕ
phase_rank n c state idle = idle_rank c state
phase_rank n c state (looking noted) = state_rank state + late_rank noted c.opened + 10
phase_rank n c state (claiming noted page) = state_rank state + late_rank noted c.opened
    + claim_rank (link_into n c.links noted).mark ((link_into n c.links noted).page == page)
phase_rank n c state (looking_next role noted page) = state_rank state + late_rank noted c.opened + 8
phase_rank n c state (marking role noted page next) = state_rank state + late_rank noted c.opened + 7
phase_rank n c state (clearing noted page) = state_rank state + late_rank noted c.opened + 6
phase_rank n c state (opening noted page) = state_rank state + late_rank noted c.opened + 5
phase_rank n c state releasing = wish_rank c
phase_rank n c state wishing = wish_rank c + 1

-- of the frame on top
abbrev pub top_rank : ℕ → Core → List Frame → ℕ
top_rank n c [] = 0
top_rank n c (frame ∷ below) = phase_rank n c frame.state frame.phase

-- of the ring, for its frame on top: with the fills that are begun and not closed
abbrev pub frame_rank : ℕ → Core → ℕ
frame_rank n c = 3 * (c.opened - c.done) + top_rank n c c.frames

-- no more steps than these does a frame make in a ring of n positions, if nothing comes between, and its record is
-- ended once it is reserved
abbrev pub frame_limit : ℕ → ℕ
frame_limit n = 3 * n + 52

-- the frame on top, which hasn't reserved, makes a step and stays on the stack: it is nearer to its end
abbrev pub StepsComeToAnEnd : Type 0
StepsComeToAnEnd = (n size start : ℕ) (c : Core) (frame : Frame) (below : List Frame) (answer : Answer) (after : Core)
    → IsRingKept n size start c
    → c.frames ≡ frame ∷ below
    → number_of frame.state ≡ None
    → Step n size c steps answer after
    → length after.frames ≡ length c.frames
    → frame_rank n after < frame_rank n c

-- so it is where its record is ended
abbrev pub EndsComeToAnEnd : Type 0
EndsComeToAnEnd = (n size start : ℕ) (c : Core) (frame : Frame) (below : List Frame) (number : ℕ) (payload : List ℕ)
    (answer : Answer) (after : Core)
    → IsRingKept n size start c
    → c.frames ≡ frame ∷ below
    → frame.state ≡ reserved number
    → Step n size c (ends payload) answer after
    → length after.frames ≡ length c.frames
    → frame_rank n after < frame_rank n c

abbrev pub FramesAreNearTheirEnd : Type 0
FramesAreNearTheirEnd = (n size start : ℕ) (c : Core) → IsRingKept n size start c → frame_rank n c ≤ frame_limit n

-- ---- the reader

-- how many fills the reader is from the head, as far as one load of a link shows
abbrev pub distance : ℕ → Core → ℕ
distance most c = min (c.head + 1 - c.reader.hint) most

abbrev pub reader_phase_rank : ℕ → Core → ReaderPhase → ℕ
reader_phase_rank n c loading_head = 4 * distance (n + 2) c + 3
reader_phase_rank n c (loading_done page fill) = 4 * distance (n + 3) c + 2
reader_phase_rank n c (storing_spare_link page fill) = 4 * distance (n + 3) c + 1
reader_phase_rank n c (swapping page fill) = 4 * distance (n + 3) c

-- of the ring, for its reader
abbrev pub reader_rank : ℕ → Core → ℕ
reader_rank n c = reader_phase_rank n c c.reader.phase

-- no more steps than these does a take make in a ring of n positions, if nothing comes between
abbrev pub reader_limit : ℕ → ℕ
reader_limit n = 4 * n + 14

-- a take that goes on after a step is nearer to its answer
abbrev pub TakesComeToAnAnswer : Type 0
TakesComeToAnAnswer = (n size start : ℕ) (c : Core) (after : Core)
    → IsRingKept n size start c
    → Step n size c reads reading after
    → reader_rank n after < reader_rank n c

abbrev pub TakesAreNearTheirAnswer : Type 0
TakesAreNearTheirAnswer = (n size start : ℕ) (c : Core)
    → IsRingKept n size start c
    → reader_rank n c ≤ reader_limit n
