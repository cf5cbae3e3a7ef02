-- The laws of a ring's states and steps, as statements: each is a clause of a function of src/laws/rings.rt.
use Rattle.std.specs.Prelude.{◌≡◌, ℕ, ◌+◌, ◌≤◌, List, [], ◌∷◌, length, map, Some, slice_get}
use Rattle.trace_model.specs.declared.limits.TheConstants.{MAX_FRAMES}
use Rattle.trace_model.specs.Words.{slot_len}
use Rattle.trace_model.specs.Window.{first_window}
use Rattle.trace_model.specs.Frames.{for_record, reserved, left, releasing, wishing, Frame}
use Rattle.trace_model.specs.Ring.{Core, IsStart, IsRing, window_of}
use Rattle.trace_model.specs.Steps.{Event, pushes, pushes_close, steps, ends, reads, wishes, Answer, Step, Exchange}
use Rattle.trace_model.specs.Steps.{Run}
use Rattle.ring_model.specs.Reached.{MayStart, IsReached}
use Rattle.ring_model.specs.RingKept.{IsRingKept}

-- ---- the invariant

-- a new ring has what every step keeps
abbrev pub StartIsKept : Type 0
StartIsKept = (n size start : ℕ) (c : Core) → MayStart n start → IsStart n start c → IsRingKept n size start c

-- its window is the first one
abbrev pub StartHasWindow : Type 0
StartHasWindow = (n start : ℕ) (c : Core) → IsStart n start c → window_of c ≡ first_window start

-- every step keeps it, whatever frames are on the stack and whatever UPDATEs they own
abbrev pub StepsKeepRing : Type 0
StepsKeepRing = (n size start : ℕ) (c : Core) (event : Event) (answer : Answer) (after : Core)
    → IsRingKept n size start c
    → Step n size c event answer after
    → IsRingKept n size start after

-- where it holds, the state is a ring
abbrev pub KeptIsRing : Type 0
KeptIsRing = (n size start : ℕ) (c : Core) → IsRingKept n size start c → IsRing n start c

-- so it holds of every state that steps reach, and each of these is a ring
abbrev pub ReachedIsKept : Type 0
ReachedIsKept = (n size start : ℕ) (c : Core) → IsReached n size start c → IsRingKept n size start c

abbrev pub ReachedIsRing : Type 0
ReachedIsRing = (n size start : ℕ) (c : Core) → IsReached n size start c → IsRing n start c

-- ---- the stack of frames

-- at most MAX_FRAMES frames are on the stack
abbrev pub FewFramesStand : Type 0
FewFramesStand = (n size start : ℕ) (c : Core) → IsRingKept n size start c → length c.frames ≤ MAX_FRAMES

-- a frame that has left, which alone closes fills and looks for a wish, is at the bottom
abbrev pub OnlyTheBottomHasLeft : Type 0
OnlyTheBottomHasLeft = (n size start : ℕ) (c : Core) (k : ℕ) (frame : Frame)
    → IsRingKept n size start c
    → slice_get c.frames k ≡ Some frame
    → (frame.state ≡ left → k + 1 ≡ length c.frames)
    × (frame.phase ≡ releasing → frame.state ≡ left)
    × (frame.phase ≡ wishing → frame.state ≡ left)

-- and if the stack is empty, all fills that are begun are closed but the tail
abbrev pub AllIsClosedAtRest : Type 0
AllIsClosedAtRest = (n size start : ℕ) (c : Core)
    → IsRingKept n size start c
    → c.frames ≡ []
    → c.done + 1 ≡ c.opened

-- ---- one start, and one step for each event

-- there is a new ring of each number of positions, whatever the number of its first fill, and only one
abbrev pub NewRingIsOne : Type 0
NewRingIsOne = (n start : ℕ)
    → 1 ≤ n
    → (c : Core) × IsStart n start c × ((other : Core) → IsStart n start other → other ≡ c)

-- the payload that ends a frame which has reserved takes exactly the slot that it was given; nothing is asked of
-- any other event
abbrev pub MayAsk : Core → Event → Type 0
MayAsk c (pushes moment len) = Unit {0}
MayAsk c pushes_close = Unit {0}
MayAsk c steps = Unit {0}
MayAsk c (ends payload) = (frame : Frame) (below : List Frame) (number moment len : ℕ)
    → c.frames ≡ frame ∷ below
    → frame.state ≡ reserved number
    → frame.kind ≡ for_record moment len
    → slot_len (length payload) ≡ slot_len len
MayAsk c reads = Unit {0}
MayAsk c wishes = Unit {0}

-- each event is a step: it has an answer and a state after it
abbrev pub EachEventIsAStep : Type 0
EachEventIsAStep = (n size start : ℕ) (c : Core) (event : Event)
    → IsRingKept n size start c
    → MayAsk c event
    → (answer : Answer) × (after : Core) × Step n size c event answer after

-- and only one: the event determines its answer and the state after it, whatever the state
abbrev pub StepsAreDetermined : Type 0
StepsAreDetermined = (n size : ℕ) (c : Core) (event : Event) (answer answer' : Answer) (after after' : Core)
    → Step n size c event answer after
    → Step n size c event answer' after'
    → (answer ≡ answer') × (after ≡ after')

abbrev pub events_of : List Exchange → List Event
events_of exchanges = map (λ x. x.event) exchanges

-- so the same events from the same state have the same answers, and lead to the same state
abbrev pub RunsAreDetermined : Type 0
RunsAreDetermined = (n size : ℕ) (c after after' : Core) (exchanges others : List Exchange)
    → events_of exchanges ≡ events_of others
    → Run n size c exchanges after
    → Run n size c others after'
    → (exchanges ≡ others) × (after ≡ after')
