-- The laws of the reader's wish, as statements: each is a clause of a function of src/laws/wishes.rt.
use Rattle.std.specs.Prelude.{◌≡◌, ◌≢◌, ℕ, ◌+◌, ◌<◌, ◌≤◌, ◌⊎◌, List, [], ◌∷◌, length}
use Rattle.trace_model.specs.declared.limits.TheConstants.{LINK_FILLS}
use Rattle.trace_model.specs.Packing.{tail_of, first_of_fill}
use Rattle.trace_model.specs.Frames.{reserved, wishing, Frame}
use Rattle.trace_model.specs.Ring.{Core}
use Rattle.trace_model.specs.Steps.{Event, ends, wishes, Answer, gone, full, empty, wished_for, IsGranted, Step}
use Rattle.trace_model.specs.Steps.{Exchange, Run}
use Rattle.ring_model.specs.RingKept.{IsRingKept}
use Rattle.ring_model.specs.WindowLaws.{HeadIsLost}

-- the reader wishes for the fill after those that it has seen closed, which is begun and no later than the first
-- that isn't closed; and all else stays
abbrev pub WishesAreHeld : Type 0
WishesAreHeld = (n size start : ℕ) (c : Core) (answer : Answer) (after : Core)
    → IsRingKept n size start c
    → Step n size c wishes answer after
    → (answer ≡ wished_for c.reader.seen)
    × (after ≡ record c { wish = c.reader.seen + 1 })
    × (c.reader.seen ≤ c.done)

-- the last frame leaves the stack by its look for a wish alone; and where the reader's wish is for the tail, that
-- holds no record or is the last fill
abbrev pub GoneHasLooked : Type 0
GoneHasLooked = (n size : ℕ) (c : Core) (event : Event) (answer : Answer) (after : Core)
    (frame : Frame) (below : List Frame)
    → c.frames ≡ frame ∷ below
    → Step n size c event answer after
    → after.frames ≡ []
    → (below ≡ [])
    × (frame.phase ≡ wishing)
    × (answer ≡ gone)
    × (c.wish ≡ c.done + 1 → (tail_of c.history ≡ []) ⊎ (LINK_FILLS ≤ c.opened + n))

-- So a wish for the first fill that isn't closed is answered by the next outermost end that finds a record in the
-- tail, the last fill aside: if the last frame is gone and the fill isn't closed yet, there was none, or it is that.
abbrev pub WishesAreAnswered : Type 0
WishesAreAnswered = (n size start : ℕ) (c before : Core) (exchanges : List Exchange)
    (event : Event) (answer : Answer) (after : Core)
    → IsRingKept n size start c
    → c.wish ≡ c.done + 1
    → Run n size c exchanges before
    → Step n size before event answer after
    → before.frames ≢ []
    → after.frames ≡ []
    → (c.done < before.done) ⊎ ((tail_of before.history ≡ []) ⊎ (LINK_FILLS ≤ before.opened + n))

-- and if the tail holds a record while a frame is on the stack, the fill is closed when the stack is empty again
abbrev pub WishedTailsAreClosed : Type 0
WishedTailsAreClosed = (n size start : ℕ) (c after : Core) (exchanges : List Exchange)
    → IsRingKept n size start c
    → c.frames ≢ []
    → c.wish ≡ c.done + 1
    → tail_of c.history ≢ []
    → c.opened + n < LINK_FILLS
    → Run n size c exchanges after
    → after.frames ≡ []
    → c.done < after.done

-- And the end's own record is on that page if the frame has no fill to close before: it is in the tail, which
-- is the first fill that isn't closed.
abbrev pub EndsOnTheWishedPage : Type 0
EndsOnTheWishedPage = (n size start : ℕ) (c : Core) (payload : List ℕ) (after : Core) (frame : Frame) (number : ℕ)
    → IsRingKept n size start c
    → c.frames ≡ frame ∷ []
    → frame.state ≡ reserved number
    → c.done + 1 ≡ c.opened
    → Step n size c (ends payload) full after
    → (first_of_fill c.history start c.done ≤ number)
    × (number < first_of_fill c.history start c.done + length (tail_of c.history))

-- A wish right after an answer that nothing closed is unread loses no fill: it is for the fill after those that
-- were closed there; if a frame grants it, no fill is lost until the next one is begun, as the ring isn't
-- full.
abbrev pub WishBehindEmptyLosesNone : Type 0
WishBehindEmptyLosesNone = (n size start : ℕ) (c empty_at granted_at between : Core) (done : ℕ)
    (event last_event : Event) (exchanges more : List Exchange) (last_answer : Answer) (after : Core)
    → IsRingKept n size start c
    → Step n size c event (empty done) empty_at
    → Run n size empty_at exchanges granted_at
    → granted_at.wish ≡ done + 1
    → IsGranted n granted_at
    → Run n size granted_at more between
    → between.opened ≡ granted_at.opened
    → Step n size between last_event last_answer after
    → HeadIsLost n between after
    → ⊥
