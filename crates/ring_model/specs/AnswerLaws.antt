-- The laws of a ring's answers, as statements: each is a clause of a function of src/laws/answers.rt.
use Rattle.std.specs.Prelude.{◌≡◌, ℕ, ◌+◌, ◌<◌, ◌≤◌, ◌⊎◌, List, [], ◌∷◌, ◌++◌}
use Rattle.trace_model.specs.declared.limits.TheConstants.{LINK_FILLS}
use Rattle.trace_model.specs.Frames.{waiting, idle, Frame, crowded, worn}
use Rattle.trace_model.specs.Links.{update_link}
use Rattle.trace_model.specs.Ring.{link_into, page_at, TakenFill, Core, window_of, IsMoved, IsTaken}
use Rattle.trace_model.specs.Window.{IsCrowded}
use Rattle.trace_model.specs.Steps.{Event, steps, Answer, NeedsPage, refused, empty, moving, page_taken, Step}
use Rattle.ring_model.specs.RingKept.{IsRingKept}

-- each fill from the first on, below this one, was taken, or is lost: the head is after it, and a whole round of fills
-- is begun from it on
abbrev pub ArePassed : ℕ → ℕ → Core → ℕ → Type 0
ArePassed n start c f = (g : ℕ)
    → start ≤ g
    → g < f
    → IsTaken c g ⊎ ((g < c.head) × (g + n ≤ c.opened))

-- The frame on top is about to reserve, and needs a page: its record doesn't fit in the tail page, or it closes
-- one that holds a record.
pub record IsInNeed (n size : ℕ) (c : Core) : Type 0 where
  pub top : Frame
  pub below : List Frame
  pub is_top : c.frames ≡ top ∷ below
  pub waits : top.state ≡ waiting
  pub about : top.phase ≡ idle
  pub needs : NeedsPage size c top.kind

-- a frame in need is refused as crowded if all pages have fills that aren't closed; else as worn if the tail is the
-- last fill that may be begun: the one a round after the next has no number
abbrev pub RefusalsAreDue : Type 0
RefusalsAreDue = (n size : ℕ) (c : Core) (answer : Answer) (after : Core)
    → Step n size c steps answer after
    → IsInNeed n size c
    → (IsCrowded n (window_of c) → answer ≡ refused crowded)
    × ((IsCrowded n (window_of c) → ⊥) → LINK_FILLS ≤ c.opened + n → answer ≡ refused worn)

-- a frame is refused as crowded only if all pages have fills that aren't closed
abbrev pub CrowdedIsRight : Type 0
CrowdedIsRight = (n size : ℕ) (c : Core) (event : Event) (after : Core)
    → Step n size c event (refused crowded) after
    → IsCrowded n (window_of c)

-- a frame is refused as worn only if not all pages have such fills, and the tail is the last fill that may be begun
abbrev pub WornIsRight : Type 0
WornIsRight = (n size start : ℕ) (c : Core) (event : Event) (after : Core)
    → IsRingKept n size start c
    → Step n size c event (refused worn) after
    → (c.opened + n ≡ LINK_FILLS) × (IsCrowded n (window_of c) → ⊥)

-- the reader finds nothing only where the head is the first fill that isn't closed; and then it takes nothing, and has
-- seen that
abbrev pub EmptyIsRight : Type 0
EmptyIsRight = (n size start : ℕ) (c : Core) (event : Event) (done : ℕ) (after : Core)
    → IsRingKept n size start c
    → Step n size c event (empty done) after
    → (c.head ≡ done)
    × (c.done ≡ done)
    × ArePassed n start c done
    × (after.reader.taken ≡ c.reader.taken)
    × (after.reader.seen ≡ done)
    × (after.head ≡ done)

-- A move of the head is in the reader's way: all fills below this one are passed, which is at least
-- the reader's hint; and the UPDATE of exactly one frame is set.
pub record IsInTheWay (n start : ℕ) (c : Core) (fill : ℕ) : Type 0 where
  pub passed : ArePassed n start c fill
  pub fill_le : fill ≤ c.head
  pub hint_le : c.reader.hint ≤ fill
  pub lost : ℕ
  pub lost_lt : lost < c.head
  pub stands : link_into n c.links (lost + n) ≡ update_link (page_at n c.order (lost + n)) lost
  pub owner : IsMoved c.frames (lost + n)

abbrev pub MovingIsRight : Type 0
MovingIsRight = (n size start : ℕ) (c : Core) (event : Event) (fill : ℕ) (after : Core)
    → IsRingKept n size start c
    → Step n size c event (moving fill) after
    → IsInTheWay n start c fill × (after.reader.taken ≡ c.reader.taken)

-- what is taken is the head, and that is closed; and it is what is then held as taken last
abbrev pub PageTakenIsRight : Type 0
PageTakenIsRight = (n size start : ℕ) (c : Core) (event : Event) (t : TakenFill) (after : Core)
    → IsRingKept n size start c
    → Step n size c event (page_taken t) after
    → (t.fill ≡ c.head)
    × (c.head < c.done)
    × (after.head ≡ c.head + 1)
    × (after.reader.taken ≡ c.reader.taken ++ t ∷ [])
