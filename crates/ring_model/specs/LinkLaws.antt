-- The laws of a ring's links, as statements: each is a clause of a function of src/laws/links.rt.
use Rattle.std.specs.Prelude.{◌≡◌, ◌≢◌, ℕ, suc, ◌+◌, ◌*◌, ◌%◌, ◌<◌, ◌⊎◌, List, ◌∷◌, Some, All}
use Rattle.trace_model.specs.declared.limits.TheConstants.{LINK_PAGES}
use Rattle.trace_model.specs.Links.{Link, mark_code, normal_link, header_link, update_link, FitsWord}
use Rattle.trace_model.specs.Frames.{Frame, owned_update}
use Rattle.trace_model.specs.Ring.{link_into, page_at, Core}
use Rattle.trace_model.specs.Steps.{Event, steps, reads, Answer, Step, Exchange, Run}
use Rattle.ring_model.specs.RingKept.{IsRingKept}

-- where the spare's number has a place in a word, all links of a ring have words, and so has the spare's
abbrev pub LinksFitWords : Type 0
LinksFitWords = (n size start : ℕ) (c : Core)
    → IsRingKept n size start c
    → n < LINK_PAGES
    → All FitsWord c.links × FitsWord c.spare_link

-- How far a position has come: fill by fill, and within a fill from NORMAL to HEADER to UPDATE.
abbrev pub age_of : Link → ℕ
age_of l = 3 * l.fill + mark_code l.mark

-- a step leaves the link into a position as it was, or makes it one of a greater age
abbrev pub StepsRaiseLinks : Type 0
StepsRaiseLinks = (n size start : ℕ) (c : Core) (event : Event) (answer : Answer) (after : Core) (f : ℕ)
    → IsRingKept n size start c
    → Step n size c event answer after
    → (link_into n after.links f ≡ link_into n c.links f)
    ⊎ (age_of (link_into n c.links f) < age_of (link_into n after.links f))

-- a link that was replaced at its position never comes back: so a compare and exchange that comes late fails
abbrev pub LinksStandOnce : Type 0
LinksStandOnce = (n size start : ℕ) (c between after : Core) (exchanges more : List Exchange) (f : ℕ)
    → IsRingKept n size start c
    → Run n size c exchanges between
    → Run n size between more after
    → link_into n between.links f ≢ link_into n c.links f
    → link_into n after.links f ≢ link_into n c.links f

-- a HEADER states the head, and at most one position has it
abbrev pub OneHeader : Type 0
OneHeader = (n size start : ℕ) (c : Core) (f g page other_page fill other_fill : ℕ)
    → IsRingKept n size start c
    → link_into n c.links f ≡ header_link page fill
    → link_into n c.links g ≡ header_link other_page other_fill
    → (fill ≡ c.head) × (other_fill ≡ fill) × (other_page ≡ page) × (g % n ≡ f % n)

-- there is no HEADER
abbrev pub NoHeader : ℕ → Core → Type 0
NoHeader n c = (g page fill : ℕ) → link_into n c.links g ≢ header_link page fill

-- A HEADER is set for the head, over the NORMAL of the same page and fill: by a frame, if there is none; or
-- by the reader, with whose swap the one of the fill before is gone.
pub record IsHeaderSet (n : ℕ) (c : Core) (event : Event) (after : Core) (f page fill : ℕ) : Type 0 where
  pub waited : link_into n c.links f ≡ normal_link page fill
  pub head_is : fill ≡ after.head
  pub alone : ((event ≡ steps) × (c.head ≡ fill) × NoHeader n c) ⊎ ((event ≡ reads) × (c.head + 1 ≡ fill))

abbrev pub HeadersAreOwed : Type 0
HeadersAreOwed = (n size start : ℕ) (c : Core) (event : Event) (answer : Answer) (after : Core) (f page fill : ℕ)
    → IsRingKept n size start c
    → Step n size c event answer after
    → link_into n c.links f ≢ header_link page fill
    → link_into n after.links f ≡ header_link page fill
    → IsHeaderSet n c event after f page fill

-- of all steps of a run at most one sets the HEADER of a fill: once it is set, no later step sets it, there or
-- elsewhere
abbrev pub HeadersAreSetOnce : Type 0
HeadersAreSetOnce = (n size start : ℕ) (c between : Core) (exchanges : List Exchange)
    (event : Event) (answer : Answer) (after : Core) (f g page other_page fill : ℕ)
    → IsRingKept n size start c
    → link_into n c.links f ≡ header_link page fill
    → Run n size c exchanges between
    → Step n size between event answer after
    → link_into n between.links g ≢ header_link other_page fill
    → link_into n after.links g ≢ header_link other_page fill

-- An UPDATE is set over the head's HEADER, by a frame that then owns it; and so the head is lost, closed and in
-- a full ring.
pub record IsClaimed (n : ℕ) (c : Core) (event : Event) (after : Core) (f page lost : ℕ) : Type 0 where
  pub by_frame : event ≡ steps
  pub was_head : link_into n c.links f ≡ header_link page lost
  pub lost_is : lost ≡ c.head
  pub closed : lost < c.done
  pub full : c.opened ≡ lost + n
  pub passed : after.head ≡ c.head + 1
  pub top : Frame
  pub below : List Frame
  pub is_top : after.frames ≡ top ∷ below
  pub owns : owned_update top.phase ≡ Some (lost + n)

abbrev pub UpdatesAreClaimed : Type 0
UpdatesAreClaimed = (n size start : ℕ) (c : Core) (event : Event) (answer : Answer) (after : Core) (f page lost : ℕ)
    → IsRingKept n size start c
    → Step n size c event answer after
    → link_into n c.links f ≢ update_link page lost
    → link_into n after.links f ≡ update_link page lost
    → IsClaimed n c event after f page lost

-- An UPDATE of a lost fill is cleared by the frame that owns it, to the NORMAL of the fill to open; and before
-- that the HEADER after the lost fill was set: it is still there, or the head has moved on.
pub record IsCleared (n : ℕ) (c : Core) (event : Event) (after : Core) (f page lost : ℕ) : Type 0 where
  pub by_frame : event ≡ steps
  pub top : Frame
  pub below : List Frame
  pub is_top : c.frames ≡ top ∷ below
  pub owns : owned_update top.phase ≡ Some (lost + n)
  pub opens : link_into n after.links f ≡ normal_link page (lost + n)
  pub lost_lt : lost < c.head
  pub header_set : suc lost ≡ c.head → link_into n c.links c.head ≡ header_link (page_at n c.order c.head) c.head

abbrev pub OwnersClear : Type 0
OwnersClear = (n size start : ℕ) (c : Core) (event : Event) (answer : Answer) (after : Core) (f page lost : ℕ)
    → IsRingKept n size start c
    → Step n size c event answer after
    → link_into n c.links f ≡ update_link page lost
    → link_into n after.links f ≢ update_link page lost
    → IsCleared n c event after f page lost
