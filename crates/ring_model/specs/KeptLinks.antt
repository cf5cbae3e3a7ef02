-- What each step of a ring keeps of its links, its counts, its frames and its reader.
-- docs/formats/ring.md, "Writer frames" and "The reader".
use Rattle.std.specs.Prelude.{◌≡◌, ◌≢◌, ℕ, suc, ◌+◌, ◌<◌, ◌≤◌, ◌⊎◌, List, [], ◌∷◌, length, Option, Some, None}
use Rattle.trace_model.specs.declared.limits.TheConstants.{MIN_PAGES, LINK_FILLS}
use Rattle.trace_model.specs.Links.{Link, normal_link, header_link, update_link}
use Rattle.trace_model.specs.Frames.{Phase, idle, looking, claiming, looking_next, marking, clearing, opening}
use Rattle.trace_model.specs.Frames.{releasing, wishing, Frame, noted_fill, owned_update}
use Rattle.trace_model.specs.Ring.{link_into, page_at, ReaderPhase, loading_head, loading_done, storing_spare_link}
use Rattle.trace_model.specs.Ring.{swapping, Core, AreApart}

-- a frame of these has set the UPDATE at the position of fill f and not yet cleared it
abbrev pub HasMover : List Frame → ℕ → Type 0
HasMover [] f = ⊥
HasMover (frame ∷ below) f = (owned_update frame.phase ≡ Some f) ⊎ HasMover below f

-- no two of these frames have set one UPDATE
abbrev pub MoversDiffer : List Frame → Type 0
MoversDiffer [] = Unit {0}
MoversDiffer (frame ∷ below) = ((f : ℕ) → owned_update frame.phase ≡ Some f → HasMover below f → ⊥) × MoversDiffer below

-- a fill and a page
pub record Spot : Type 0 where
  pub fill : ℕ
  pub page : ℕ

abbrev pub spot : ℕ → ℕ → Spot
spot fill page = record { fill = fill; page = page }

-- the fill and its page, if the frame has found that the head isn't at that position, or has claimed it there
abbrev pub passed_spot : Phase → Option Spot
passed_spot idle = None
passed_spot (looking o) = None
passed_spot (claiming o page) = None
passed_spot (looking_next role o page) = Some (spot o page)
passed_spot (marking role o page next) = Some (spot o page)
passed_spot (clearing o page) = Some (spot o page)
passed_spot (opening o page) = Some (spot o page)
passed_spot releasing = None
passed_spot wishing = None

-- the fill and the next page, if the frame is about to set the HEADER
abbrev pub marking_spot : Phase → Option Spot
marking_spot idle = None
marking_spot (looking o) = None
marking_spot (claiming o page) = None
marking_spot (looking_next role o page) = None
marking_spot (marking role o page next) = Some (spot o next)
marking_spot (clearing o page) = None
marking_spot (opening o page) = None
marking_spot releasing = None
marking_spot wishing = None

-- the fill whose UPDATE the frame is about to clear
abbrev pub clearing_fill : Phase → Option ℕ
clearing_fill idle = None
clearing_fill (looking o) = None
clearing_fill (claiming o page) = None
clearing_fill (looking_next role o page) = None
clearing_fill (marking role o page next) = None
clearing_fill (clearing o page) = Some o
clearing_fill (opening o page) = None
clearing_fill releasing = None
clearing_fill wishing = None

-- What a frame knows in its phase. noted: the fill to open was the next one, and not all pages had fills that weren't
-- closed.
-- passed: the position of that fill is free but for an UPDATE. moves: its own UPDATE is set. marks: the next
-- link, if it waits for its HEADER, is the one that was seen. clears: it doesn't wait for it any more.
pub record PhaseKept (n : ℕ) (links : List Link) (order : List ℕ) (head done opened : ℕ) (phase : Phase)
    : Type 0 where
  pub noted : (o : ℕ)
      → noted_fill phase ≡ Some o
      → (done < o) × (o ≤ opened) × (o < done + n) × (o + n < LINK_FILLS)
  pub passed : (o page : ℕ)
      → passed_spot phase ≡ Some (spot o page)
      → (done < o) × (o < head + n) × (page ≡ page_at n order o)
  pub moves : (o : ℕ)
      → owned_update phase ≡ Some o
      → (lost : ℕ)
      × (lost + n ≡ o)
      × (lost < head)
      × (done < o)
      × (link_into n links o ≡ update_link (page_at n order o) lost)
  pub marks : (o next lost : ℕ)
      → marking_spot phase ≡ Some (spot o next)
      → lost + n ≡ o
      → (lost < head) × ((seen : ℕ) → link_into n links (suc lost) ≡ normal_link seen (suc lost) → next ≡ seen)
  pub clears : (o lost : ℕ)
      → clearing_fill phase ≡ Some o
      → lost + n ≡ o
      → (lost < head) × ((seen : ℕ) → link_into n links (suc lost) ≢ normal_link seen (suc lost))
  pub releases : phase ≡ releasing → done + 1 < opened

abbrev pub FramesKept : ℕ → List Link → List ℕ → ℕ → ℕ → ℕ → List Frame → Type 0
FramesKept n links order head done opened [] = Unit {0}
FramesKept n links order head done opened (frame ∷ below) =
    PhaseKept n links order head done opened frame.phase
    × FramesKept n links order head done opened below

-- The link into the position of a fill from the head on: it states that fill, and at the head a NORMAL only
-- while a move of the head is unfinished; it is the HEADER at the head; or an UPDATE that a frame owns.
pub data LinkKept (n : ℕ) (links : List Link) (order : List ℕ) (head : ℕ) (frames : List Frame) (f : ℕ)
    : Type 0 where
  is_normal :
      link_into n links f ≡ normal_link (page_at n order f) f
      → (f ≡ head → (lost : ℕ) × (suc lost ≡ head) × HasMover frames (lost + n))
      → LinkKept n links order head frames f
  is_header :
      link_into n links f ≡ header_link (page_at n order f) f
      → f ≡ head
      → LinkKept n links order head frames f
  is_update : (lost : ℕ)
      → lost + n ≡ f
      → link_into n links f ≡ update_link (page_at n order f) lost
      → HasMover frames f
      → LinkKept n links order head frames f

-- What the reader has seen: the fill is its hint, and while that is the head its HEADER is still there.
pub record HasSeen (n : ℕ) (links : List Link) (head hint page fill : ℕ) : Type 0 where
  pub fill_is : fill ≡ hint
  pub stays : fill ≡ head → link_into n links fill ≡ header_link page fill

-- What the reader knows in its phase: what it has seen, that the fill is closed, and that the spare's link
-- leads to the next fill.
abbrev pub ReaderKept : ℕ → List Link → List ℕ → Link → ℕ → ℕ → ℕ → ReaderPhase → Type 0
ReaderKept n links order spare_link head done hint loading_head = Unit {0}
ReaderKept n links order spare_link head done hint (loading_done page fill) =
    HasSeen n links head hint page fill
ReaderKept n links order spare_link head done hint (storing_spare_link page fill) =
    HasSeen n links head hint page fill × (fill < done)
ReaderKept n links order spare_link head done hint (swapping page fill) =
    HasSeen n links head hint page fill
    × (fill < done)
    × (spare_link ≡ header_link (page_at n order (suc fill)) (suc fill))

-- the link states one of the n + 1 pages, and a fill that has a number
abbrev pub FitsRing : ℕ → Link → Type 0
FitsRing n l = (l.page < n + 1) × (l.fill < LINK_FILLS)

-- What every step keeps of links, counts, frames and the reader, who has seen no more fills closed than are, and
-- whose wish is at most one more than that number.
pub record LinksKept (n : ℕ) (c : Core) : Type 0 where
  pub some_pages : MIN_PAGES ≤ n
  pub positions : length c.links ≡ n
  pub apart : AreApart n c.order c.spare
  pub head_le : c.head ≤ c.done
  pub done_lt : c.done < c.opened
  pub opened_le : c.opened ≤ c.head + n
  pub fits : c.opened + n ≤ LINK_FILLS
  pub each : (f : ℕ) → c.head ≤ f → f < c.head + n → LinkKept n c.links c.order c.head c.frames f
  pub frames : FramesKept n c.links c.order c.head c.done c.opened c.frames
  pub movers : MoversDiffer c.frames
  pub hint_le : c.reader.hint ≤ c.head
  pub seen_le : c.reader.seen ≤ c.done
  pub wish_le : c.wish ≤ c.reader.seen + 1
  pub spare_fits : FitsRing n c.spare_link
  pub reader : ReaderKept n c.links c.order c.spare_link c.head c.done c.reader.hint c.reader.phase
