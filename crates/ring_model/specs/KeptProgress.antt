-- What each step of a ring keeps so that each event has a next one: a frame that begins a fill has seen the head's
-- HEADER set. docs/formats/ring.md, "Writer frames".
use Rattle.std.specs.Prelude.{◌≡◌, ◌≢◌, ℕ, suc, ◌+◌, ◌<◌, ◌≤◌, List, [], ◌∷◌}
use Rattle.trace_model.specs.Links.{Link, normal_link}
use Rattle.trace_model.specs.Frames.{Phase, idle, looking, claiming, looking_next, marking, clearing, opening}
use Rattle.trace_model.specs.Frames.{releasing, wishing, Frame}
use Rattle.trace_model.specs.Ring.{Core, link_into}

-- the fill after a lost one doesn't wait for its HEADER any more
abbrev pub IsMarked : ℕ → List Link → ℕ → ℕ → Type 0
IsMarked n links head lost =
    (lost < head) × ((seen : ℕ) → link_into n links (suc lost) ≢ normal_link seen (suc lost))

-- a frame that looks at the next link is to open a fill after a whole round of them; one that begins a fill at the
-- position of a lost one has seen the next one marked
abbrev pub PhaseAdvances : ℕ → List Link → ℕ → Phase → Type 0
PhaseAdvances n links head idle = Unit {0}
PhaseAdvances n links head (looking o) = Unit {0}
PhaseAdvances n links head (claiming o page) = Unit {0}
PhaseAdvances n links head (looking_next role o page) = n ≤ o
PhaseAdvances n links head (marking role o page next) = n ≤ o
PhaseAdvances n links head (clearing o page) = Unit {0}
PhaseAdvances n links head (opening o page) = (lost : ℕ) → lost + n ≡ o → IsMarked n links head lost
PhaseAdvances n links head releasing = Unit {0}
PhaseAdvances n links head wishing = Unit {0}

abbrev pub FramesAdvance : ℕ → List Link → ℕ → List Frame → Type 0
FramesAdvance n links head [] = Unit {0}
FramesAdvance n links head (frame ∷ below) = PhaseAdvances n links head frame.phase × FramesAdvance n links head below

-- while the head's HEADER is owed, a position is free
pub record ProgressAt (n : ℕ) (links : List Link) (head opened : ℕ) (frames : List Frame) : Type 0 where
  pub room : (seen : ℕ) → link_into n links head ≡ normal_link seen head → opened < head + n
  pub advance : FramesAdvance n links head frames

abbrev pub ProgressKept : ℕ → Core → Type 0
ProgressKept n c = ProgressAt n c.links c.head c.opened c.frames
