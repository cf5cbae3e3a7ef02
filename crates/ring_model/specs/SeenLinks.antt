-- What a frame has seen of a link that it is about to claim, or to mark.
use Rattle.std.specs.Prelude.{◌≡◌, ℕ, ◌+◌, ◌<◌, ◌≤◌, List, [], ◌∷◌}
use Rattle.trace_model.specs.declared.limits.TheConstants.{MAX_PAGES, LINK_PAGES}
use Rattle.trace_model.specs.Links.{Link, header_link}
use Rattle.trace_model.specs.Frames.{Phase, idle, looking, claiming, looking_next, marking, clearing, opening}
use Rattle.trace_model.specs.Frames.{releasing, wishing, Frame}
use Rattle.trace_model.specs.Ring.{Core, link_into}
use Rattle.ring_model.specs.Reached.{IsReached}

-- The page that it saw has room in a word. The head that it is about to claim is a whole round of fills earlier; while
-- that is the head, its HEADER is still there.
abbrev pub HasSeenLink : (n : ℕ) → List Link → (head : ℕ) → Phase → Type 0
HasSeenLink n links head idle = Unit {0}
HasSeenLink n links head (looking noted) = Unit {0}
HasSeenLink n links head (claiming noted page) =
    (n ≤ noted) × (page < LINK_PAGES) × (noted ≡ head + n → link_into n links noted ≡ header_link page head)
HasSeenLink n links head (looking_next role noted page) = Unit {0}
HasSeenLink n links head (marking role noted page next) = next < LINK_PAGES
HasSeenLink n links head (clearing noted page) = Unit {0}
HasSeenLink n links head (opening noted page) = Unit {0}
HasSeenLink n links head releasing = Unit {0}
HasSeenLink n links head wishing = Unit {0}

abbrev pub HaveSeenLinks : (n : ℕ) → List Link → (head : ℕ) → List Frame → Type 0
HaveSeenLinks n links head [] = Unit {0}
HaveSeenLinks n links head (frame ∷ below) = HasSeenLink n links head frame.phase × HaveSeenLinks n links head below

-- so it is with each frame in each state that steps reach
abbrev pub FramesHaveSeenLinks : Type 0
FramesHaveSeenLinks = (n size start : ℕ) (c : Core)
    → n ≤ MAX_PAGES
    → IsReached n size start c
    → HaveSeenLinks n c.links c.head c.frames
