-- What is new, by what is kept of the ring before and after.
use Rattle.std.proofs.Common.{◌≡◌, ◌∙◌, ℕ, List, [], ◌∷◌, ◌++◌, length, refl}
use Rattle.trace_model.specs.Links.{Link, same_link}
use Rattle.trace_model.specs.Frames.{Frame}
use Rattle.trace_model.specs.Ring.{Core}
use Rattle.link_marks.specs.ModelLinks.{link_of}
use Rattle.step_model.specs.Seen.{Change, spare_link_is, reader_is, ring_seen}
use Rattle.step_model.specs.Changes.{changes, count_changes, frame_changes, link_changes, page_changes, same_reader}
use Rattle.step_model.specs.Changes.{unless_same}
use Rattle.step_text.specs.declared.seen.Parts.{Parts}
use Rattle.script_replay.specs.Known.{top_frame}
use Rattle.step_text.specs.Seen.{ArePartsOf, counts_in, reader_in, top_in}
use Rattle.step_text.specs.FrameChanges.{frame_changes_in}
use Rattle.step_text.specs.Known.{KnownValue, IsKnownOf}

-- the keys whose values are new, of a ring with these links and pages and what is kept of it beside them
abbrev pub changes_in : KnownValue → (links : List Link) (order : List ℕ) → Parts → List Change
changes_in known links order now =
    link_changes 0 known.links links
    ++ unless_same (same_link (link_of known.parts.spare_link) (link_of now.spare_link))
    (spare_link_is (link_of now.spare_link))
    ++ page_changes 0 known.order order
    ++ count_changes (counts_in known.parts.counts) (counts_in now.counts)
    ++ frame_changes_in known.parts.depth (top_in known.parts.top) now.depth (top_in now.top)
    ++ unless_same (same_reader (reader_in known.parts.reader) (reader_in now.reader))
    (reader_is (reader_in now.reader))

frames_change : (olds news : List Frame)
    → frame_changes_in (length olds) (top_frame olds) (length news) (top_frame news) ≡ frame_changes olds news
frames_change [] [] = refl
frames_change [] (new ∷ news) = refl
frames_change (old ∷ olds) [] = refl
frames_change (old ∷ olds) (new ∷ news) = refl

pub changes_known : (known : KnownValue) (links : List Link) (order : List ℕ) (now : Parts) (before after : Core)
    → IsKnownOf known before → links ≡ after.links → order ≡ after.order → ArePartsOf now after
    → changes_in known links order now ≡ changes (ring_seen before) (ring_seen after)
changes_known known links order now before after k l o p =
    let framed =
    (λ i. frame_changes_in (k.parts.depth i) (k.parts.top i) (p.depth i) (p.top i))
    ∙ frames_change before.frames after.frames in
    λ i.
    link_changes 0 (k.links i) (l i)
    ++ unless_same (same_link (k.parts.spare_link i) (p.spare_link i)) (spare_link_is (p.spare_link i))
    ++ page_changes 0 (k.order i) (o i)
    ++ count_changes (k.parts.counts i) (p.counts i)
    ++ framed i
    ++ unless_same (same_reader (k.parts.reader i) (p.reader i)) (reader_is (p.reader i))
