-- What a step prints leads from what was seen of a ring before it to what is seen of it after it.
use Rattle.std.proofs.Common.{◌≡◌, ℕ, List, [], ◌∷◌, ◌++◌, length, refl, sym, ap, ◌∙◌}
use Rattle.trace_model.specs.Links.{Link, same_link}
use Rattle.trace_model.specs.Frames.{Frame}
use Rattle.trace_model.specs.Ring.{Core}
use Rattle.trace_model.specs.Steps.{Answer}
use Rattle.trace_model.proofs.steps.StepSound.{cases_of}
use Rattle.ring_model.proofs.partition.RingsKept.{ring_step, reached_kept}
use Rattle.step_model.specs.Seen.{ReaderSeen, CountsSeen, RingSeen, ring_seen, Change, spare_link_is, reader_is}
use Rattle.step_model.specs.Seen.{all_assigned}
use Rattle.step_model.specs.Changes.{same_reader, unless_same, link_changes, page_changes, count_changes, frame_changes}
use Rattle.step_model.specs.Changes.{changes, all_links, all_pages, all_counts}
use Rattle.step_model.specs.StepLaws.{ChangesLeadOn, KeysAreAll}
use Rattle.step_model.proofs.StepMoves.{Moves, takes, stays, pushes_one, pops, goes, moves}
use Rattle.step_model.proofs.Assigned.{and_then, links_lead, links_all, pages_lead, pages_all, counts_lead}
use Rattle.step_model.proofs.Assigned.{pushed_leads, popped_leads, top_leads, same_leads, reader_leads}
use Rattle.step_model.proofs.Assigned.{spare_link_leads, with_frames}

frames_same : (v : RingSeen) (olds news : List Frame) → news ≡ olds
    → all_assigned (frame_changes olds news) (with_frames v olds) ≡ with_frames v news
frames_same v olds news e =
    ap (λ (l : List Frame). all_assigned (frame_changes olds l) (with_frames v olds)) e ∙ same_leads v olds
    ∙ sym (ap (with_frames v) e)

frames_lead : (v : RingSeen) (c : Core) (answer : Answer) (after : Core) → Moves c answer after
    → all_assigned (frame_changes c.frames after.frames) (with_frames v c.frames) ≡ with_frames v after.frames
frames_lead v c answer after (takes t a frames head) = frames_same v c.frames after.frames frames
frames_lead v c answer after (stays plain frames head) = frames_same v c.frames after.frames frames
frames_lead v c answer after (pushes_one kind plain frames head) =
    ap (λ (l : List Frame). all_assigned (frame_changes c.frames l) (with_frames v c.frames)) frames
    ∙ pushed_leads v kind c.frames ∙ sym (ap (with_frames v) frames)
frames_lead v c answer after (pops old plain frames head) =
    ap (λ (l : List Frame). all_assigned (frame_changes l after.frames) (with_frames v l)) frames
    ∙ popped_leads v old after.frames
frames_lead v c answer after (goes kind state other phase next below plain top frames head) =
    (λ i. all_assigned (frame_changes (top i) (frames i)) (with_frames v (top i)))
    ∙ top_leads v kind state other phase next below ∙ sym (ap (with_frames v) frames)

-- ---- the whole

abbrev seen_as : List Link → Link → List ℕ → CountsSeen → List Frame → ReaderSeen → RingSeen
seen_as links spare_link order counts frames reader =
    record { links = links; spare_link = spare_link; order = order; counts = counts; frames = frames; reader = reader }

lead_on : (v w : RingSeen) → length v.links ≡ length w.links → length v.order ≡ length w.order
    → ((x : RingSeen)
    → all_assigned (frame_changes v.frames w.frames) (with_frames x v.frames) ≡ with_frames x w.frames)
    → all_assigned (changes v w) v ≡ w
lead_on v w links order frames =
    let links_change : List Change = link_changes 0 v.links w.links in
    let spare_changes : List Change =
    links_change ++ unless_same (same_link v.spare_link w.spare_link) (spare_link_is w.spare_link) in
    let pages_change : List Change = spare_changes ++ page_changes 0 v.order w.order in
    let counts_change : List Change = pages_change ++ count_changes v.counts w.counts in
    let frames_change : List Change = counts_change ++ frame_changes v.frames w.frames in
    let a : RingSeen = seen_as w.links v.spare_link v.order v.counts v.frames v.reader in
    let b : RingSeen = seen_as w.links w.spare_link v.order v.counts v.frames v.reader in
    let c : RingSeen = seen_as w.links w.spare_link w.order v.counts v.frames v.reader in
    let d : RingSeen = seen_as w.links w.spare_link w.order w.counts v.frames v.reader in
    let e : RingSeen = seen_as w.links w.spare_link w.order w.counts w.frames v.reader in
    let to_a : all_assigned links_change v ≡ a = links_lead v 0 [] v.links w.links refl links in
    let to_b : all_assigned spare_changes v ≡ b =
    and_then links_change (unless_same (same_link v.spare_link w.spare_link) (spare_link_is w.spare_link)) v a b
    to_a (spare_link_leads a v.spare_link w.spare_link) in
    let to_c : all_assigned pages_change v ≡ c =
    and_then spare_changes (page_changes 0 v.order w.order) v b c to_b
    (pages_lead b 0 [] v.order w.order refl order) in
    let to_d : all_assigned counts_change v ≡ d =
    and_then pages_change (count_changes v.counts w.counts) v c d to_c (counts_lead c v.counts w.counts) in
    let to_e : all_assigned frames_change v ≡ e =
    and_then counts_change (frame_changes v.frames w.frames) v d e to_d (frames d) in
    and_then frames_change (unless_same (same_reader v.reader w.reader) (reader_is w.reader)) v e w to_e
    (reader_leads e v.reader w.reader)

pub changes_lead_on : ChangesLeadOn
changes_lead_on n size start c after event answer reached step =
    let kept = reached_kept n size start c reached in
    let later = ring_step n size start c event answer after kept step in
    let move = moves n size c event answer after (cases_of step) in
    lead_on (ring_seen c) (ring_seen after) (kept.links.positions ∙ sym later.links.positions)
    (kept.links.apart.pages ∙ sym later.links.apart.pages)
    (λ x. frames_lead x c answer after move)

pub keys_are_all : KeysAreAll
keys_are_all v w links order none empty =
    let words : List Change = all_links 0 w.links ++ spare_link_is w.spare_link ∷ all_pages 0 w.order in
    let a : RingSeen = seen_as w.links v.spare_link v.order v.counts v.frames v.reader in
    let b : RingSeen = seen_as w.links w.spare_link v.order v.counts v.frames v.reader in
    let c : RingSeen = seen_as w.links w.spare_link w.order v.counts v.frames v.reader in
    let d : RingSeen = seen_as w.links w.spare_link w.order w.counts v.frames v.reader in
    let to_c : all_assigned words v ≡ c =
    and_then (all_links 0 w.links) (spare_link_is w.spare_link ∷ all_pages 0 w.order) v a c
    (links_all v 0 [] v.links w.links refl links) (pages_all b 0 [] v.order w.order refl order) in
    let to_d : all_assigned (words ++ all_counts w.counts) v ≡ d =
    and_then words (all_counts w.counts) v c d to_c refl in
    and_then (words ++ all_counts w.counts) (reader_is w.reader ∷ []) v d w to_d
    (ap (λ (l : List Frame). seen_as w.links w.spare_link w.order w.counts l w.reader) (none ∙ sym empty))
