-- How a frame moves the head away from the page that it needs: docs/formats/ring.md, "Writer frames", the rows from
-- claiming to clearing. After kernel/trace/ring_buffer.c (rb_handle_head_page, rb_head_page_set_update,
-- rb_head_page_set_head, rb_head_page_set_normal).
use Rattle.std.specs.Prelude.{ℕ, suc, ◌+◌, ◌-◌, if◌then◌else◌, ◌&&◌, nat_le, List}
use Rattle.trace_model.specs.Links.{Link, normal_link, header_link, update_link, same_link}
use Rattle.trace_model.specs.Frames.{Role, owner, helper, Phase, looking, looking_next, marking, clearing, opening}
use Rattle.trace_model.specs.Frames.{Frame}
use Rattle.trace_model.specs.Ring.{Core, link_into}
use Rattle.trace_model.specs.Events.{Outcome, only_if}
use Rattle.trace_model.specs.WriterSteps.{goes_on, with_link, unless_begun}

-- lost: the fill that was at the noted one's position before, noted - n. If n is above noted there is none, and each
-- step below tests that.

-- ---- claiming: a compare and exchange of the link into the position of the fill to open, from HEADER to UPDATE

-- the head, which is on this page as this fill, is lost: its HEADER is an UPDATE
abbrev pub with_head_claimed : ℕ → Core → (noted page lost : ℕ) → Core
with_head_claimed n c noted page lost = record (with_link n c noted (update_link page lost)) { head = c.head + 1 }

-- It succeeds, and the frame owns the move; or it fails.
abbrev pub claim_head : (n : ℕ) → Core → Frame → List Frame → (noted page : ℕ) → Outcome
claim_head n c frame below noted page =
    let lost : ℕ = noted - n in
    unless_begun noted c frame below
    (if nat_le n noted && same_link (link_into n c.links noted) (header_link page lost)
    then goes_on (with_head_claimed n c noted page lost) frame below (looking_next owner noted page)
    else goes_on c frame below (looking noted))

-- ---- looking at the next: a load of the link after the lost fill

-- a helper stops where another frame has begun the fill; the owner doesn't
abbrev pub unless_late : Role → ℕ → Core → Frame → List Frame → Outcome → Outcome
unless_late owner noted c frame below outcome = outcome
unless_late helper noted c frame below outcome = unless_begun noted c frame below outcome

-- the next link has its HEADER: only the owner clears
abbrev pub after_next : Role → ℕ → ℕ → Phase
after_next owner noted page = clearing noted page
after_next helper noted page = opening noted page

-- It still waits for the HEADER; or it is anything else.
abbrev pub load_next : (n : ℕ) → Core → Frame → List Frame → Role → (noted page : ℕ) → Outcome
load_next n c frame below role noted page =
    let lost : ℕ = noted - n in
    let l : Link = link_into n c.links (suc lost) in
    unless_late role noted c frame below
    (only_if (nat_le n noted)
    (if same_link l (normal_link l.page (suc lost))
    then goes_on c frame below (marking role noted page l.page)
    else goes_on c frame below (after_next role noted page)))

-- ---- marking: a compare and exchange of the next link from NORMAL to HEADER. If it fails, a frame that interrupted
-- this one has set that HEADER already; the frame goes on either way.

abbrev pub mark_head : (n : ℕ) → Core → Frame → List Frame → Role → (noted page next : ℕ) → Outcome
mark_head n c frame below role noted page next =
    let lost : ℕ = noted - n in
    unless_late role noted c frame below
    (only_if (nat_le n noted)
    (if same_link (link_into n c.links (suc lost)) (normal_link next (suc lost))
    then goes_on (with_link n c (suc lost) (header_link next (suc lost))) frame below (after_next role noted page)
    else goes_on c frame below (after_next role noted page)))

-- ---- clearing: a compare and exchange of the claimed link from UPDATE to NORMAL, by the owner

abbrev pub clear_update : (n : ℕ) → Core → Frame → List Frame → (noted page : ℕ) → Outcome
clear_update n c frame below noted page =
    let lost : ℕ = noted - n in
    only_if (nat_le n noted && same_link (link_into n c.links noted) (update_link page lost))
    (goes_on (with_link n c noted (normal_link page noted)) frame below (opening noted page))
