-- Which links a step sets, and over which: their ages only rise, so none occurs twice.
use Rattle.std.proofs.Common.{◌≡◌, ◌≢◌, ℕ, suc, ◌+◌, ◌%◌, ◌<◌, ◌≤◌, ◌⊎◌, List, [], ◌∷◌, length, get_or, Some, refl, sym}
use Rattle.std.proofs.Common.{ap, ◌∙◌, subst, inl, inr, ⊎_elim, mod-lt, arith, length-set}
use Rattle.std.proofs.lemmas.List.{get_or-set_other}
use mathlib.Core.Logic.{dite}
use native.Mathlib.Decide.{ℕ_discrete}
use Rattle.trace_model.specs.Links.{Link, normal_link, header_link, update_link}
use Rattle.trace_model.specs.Frames.{Purpose, for_record, for_close, Progress, waiting, reserved, left, owner, Phase}
use Rattle.trace_model.specs.Frames.{idle, looking, claiming, looking_next, marking, clearing, opening, releasing}
use Rattle.trace_model.specs.Frames.{wishing, Frame, owned_update}
use Rattle.trace_model.specs.Ring.{link_into, links_with, page_at, ReaderPhase, loading_head, loading_done}
use Rattle.trace_model.specs.Ring.{storing_spare_link, swapping, Core}
use Rattle.trace_model.specs.Steps.{Event, steps, reads, Answer, with_new_tail, after_begin, Step, Exchange, Run}
use Rattle.trace_model.proofs.steps.StepCases.{StepCases, BeginsAgain, reserves, finds_nothing, is_crowded, is_worn}
use Rattle.trace_model.proofs.steps.StepCases.{notes, load_link_late, sees_free, sees_header, sees_update, claim_late}
use Rattle.trace_model.proofs.steps.StepCases.{claims, claim_fails, load_next_late, sees_normal, sees_other, mark_late}
use Rattle.trace_model.proofs.steps.StepCases.{marks, mark_fails, clears, open_late, opens, releases, releases_last}
use Rattle.trace_model.proofs.steps.StepCases.{grants, closes_more, goes_away, IdleStep, FrameStep, push_step}
use Rattle.trace_model.proofs.steps.StepCases.{push_refused, close_step, close_refused, frame_step, frame_lacks}
use Rattle.trace_model.proofs.steps.StepCases.{end_step, end_lacks, end_early, read_step, store_wish_step, loads_header}
use Rattle.trace_model.proofs.steps.StepCases.{loads_update, loads_owed, loads_passed, finds_none, finds_closed, swaps}
use Rattle.trace_model.proofs.steps.StepCases.{swap_fails, ReadStep}
use Rattle.trace_model.proofs.steps.StepSound.{cases_of}
use Rattle.ring_model.specs.KeptLinks.{PhaseKept, LinkKept, is_normal, is_header, is_update, ReaderKept, LinksKept}
use Rattle.ring_model.specs.RingKept.{IsRingKept}
use Rattle.ring_model.specs.LinkLaws.{age_of, IsHeaderSet, IsClaimed, IsCleared}
use Rattle.trace_model.proofs.Positions.{at_position, link_here}
use Rattle.ring_model.proofs.links.FramePhases.{normal_ne_header, normal_ne_update, header_ne_update, IsSet}
use Rattle.ring_model.proofs.links.LinkFills.{header_inside, header_reports, next_inside, owned_by, fill_at}
use Rattle.ring_model.proofs.links.LinkFills.{behind_closed}
use Rattle.ring_model.proofs.links.FrameChanges.{top_kept}
use Rattle.ring_model.proofs.partition.RingsKept.{ring_step, ring_run}

-- ---- what a step sets

-- the head is lost to the frame on top, for the fill that this frame noted
pub record IsLost (n : ℕ) (c after : Core) (noted lost : ℕ) : Type 0 where
  pub sum : lost + n ≡ noted
  pub here : lost ≡ c.head
  pub closed : lost < c.done
  pub full : noted ≡ c.opened
  pub passed : after.head ≡ c.head + 1
  pub top : Frame
  pub below : List Frame
  pub is_top : after.frames ≡ top ∷ below
  pub owns : owned_update top.phase ≡ Some noted

-- the links are as they were; or the head's HEADER is an UPDATE; or the HEADER that was owed is set; or a
-- frame's UPDATE is cleared; or the reader takes the head
pub data Relinks (n : ℕ) (c : Core) (event : Event) (after : Core) : Type 0 where
  leaves_links : after.links ≡ c.links → Relinks n c event after
  claims_head : (noted page lost : ℕ) → event ≡ steps → IsLost n c after noted lost
      → link_into n c.links noted ≡ header_link page lost
      → after.links ≡ links_with n c.links noted (update_link page lost) → Relinks n c event after
  marks_head : (lost next : ℕ) → event ≡ steps → suc lost ≡ c.head → after.head ≡ c.head
      → link_into n c.links (suc lost) ≡ normal_link next (suc lost)
      → after.links ≡ links_with n c.links (suc lost) (header_link next (suc lost)) → Relinks n c event after
  clears_own : (frame : Frame) (below : List Frame) (noted page lost : ℕ) → event ≡ steps → c.frames ≡ frame ∷ below
      → owned_update frame.phase ≡ Some noted → lost + n ≡ noted → IsSet n c.links c.order c.head c.done c.opened lost
      → link_into n c.links noted ≡ update_link page lost
      → after.links ≡ links_with n c.links noted (normal_link page noted)
      → Relinks n c event after
  swaps_head : (page next : ℕ) → event ≡ reads → after.head ≡ c.head + 1
      → link_into n c.links c.head ≡ header_link page c.head
      → link_into n c.links (suc c.head) ≡ normal_link next (suc c.head)
      → after.links
      ≡ links_with n (links_with n c.links c.head (normal_link c.spare (c.head + n))) (suc c.head)
      (header_link next (suc c.head))
      → Relinks n c event after

links_after_begin : (kind : Purpose) (state : Progress) (c : Core) (frame : Frame) (below : List Frame)
    → (after_begin kind state c frame below).links ≡ c.links
links_after_begin (for_record moment len) waiting c frame below = refl
links_after_begin for_close waiting c frame below = refl
links_after_begin kind (reserved number) c frame below = refl
links_after_begin kind left c frame below = refl

again : (n : ℕ) (c : Core) (event : Event) (frame : Frame) (below : List Frame) (noted : ℕ) (answer : Answer)
    (after : Core) → BeginsAgain c frame below noted answer after → Relinks n c event after
again n c event frame below noted answer after step =
    leaves_links (ap (λ (d : Core). d.links) step.after_is ∙ links_after_begin frame.kind frame.state c frame below)

stays : (n : ℕ) (c : Core) (event : Event) (after d : Core) → after ≡ d → d.links ≡ c.links → Relinks n c event after
stays n c event after d is same = leaves_links (ap (λ (x : Core). x.links) is ∙ same)

module _ (n size : ℕ) (c : Core) (event : Event) (frame : Frame) (below : List Frame) (k : LinksKept n c)
    (steps_is : event ≡ steps) (top : c.frames ≡ frame ∷ below) where
  relinks_idle : (state : Progress) (answer : Answer) (after : Core) → IdleStep n size c frame below state answer after
      → Relinks n c event after
  relinks_idle waiting answer after (reserves moment len r kind r_is fits a is) = stays n c event after _ is refl
  relinks_idle waiting answer after (finds_nothing kind none a is) = stays n c event after _ is refl
  relinks_idle waiting answer after (is_crowded needs full a is) = stays n c event after _ is refl
  relinks_idle waiting answer after (is_worn needs full last a is) = stays n c event after _ is refl
  relinks_idle waiting answer after (notes needs room small a is) = stays n c event after _ is refl
  relinks_idle (reserved number) answer after step = stays n c event after c step.1 refl
  relinks_idle left answer after step = absurd step

  relinks_frame : (phase : Phase) (answer : Answer) (after : Core) → frame.phase ≡ phase
      → FrameStep n size c frame below phase answer after → Relinks n c event after
  relinks_frame idle answer after same step = relinks_idle frame.state answer after step
  relinks_frame (looking noted) answer after same (load_link_late step) =
      again n c event frame below noted answer after step
  relinks_frame (looking noted) answer after same (sees_free page now at a is) = stays n c event after _ is refl
  relinks_frame (looking noted) answer after same (sees_header page lost now sum at a is) =
      stays n c event after _ is refl
  relinks_frame (looking noted) answer after same (sees_update page lost now sum at a is) =
      stays n c event after _ is refl
  relinks_frame (claiming noted page) answer after same (claim_late step) =
      again n c event frame below noted answer after step
  relinks_frame (claiming noted page) answer after same (claims lost now sum at a is) =
      let (open_yet, begun_yet, room, small) =
      (subst (PhaseKept n c.links c.order c.head c.done c.opened) same (top_kept n c frame below k top)).noted noted
      refl in
      let unread = k.head_le in let within = k.opened_le in
      let (here, page_is, head_at) = header_inside n c k noted page lost (omega arith) (omega arith) sum at in
      claims_head noted page lost steps_is
      record {
        sum = sum;
        here = here;
        closed = omega arith;
        full = now;
        passed = ap (λ (x : Core). x.head) is;
        top = record frame { phase = looking_next owner noted page };
        below = below;
        is_top = ap (λ (x : Core). x.frames) is;
        owns = refl;
      }
      at (ap (λ (x : Core). x.links) is)
  relinks_frame (claiming noted page) answer after same (claim_fails now other a is) = stays n c event after _ is refl
  relinks_frame (looking_next role noted page) answer after same (load_next_late helps step) =
      again n c event frame below noted answer after step
  relinks_frame (looking_next role noted page) answer after same (sees_normal lost next goes_on sum at a is) =
      stays n c event after _ is refl
  relinks_frame (looking_next role noted page) answer after same (sees_other lost goes_on sum other a is) =
      stays n c event after _ is refl
  relinks_frame (marking role noted page next) answer after same (mark_late helps step) =
      again n c event frame below noted answer after step
  relinks_frame (marking role noted page next) answer after same (marks lost goes_on sum at a is) =
      let kept = subst (PhaseKept n c.links c.order c.head c.done c.opened) same (top_kept n c frame below k top) in
      let (open_yet, within, page_is) = kept.passed noted page refl in
      let (below_head, waits) = kept.marks noted next lost refl sum in
      marks_head lost next steps_is (next_inside n c k lost next below_head (omega arith) at).0
      (ap (λ (x : Core). x.head) is) at (ap (λ (x : Core). x.links) is)
  relinks_frame (marking role noted page next) answer after same (mark_fails lost goes_on sum other a is) =
      stays n c event after _ is refl
  relinks_frame (clearing noted page) answer after same (clears lost sum at a is) =
      let kept = subst (PhaseKept n c.links c.order c.head c.done c.opened) same (top_kept n c frame below k top) in
      clears_own frame below noted page lost steps_is top (ap owned_update same) sum (kept.clears noted lost refl sum)
      at (ap (λ (x : Core). x.links) is)
  relinks_frame (opening noted page) answer after same (open_late step) =
      again n c event frame below noted answer after step
  relinks_frame (opening noted page) answer after same (opens now a is) =
      stays n c event after _ is (links_after_begin frame.kind frame.state (with_new_tail c page) frame below)
  relinks_frame releasing answer after same (releases alone more a is) = stays n c event after _ is refl
  relinks_frame releasing answer after same (releases_last alone last a is) = stays n c event after _ is refl
  relinks_frame wishing answer after same (grants alone granted a is) = stays n c event after _ is refl
  relinks_frame wishing answer after same (closes_more alone denied more a is) = stays n c event after _ is refl
  relinks_frame wishing answer after same (goes_away alone denied last a is) = stays n c event after _ is refl

relinks_read : (n : ℕ) (c : Core) (event : Event) (phase : ReaderPhase) (answer : Answer) (after : Core) → LinksKept n c
    → event ≡ reads → ReaderKept n c.links c.order c.spare_link c.head c.done c.reader.hint phase
    → ReadStep n c phase answer after → Relinks n c event after
relinks_read n c event loading_head answer after k reads_is facts (loads_header page fill at a is) =
    stays n c event after _ is refl
relinks_read n c event loading_head answer after k reads_is facts (loads_update page lost at a is) =
    stays n c event after _ is refl
relinks_read n c event loading_head answer after k reads_is facts (loads_owed page at a is) =
    stays n c event after _ is refl
relinks_read n c event loading_head answer after k reads_is facts (loads_passed page fill least at more sum a is) =
    stays n c event after _ is refl
relinks_read n c event (loading_done page fill) answer after k reads_is facts (finds_none le a is) =
    stays n c event after _ is refl
relinks_read n c event (loading_done page fill) answer after k reads_is facts (finds_closed below a is) =
    stays n c event after _ is refl
relinks_read n c event (storing_spare_link page fill) answer after k reads_is facts step =
    stays n c event after _ step.after_is refl
relinks_read n c event (swapping page fill) answer after k reads_is facts (swaps at a is) =
    let (g, low_g, high_g, same, link) = fill_at n c k fill in
    let reported = header_reports n c.links c.order c.head c.frames g page fill link (same ∙ at) in
    let here : fill ≡ c.head = reported.0 ∙ reported.1 in let closed = facts.1 in
    swaps_head page (page_at n c.order (suc c.head)) reads_is (ap (λ (x : Core). x.head) is)
    (ap (link_into n c.links) (sym here) ∙ at ∙ ap (header_link page) here) (behind_closed n c k (omega arith))
    (ap (λ (x : Core). x.links) is
    ∙ ap (λ (l : Link). links_with n (links_with n c.links fill (normal_link c.spare (fill + n))) (suc fill) l) facts.2
    ∙ ap
    (λ (f : ℕ).
    links_with n (links_with n c.links f (normal_link c.spare (f + n))) (suc f)
    (header_link (page_at n c.order (suc f)) (suc f))) here)
relinks_read n c event (swapping page fill) answer after k reads_is facts (swap_fails at a is) =
    stays n c event after _ is refl

pub relinks_step : (n size : ℕ) (c : Core) (event : Event) (answer : Answer) (after : Core) → LinksKept n c
    → StepCases n size c event answer after → Relinks n c event after
relinks_step n size c event answer after k (push_step moment len e few fits early a is) =
    stays n c event after _ is refl
relinks_step n size c event answer after k (push_refused moment len why e refused a is) =
    stays n c event after c is refl
relinks_step n size c event answer after k (close_step e few a is) = stays n c event after _ is refl
relinks_step n size c event answer after k (close_refused e many a is) = stays n c event after c is refl
relinks_step n size c event answer after k (frame_step frame below e top step) =
    relinks_frame n size c event frame below k e top frame.phase answer after refl step
relinks_step n size c event answer after k (frame_lacks e none a is) = stays n c event after c is refl
relinks_step n size c event answer after k (end_step payload frame below number moment len e top phase kind slot a is) =
    stays n c event after _ is refl
relinks_step n size c event answer after k (end_lacks payload e none a is) = stays n c event after c is refl
relinks_step n size c event answer after k (end_early payload frame below e top none a is) =
    stays n c event after c is refl
relinks_step n size c event answer after k (read_step e step) =
    relinks_read n c event c.reader.phase answer after k e k.reader step
relinks_step n size c event answer after k (store_wish_step e a is) = stays n c event after _ is refl

-- ---- one position

same_position : (n : ℕ) (links : List Link) (f g : ℕ) → f % n ≡ g % n → link_into n links f ≡ link_into n links g
same_position n links f g e = ap (λ (i : ℕ). get_or links i (normal_link 0 0)) e

set_here : (n : ℕ) (links : List Link) (f g : ℕ) (l : Link) → 1 ≤ n → length links ≡ n → f % n ≡ g % n
    → link_into n (links_with n links g l) f ≡ l
set_here n links f g l some wide e = same_position n (links_with n links g l) f g e ∙ link_here n links g l some wide

set_else : (n : ℕ) (links : List Link) (f g : ℕ) (l : Link) → f % n ≢ g % n
    → link_into n (links_with n links g l) f ≡ link_into n links f
set_else n links f g l ne = get_or-set_other links (g % n) (f % n) l (normal_link 0 0) ne

-- what a step makes of the link into one position
pub data LinkChange (n : ℕ) (c : Core) (event : Event) (after : Core) (f : ℕ) : Type 0 where
  stands_still : link_into n after.links f ≡ link_into n c.links f → LinkChange n c event after f
  to_update : (page lost : ℕ) → event ≡ steps → IsLost n c after (lost + n) lost
      → link_into n c.links f ≡ header_link page lost → link_into n after.links f ≡ update_link page lost
      → LinkChange n c event after f
  to_header : (page fill : ℕ) → link_into n c.links f ≡ normal_link page fill
      → link_into n after.links f ≡ header_link page fill → fill ≡ after.head
      → ((event ≡ steps) × (c.head ≡ fill) × (link_into n c.links c.head ≡ normal_link page fill))
      ⊎ ((event ≡ reads) × (c.head + 1 ≡ fill))
      → LinkChange n c event after f
  to_next : (frame : Frame) (below : List Frame) (page lost : ℕ) → event ≡ steps → c.frames ≡ frame ∷ below
      → owned_update frame.phase ≡ Some (lost + n) → IsSet n c.links c.order c.head c.done c.opened lost
      → link_into n c.links f ≡ update_link page lost
      → link_into n after.links f ≡ normal_link page (lost + n)
      → LinkChange n c event after f
  to_spare : (page other fill : ℕ) → link_into n c.links f ≡ header_link page fill
      → link_into n after.links f ≡ normal_link other (fill + n) → LinkChange n c event after f

change_of : (n : ℕ) (c : Core) (event : Event) (after : Core) (f : ℕ) → 1 ≤ n → length c.links ≡ n
    → Relinks n c event after → LinkChange n c event after f
change_of n c event after f some wide (leaves_links same) = stands_still (ap (λ (l : List Link). link_into n l f) same)
change_of n c event after f some wide (claims_head noted page lost by lose at is) =
    dite (ℕ_discrete (f % n) (noted % n))
    (λ e.
    to_update page lost by (subst (λ (o : ℕ). IsLost n c after o lost) (sym lose.sum) lose)
    (same_position n c.links f noted e ∙ at)
    (ap (λ (l : List Link). link_into n l f) is
    ∙ set_here n c.links f noted (update_link page lost) some wide e))
    (λ ne.
    stands_still
    (ap (λ (l : List Link). link_into n l f) is ∙ set_else n c.links f noted (update_link page lost) ne))
change_of n c event after f some wide (marks_head lost next by here head at is) =
    dite (ℕ_discrete (f % n) (suc lost % n))
    (λ e.
    to_header next (suc lost) (same_position n c.links f (suc lost) e ∙ at)
    (ap (λ (l : List Link). link_into n l f) is
    ∙ set_here n c.links f (suc lost) (header_link next (suc lost)) some wide e) (here ∙ sym head)
    (inl (by, sym here, ap (link_into n c.links) (sym here) ∙ at)))
    (λ ne.
    stands_still (ap (λ (l : List Link). link_into n l f) is
    ∙ set_else n c.links f (suc lost) (header_link next (suc lost)) ne))
change_of n c event after f some wide (clears_own frame below noted page lost by top own sum set at is) =
    dite (ℕ_discrete (f % n) (noted % n))
    (λ e.
    to_next frame below page lost by top (own ∙ ap Some (sym sum)) set (same_position n c.links f noted e ∙ at)
    (ap (λ (l : List Link). link_into n l f) is
    ∙ set_here n c.links f noted (normal_link page noted) some wide e ∙ ap (normal_link page) (sym sum)))
    (λ ne.
    stands_still
    (ap (λ (l : List Link). link_into n l f) is ∙ set_else n c.links f noted (normal_link page noted) ne))
change_of n c event after f some wide (swaps_head page next by head at behind is) =
    let first : Link = normal_link c.spare (c.head + n) in
    let once : List Link = links_with n c.links c.head first in
    let once_wide : length once ≡ n = length-set c.links (c.head % n) first ∙ wide in
    dite (ℕ_discrete (f % n) (suc c.head % n))
    (λ e.
    to_header next (suc c.head) (same_position n c.links f (suc c.head) e ∙ behind)
    (ap (λ (l : List Link). link_into n l f) is
    ∙ set_here n once f (suc c.head) (header_link next (suc c.head)) some once_wide e) (omega arith)
    (inr (by, omega arith)))
    (λ ne. let outer =
    ap (λ (l : List Link). link_into n l f) is
    ∙ set_else n once f (suc c.head) (header_link next (suc c.head)) ne in
    dite (ℕ_discrete (f % n) (c.head % n))
    (λ e.
    to_spare page c.spare c.head (same_position n c.links f c.head e ∙ at)
    (outer ∙ set_here n c.links f c.head first some wide e))
    (λ ne'. stands_still (outer ∙ set_else n c.links f c.head first ne')))

pub change_step : (n size : ℕ) (c : Core) (event : Event) (answer : Answer) (after : Core) (f : ℕ) → LinksKept n c
    → Step n size c event answer after → LinkChange n c event after f
change_step n size c event answer after f k step =
    change_of n c event after f (let two = k.some_pages in omega arith) k.positions
    (relinks_step n size c event answer after k (cases_of step))

-- ---- ages

abbrev pub Rises : Link → Link → Type 0
Rises l m = (m ≡ l) ⊎ (age_of l < age_of m)

raised : (n : ℕ) (c : Core) (event : Event) (after : Core) (f : ℕ) → 1 ≤ n → LinkChange n c event after f
    → Rises (link_into n c.links f) (link_into n after.links f)
raised n c event after f some (stands_still same) = inl same
raised n c event after f some (to_update page lost by lose was is) = let a = ap age_of was in
    let b = ap age_of is in
    inr (omega arith)
raised n c event after f some (to_header page fill was is head by) = let a = ap age_of was in
    let b = ap age_of is in
    inr (omega arith)
raised n c event after f some (to_next frame below page lost by top own set was is) = let a = ap age_of was in
    let b = ap age_of is in
    inr (omega arith)
raised n c event after f some (to_spare page other fill was is) = let a = ap age_of was in
    let b = ap age_of is in
    inr (omega arith)

pub raised_step : (n size start : ℕ) (c : Core) (event : Event) (answer : Answer) (after : Core) (f : ℕ)
    → IsRingKept n size start c → Step n size c event answer after
    → Rises (link_into n c.links f) (link_into n after.links f)
raised_step n size start c event answer after f r step =
    raised n c event after f (let two = r.links.some_pages in omega arith)
    (change_step n size c event answer after f r.links step)

rises_on : (l m o : Link) → Rises l m → Rises m o → Rises l o
rises_on l m o (inl e) (inl e') = inl (e' ∙ e)
rises_on l m o (inl e) (inr more) = inr (let a = ap age_of e in omega arith)
rises_on l m o (inr more) (inl e) = inr (let a = ap age_of e in omega arith)
rises_on l m o (inr more) (inr more') = inr (omega arith)

pub raised_run : (n size start : ℕ) (c after : Core) (exchanges : List Exchange) (f : ℕ) → IsRingKept n size start c
    → Run n size c exchanges after → Rises (link_into n c.links f) (link_into n after.links f)
raised_run n size start c after [] f r run = inl (ap (λ (d : Core). link_into n d.links f) (sym run))
raised_run n size start c after (x ∷ exchanges) f r (between, step, run) =
    rises_on (link_into n c.links f) (link_into n between.links f) (link_into n after.links f)
    (raised_step n size start c x.event x.answer between f r step)
    (raised_run n size start between after exchanges f (ring_step n size start c x.event x.answer between r step) run)

stands_once : (l m o : Link) → Rises l m → Rises m o → m ≢ l → o ≢ l
stands_once l m o (inl e) b ne is = ne e
stands_once l m o (inr more) (inl e) ne is = ne (sym e ∙ is)
stands_once l m o (inr more) (inr more') ne is = let a = ap age_of is in omega arith

pub once_run : (n size start : ℕ) (c between after : Core) (exchanges more : List Exchange) (f : ℕ)
    → IsRingKept n size start c → Run n size c exchanges between → Run n size between more after
    → link_into n between.links f ≢ link_into n c.links f
    → link_into n after.links f ≢ link_into n c.links f
once_run n size start c between after exchanges more f r run rest ne =
    stands_once (link_into n c.links f) (link_into n between.links f) (link_into n after.links f)
    (raised_run n size start c between exchanges f r run)
    (raised_run n size start between after more f (ring_run n size start c between exchanges r run) rest)
    ne

-- ---- the HEADER

-- a HEADER is the head's
pub header_at : (n : ℕ) (c : Core) (k : LinksKept n c) (f page fill : ℕ) → link_into n c.links f ≡ header_link page fill
    → (fill ≡ c.head) × (page ≡ page_at n c.order c.head) × (c.head % n ≡ f % n)
header_at n c k f page fill at =
    let some_pages = k.some_pages in
    let (g, low, high, position) = at_position c.head n (f % n) (mod-lt f (omega arith)) in
    let (reported, here, page_is) =
    header_reports n c.links c.order c.head c.frames g page fill (k.each g low high)
    (ap (λ (i : ℕ). get_or c.links i (normal_link 0 0)) position ∙ at) in
    (reported ∙ here, page_is ∙ ap (page_at n c.order) here, ap (λ (i : ℕ). i % n) (sym here) ∙ position)

pub one_header : (n size start : ℕ) (c : Core) (f g page other_page fill other_fill : ℕ) → IsRingKept n size start c
    → link_into n c.links f ≡ header_link page fill → link_into n c.links g ≡ header_link other_page other_fill
    → (fill ≡ c.head) × (other_fill ≡ fill) × (other_page ≡ page) × (g % n ≡ f % n)
one_header n size start c f g page other_page fill other_fill r at other =
    let (a, p, position) = header_at n c r.links f page fill at in
    let (b, q, other_position) = header_at n c r.links g other_page other_fill other in
    (a, b ∙ sym a, q ∙ sym p, sym other_position ∙ position)

page_of : (l m : Link) → l ≡ m → l.page ≡ m.page
page_of l m e = ap (λ (x : Link). x.page) e

fill_of : (l m : Link) → l ≡ m → l.fill ≡ m.fill
fill_of l m e = ap (λ (x : Link). x.fill) e

-- if the head's link is NORMAL, there is no HEADER
no_header : (n : ℕ) (c : Core) (k : LinksKept n c) (page fill : ℕ) → link_into n c.links c.head ≡ normal_link page fill
    → (g other_page other_fill : ℕ) → link_into n c.links g ≢ header_link other_page other_fill
no_header n c k page fill waits g other_page other_fill at =
    let (a, p, position) =
    header_at n c k g other_page other_fill at in
    normal_ne_header page fill other_page other_fill (sym waits ∙ same_position n c.links c.head g position ∙ at)

header_set : (n : ℕ) (c : Core) (event : Event) (after : Core) (f page fill : ℕ) → LinksKept n c
    → LinkChange n c event after f → link_into n c.links f ≢ header_link page fill
    → link_into n after.links f ≡ header_link page fill → IsHeaderSet n c event after f page fill
header_set n c event after f page fill k (stands_still same) ne is = absurd (ne (sym same ∙ is))
header_set n c event after f page fill k (to_update p lost by lose was now) ne is =
    absurd (header_ne_update page fill p lost (sym is ∙ now))
header_set n c event after f page fill k (to_header p g was now head by) ne is =
    let pages : p ≡ page = page_of (header_link p g) (header_link page fill) (sym now ∙ is) in
    let fills : g ≡ fill = fill_of (header_link p g) (header_link page fill) (sym now ∙ is) in record {
      waited = was ∙ (λ i. normal_link (pages i) (fills i));
      head_is = sym fills ∙ head;
      alone =
          ⊎_elim (λ (x, here, waits). inl (x, here ∙ fills, no_header n c k p g waits))
          (λ (x, next). inr (x, next ∙ fills)) by;
    }
header_set n c event after f page fill k (to_next frame below p lost by top own set was now) ne is =
    absurd (normal_ne_header p (lost + n) page fill (sym now ∙ is))
header_set n c event after f page fill k (to_spare p other g was now) ne is =
    absurd (normal_ne_header other (g + n) page fill (sym now ∙ is))

pub headers_owed : (n size start : ℕ) (c : Core) (event : Event) (answer : Answer) (after : Core) (f page fill : ℕ)
    → IsRingKept n size start c → Step n size c event answer after → link_into n c.links f ≢ header_link page fill
    → link_into n after.links f ≡ header_link page fill
    → IsHeaderSet n c event after f page fill
headers_owed n size start c event answer after f page fill r step ne is =
    header_set n c event after f page fill r.links (change_step n size c event answer after f r.links step) ne is

too_old : (l m : Link) (page other_page fill : ℕ) → l ≡ header_link page fill → Rises l m
    → m ≢ normal_link other_page fill
too_old l m page other_page fill at (inl e) is = normal_ne_header other_page fill page fill (sym is ∙ e ∙ at)
too_old l m page other_page fill at (inr more) is = let a = ap age_of at in let b = ap age_of is in omega arith

pub headers_once : (n size start : ℕ) (c between : Core) (exchanges : List Exchange) (event : Event) (answer : Answer)
    (after : Core) (f g page other_page fill : ℕ) → IsRingKept n size start c
    → link_into n c.links f ≡ header_link page fill → Run n size c exchanges between
    → Step n size between event answer after
    → link_into n between.links g ≢ header_link other_page fill
    → link_into n after.links g ≢ header_link other_page fill
headers_once n size start c between exchanges event answer after f g page other_page fill r at run step ne is =
    let r' = ring_run n size start c between exchanges r run in
    let set = headers_owed n size start between event answer after g other_page fill r' step ne is in
    let (here, page_is, position) = header_at n c r.links f page fill at in
    let (there, other_is, other_position) =
    header_at n after (ring_step n size start between event answer after r' step).links g other_page fill is in
    let same : f % n ≡ g % n = sym position ∙ ap (λ (k : ℕ). k % n) (sym here ∙ there) ∙ other_position in
    too_old (link_into n c.links f) (link_into n between.links f) page other_page fill at
    (raised_run n size start c between exchanges f r run) (same_position n between.links f g same ∙ set.waited)

-- ---- the UPDATE

claimed : (n : ℕ) (c : Core) (event : Event) (after : Core) (f page lost : ℕ) → LinkChange n c event after f
    → link_into n c.links f ≢ update_link page lost → link_into n after.links f ≡ update_link page lost
    → IsClaimed n c event after f page lost
claimed n c event after f page lost (stands_still same) ne is = absurd (ne (sym same ∙ is))
claimed n c event after f page lost (to_update p u by lose was now) ne is =
    let pages : p ≡ page = page_of (update_link p u) (update_link page lost) (sym now ∙ is) in
    let fills : u ≡ lost = fill_of (update_link p u) (update_link page lost) (sym now ∙ is) in
    let sum = lose.sum in let here = lose.here in let closed = lose.closed in let full = lose.full in record {
      by_frame = by;
      was_head = was ∙ (λ i. header_link (pages i) (fills i));
      lost_is = sym fills ∙ lose.here;
      closed = omega arith;
      full = omega arith;
      passed = lose.passed;
      top = lose.top;
      below = lose.below;
      is_top = lose.is_top;
      owns = lose.owns ∙ ap (λ (x : ℕ). Some (x + n)) fills;
    }
claimed n c event after f page lost (to_header p g was now head by) ne is =
    absurd (header_ne_update p g page lost (sym now ∙ is))
claimed n c event after f page lost (to_next frame below p u by top own set was now) ne is =
    absurd (normal_ne_update p (u + n) page lost (sym now ∙ is))
claimed n c event after f page lost (to_spare p other g was now) ne is =
    absurd (normal_ne_update other (g + n) page lost (sym now ∙ is))

pub updates_claimed : (n size start : ℕ) (c : Core) (event : Event) (answer : Answer) (after : Core) (f page lost : ℕ)
    → IsRingKept n size start c → Step n size c event answer after → link_into n c.links f ≢ update_link page lost
    → link_into n after.links f ≡ update_link page lost
    → IsClaimed n c event after f page lost
updates_claimed n size start c event answer after f page lost r step ne is =
    claimed n c event after f page lost (change_step n size c event answer after f r.links step) ne is

-- the head's link isn't NORMAL: so it is the HEADER
head_marked : (n : ℕ) (c : Core) (k : LinksKept n c)
    → ((seen : ℕ) → link_into n c.links c.head ≢ normal_link seen c.head)
    → LinkKept n c.links c.order c.head c.frames c.head
    → link_into n c.links c.head ≡ header_link (page_at n c.order c.head) c.head
head_marked n c k set (is_normal e owed) = absurd (set (page_at n c.order c.head) e)
head_marked n c k set (is_header e here) = e
head_marked n c k set (is_update lost sum e st) = let (u, u_sum, below, open_yet, at) = owned_by n c k c.head st in
    let unread = k.head_le in
    absurd (omega arith)

cleared : (n : ℕ) (c : Core) (event : Event) (after : Core) (f page lost : ℕ) → LinksKept n c
    → LinkChange n c event after f → link_into n c.links f ≡ update_link page lost
    → link_into n after.links f ≢ update_link page lost → IsCleared n c event after f page lost
cleared n c event after f page lost k (stands_still same) at ne = absurd (ne (same ∙ at))
cleared n c event after f page lost k (to_update p u by lose was now) at ne =
    absurd (header_ne_update p u page lost (sym was ∙ at))
cleared n c event after f page lost k (to_header p g was now head by) at ne =
    absurd (normal_ne_update p g page lost (sym was ∙ at))
cleared n c event after f page lost k (to_next frame below p u by top own set was now) at ne =
    let pages : p ≡ page = page_of (update_link p u) (update_link page lost) (sym was ∙ at) in
    let fills : u ≡ lost = fill_of (update_link p u) (update_link page lost) (sym was ∙ at) in
    let some_pages = k.some_pages in record {
      by_frame = by;
      top = frame;
      below = below;
      is_top = top;
      owns = own ∙ ap (λ (x : ℕ). Some (x + n)) fills;
      opens = now ∙ (λ i. normal_link (pages i) (fills i + n));
      lost_lt = (let low = set.0 in omega arith);
      header_set = λ next. head_marked n c k
          (λ seen e.
          set.1 seen
          (ap (link_into n c.links) (let x : suc u ≡ c.head = omega arith in x) ∙ e
          ∙ ap (normal_link seen) (let x : c.head ≡ suc u = omega arith in x)))
          (k.each c.head (omega arith) (omega arith));
    }
cleared n c event after f page lost k (to_spare p other g was now) at ne =
    absurd (header_ne_update p g page lost (sym was ∙ at))

pub owners_clear : (n size start : ℕ) (c : Core) (event : Event) (answer : Answer) (after : Core) (f page lost : ℕ)
    → IsRingKept n size start c → Step n size c event answer after → link_into n c.links f ≡ update_link page lost
    → link_into n after.links f ≢ update_link page lost
    → IsCleared n c event after f page lost
owners_clear n size start c event answer after f page lost r step at ne =
    cleared n c event after f page lost r.links (change_step n size c event answer after f r.links step) at ne
