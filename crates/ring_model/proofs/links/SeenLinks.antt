-- What a frame has seen of a link that it is about to set, in every state that steps reach.
use Rattle.std.proofs.Common.{◌≡◌, ◌≢◌, ℕ, suc, ◌+◌, ◌≤◌, ◌<◌, Bool, true, false, if◌then◌else◌, ◌==◌, List, [], ◌∷◌}
use Rattle.std.proofs.Common.{refl, sym, ap, ◌∙◌, subst, arith}
use mathlib.Core.Logic.{dite}
use native.Mathlib.Decide.{ℕ_discrete}
use Rattle.trace_model.specs.declared.limits.TheConstants.{MAX_PAGES}
use Rattle.trace_model.specs.Links.{Link, normal_link, header_link, update_link}
use Rattle.trace_model.specs.Frames.{Purpose, for_record, for_close, Progress, waiting, reserved, left, Role, owner}
use Rattle.trace_model.specs.Frames.{helper, Phase, idle, looking, claiming, looking_next, marking, clearing, opening}
use Rattle.trace_model.specs.Frames.{releasing, wishing, Frame}
use Rattle.trace_model.specs.Ring.{Core, link_into, page_at, links_with, ReaderPhase, loading_head, loading_done}
use Rattle.trace_model.specs.Ring.{storing_spare_link, swapping}
use Rattle.trace_model.specs.Steps.{Event, Answer, closing_phase, frames_after_leave, after_next, after_begin}
use Rattle.trace_model.specs.Steps.{with_new_tail, Exchange, Run}
use Rattle.trace_model.proofs.steps.StepCases.{StepCases, BeginsAgain, IdleStep, reserves, finds_nothing, is_crowded}
use Rattle.trace_model.proofs.steps.StepCases.{is_worn, notes, FrameStep, load_link_late, sees_free, sees_header}
use Rattle.trace_model.proofs.steps.StepCases.{sees_update, claim_late, claims, claim_fails, load_next_late}
use Rattle.trace_model.proofs.steps.StepCases.{sees_normal, sees_other, mark_late, marks, mark_fails, clears, open_late}
use Rattle.trace_model.proofs.steps.StepCases.{opens, releases, releases_last, grants, closes_more, goes_away, ReadStep}
use Rattle.trace_model.proofs.steps.StepCases.{loads_header, loads_update, loads_owed, loads_passed, finds_none}
use Rattle.trace_model.proofs.steps.StepCases.{finds_closed, swaps, swap_fails, push_step, push_refused, close_step}
use Rattle.trace_model.proofs.steps.StepCases.{close_refused, frame_step, frame_lacks, end_step, end_lacks, end_early}
use Rattle.trace_model.proofs.steps.StepCases.{read_step, store_wish_step}
use Rattle.trace_model.proofs.steps.StepSound.{cases_of}
use Rattle.ring_model.specs.KeptLinks.{PhaseKept, FramesKept, LinkKept, is_normal, is_header, is_update, LinksKept}
use Rattle.ring_model.specs.Reached.{IsReached}
use Rattle.ring_model.specs.SeenLinks.{HasSeenLink, HaveSeenLinks, FramesHaveSeenLinks}
use Rattle.ring_model.specs.WriterRanks.{ClaimsFailOnceTheHeadMoved}
use Rattle.ring_model.proofs.contents.PageChanges.{page_below}
use Rattle.ring_model.proofs.links.FramePhases.{after_set, normal_ne_header, header_ne_update}
use Rattle.ring_model.proofs.links.LinkFills.{fill_at}
use Rattle.ring_model.proofs.links.FrameChanges.{below_kept}
use Rattle.ring_model.proofs.partition.RingsKept.{reached_kept, reached_further}

-- ---- the same, whatever a word holds: the page that it saw is one of the ring's

abbrev Sees : (n : ℕ) → List Link → (head : ℕ) → Phase → Type 0
Sees n links head idle = Unit {0}
Sees n links head (looking noted) = Unit {0}
Sees n links head (claiming noted page) =
    (n ≤ noted) × (page < n + 1) × (noted ≡ head + n → link_into n links noted ≡ header_link page head)
Sees n links head (looking_next role noted page) = Unit {0}
Sees n links head (marking role noted page next) = next < n + 1
Sees n links head (clearing noted page) = Unit {0}
Sees n links head (opening noted page) = Unit {0}
Sees n links head releasing = Unit {0}
Sees n links head wishing = Unit {0}

abbrev AllSee : (n : ℕ) → List Link → (head : ℕ) → List Frame → Type 0
AllSee n links head [] = Unit {0}
AllSee n links head (frame ∷ below) = Sees n links head frame.phase × AllSee n links head below

abbrev FramesSee : ℕ → Core → Type 0
FramesSee n c = AllSee n c.links c.head c.frames

-- ---- what a step leaves of it

-- what was known of a fill's link at the head is known of other links, and another head
abbrev Holds : (n opened : ℕ) → List Link → List Link → (head head' : ℕ) → Type 0
Holds n opened links links' head head' =
    (noted page : ℕ) → noted ≤ opened → (noted ≡ head + n → link_into n links noted ≡ header_link page head)
    → noted ≡ head' + n → link_into n links' noted ≡ header_link page head'

module _ (n : ℕ) (links links' : List Link) (order : List ℕ) (head head' done opened : ℕ)
    (holds : Holds n opened links links' head head') where
  moved : (phase : Phase) → PhaseKept n links order head done opened phase → Sees n links head phase
      → Sees n links' head' phase
  moved idle kept sees = tt
  moved (looking noted) kept sees = tt
  moved (claiming noted page) kept (round, below, still) =
      (round, below, holds noted page (kept.noted noted refl).1 still)
  moved (looking_next role noted page) kept sees = tt
  moved (marking role noted page next) kept sees = sees
  moved (clearing noted page) kept sees = tt
  moved (opening noted page) kept sees = tt
  moved releasing kept sees = tt
  moved wishing kept sees = tt

  all_moved : (frames : List Frame) → FramesKept n links order head done opened frames → AllSee n links head frames
      → AllSee n links' head' frames
  all_moved [] kept all = tt
  all_moved (frame ∷ below) (facts, kept) (sees, all) = (moved frame.phase facts sees, all_moved below kept all)

-- the head goes on: it was at most a round of fills before the one to open
passes_head : (n : ℕ) (c : Core) (links' : List Link) → LinksKept n c
    → Holds n c.opened c.links links' c.head (c.head + 1)
passes_head n c links' k noted page begun still e = let within = k.opened_le in absurd (omega arith)

-- a link is set over one that is no HEADER
sets_other : (n : ℕ) (c : Core) (g : ℕ) (was new : Link) → link_into n c.links g ≡ was
    → ((page : ℕ) → was ≢ header_link page c.head) → Holds n c.opened c.links (links_with n c.links g new) c.head c.head
sets_other n c g was new at differ noted page begun still e =
    after_set n c.links g noted was new (header_link page c.head) at (differ page) (still e)

module _ (n : ℕ) (links : List Link) (head : ℕ) where
  closing_of : (last : Bool) → Sees n links head (if last then wishing else releasing)
  closing_of true = tt
  closing_of false = tt

  closing_sees : (c : Core) → Sees n links head (closing_phase c)
  closing_sees c = closing_of ((c.done + 1) == c.opened)

  passed_sees : (role : Role) (noted page : ℕ) → Sees n links head (after_next role noted page)
  passed_sees owner noted page = tt
  passed_sees helper noted page = tt

  left_sees : (c : Core) (frame : Frame) (below : List Frame) → AllSee n links head below
      → AllSee n links head (frames_after_leave c frame below)
  left_sees c frame [] all = (closing_sees c, tt)
  left_sees c frame (next ∷ below) all = all

begun_sees : (n : ℕ) (kind : Purpose) (state : Progress) (c : Core) (frame : Frame) (below : List Frame)
    → AllSee n c.links c.head below → FramesSee n (after_begin kind state c frame below)
begun_sees n (for_record moment len) waiting c frame below all = (tt, all)
begun_sees n for_close waiting c frame below all = left_sees n c.links c.head c frame below all
begun_sees n kind (reserved number) c frame below all = (tt, all)
begun_sees n kind left c frame below all = (closing_sees n c.links c.head c, all)

-- the state after the step has these frames
become : (n : ℕ) (after next : Core) → after ≡ next → FramesSee n next → FramesSee n after
become n after next is all = subst (FramesSee n) (sym is) all

-- ---- the steps

module _ (n : ℕ) (c : Core) (k : LinksKept n c) where
  page_seen : (f : ℕ) (l : Link) → link_into n c.links f ≡ l → l.page < n + 1
  page_seen f l at = let some = k.some_pages in let (g, low, high, same, kept) = fill_at n c k f in
      let below = page_below n c.order c.spare g (omega arith) k.apart in
      subst (λ (x : Link). x.page < n + 1) (same ∙ at) (page_reported g below kept)
    where
      page_reported : (g : ℕ) → page_at n c.order g < n + 1 → LinkKept n c.links c.order c.head c.frames g
          → (link_into n c.links g).page < n + 1
      page_reported g below (is_normal e owed) = subst (λ (x : Link). x.page < n + 1) (sym e) below
      page_reported g below (is_header e here) = subst (λ (x : Link). x.page < n + 1) (sym e) below
      page_reported g below (is_update lost sum e st) = subst (λ (x : Link). x.page < n + 1) (sym e) below

  module _ (size : ℕ) (frame : Frame) (below : List Frame) (top : c.frames ≡ frame ∷ below) (all : FramesSee n c)
      (answer : Answer) (after : Core) where
    rest : AllSee n c.links c.head below
    rest = (subst (AllSee n c.links c.head) top all).1

    rest_moved : (links' : List Link) (head' : ℕ) → Holds n c.opened c.links links' c.head head'
        → AllSee n links' head' below
    rest_moved links' head' holds =
        all_moved n c.links links' c.order c.head head' c.done c.opened holds below (below_kept n c frame below k top)
        rest

    idle_sees : (state : Progress) → IdleStep n size c frame below state answer after → FramesSee n after
    idle_sees waiting (reserves moment len r kind r_is fits a is) = become n after _ is (tt, rest)
    idle_sees waiting (finds_nothing kind none a is) =
        become n after _ is (left_sees n c.links c.head c frame below rest)
    idle_sees waiting (is_crowded needs full a is) = become n after _ is (left_sees n c.links c.head c frame below rest)
    idle_sees waiting (is_worn needs room last a is) =
        become n after _ is (left_sees n c.links c.head c frame below rest)
    idle_sees waiting (notes needs room small a is) = become n after _ is (tt, rest)
    idle_sees (reserved number) step = become n after c step.1 all
    idle_sees left step = absurd step

    again_sees : (noted : ℕ) → BeginsAgain c frame below noted answer after → FramesSee n after
    again_sees noted late = become n after _ late.after_is (begun_sees n frame.kind frame.state c frame below rest)

    frame_sees : (phase : Phase) → FrameStep n size c frame below phase answer after → FramesSee n after
    frame_sees idle step = idle_sees frame.state step
    frame_sees (looking noted) (load_link_late late) = again_sees noted late
    frame_sees (looking noted) (sees_free page x at a is) = become n after _ is (tt, rest)
    frame_sees (looking noted) (sees_header page lost x sum at a is) =
        become n after _ is (
          (
            omega arith,
            page_seen noted _ at,
            (λ e. at ∙ ap (header_link page) (let same : lost ≡ c.head = omega arith in same)),
          ),
          rest,
        )
    frame_sees (looking noted) (sees_update page lost x sum at a is) = become n after _ is (tt, rest)
    frame_sees (claiming noted page) (claim_late late) = again_sees noted late
    frame_sees (claiming noted page) (claims lost x sum at a is) =
        become n after _ is (tt, rest_moved _ (c.head + 1) (passes_head n c _ k))
    frame_sees (claiming noted page) (claim_fails x none a is) = become n after _ is (tt, rest)
    frame_sees (looking_next role noted page) (load_next_late helps late) = again_sees noted late
    frame_sees (looking_next role noted page) (sees_normal lost next on sum at a is) =
        become n after _ is (page_seen (suc lost) _ at, rest)
    frame_sees (looking_next role noted page) (sees_other lost on sum none a is) =
        become n after _ is (passed_sees n c.links c.head role noted page, rest)
    frame_sees (marking role noted page next) (mark_late helps late) = again_sees noted late
    frame_sees (marking role noted page next) (marks lost on sum at a is) =
        let new : Link = header_link next (suc lost) in
        become n after _ is (
          passed_sees n (links_with n c.links (suc lost) new) c.head role noted page,
          rest_moved (links_with n c.links (suc lost) new) c.head
              (sets_other n c (suc lost) (normal_link next (suc lost)) new at
              (λ p. normal_ne_header next (suc lost) p c.head)),
        )
    frame_sees (marking role noted page next) (mark_fails lost on sum differ a is) =
        become n after _ is (passed_sees n c.links c.head role noted page, rest)
    frame_sees (clearing noted page) (clears lost sum at a is) =
        let new : Link = normal_link page noted in
        become n after _ is (
          tt,
          rest_moved (links_with n c.links noted new) c.head
              (sets_other n c noted (update_link page lost) new at
              (λ p e. header_ne_update p c.head page lost (sym e))),
        )
    frame_sees (opening noted page) (open_late late) = again_sees noted late
    frame_sees (opening noted page) (opens now a is) =
        become n after _ is (begun_sees n frame.kind frame.state (with_new_tail c page) frame below rest)
    frame_sees releasing (releases alone more a is) = become n after _ is all
    frame_sees releasing (releases_last alone last a is) = become n after _ is (tt, rest)
    frame_sees wishing (grants alone granted a is) = become n after _ is (tt, rest)
    frame_sees wishing (closes_more alone denied more a is) = become n after _ is (tt, rest)
    frame_sees wishing (goes_away alone denied last a is) = become n after _ is tt

  read_sees : (phase : ReaderPhase) (answer : Answer) (after : Core) → FramesSee n c → ReadStep n c phase answer after
      → FramesSee n after
  read_sees loading_head answer after all (loads_header page fill at a is) = become n after _ is all
  read_sees loading_head answer after all (loads_update page lost at a is) = become n after _ is all
  read_sees loading_head answer after all (loads_owed page at a is) = become n after _ is all
  read_sees loading_head answer after all (loads_passed page fill least at more sum a is) = become n after _ is all
  read_sees (loading_done page fill) answer after all (finds_none le a is) = become n after _ is all
  read_sees (loading_done page fill) answer after all (finds_closed below a is) = become n after _ is all
  read_sees (storing_spare_link page fill) answer after all step = become n after _ step.after_is all
  read_sees (swapping page fill) answer after all (swaps at a is) =
      become n after _ is
      (all_moved n c.links _ c.order c.head (c.head + 1) c.done c.opened (passes_head n c _ k) c.frames k.frames
      all)
  read_sees (swapping page fill) answer after all (swap_fails at a is) = become n after _ is all

  step_sees : (size : ℕ) (event : Event) (answer : Answer) (after : Core) → FramesSee n c
      → StepCases n size c event answer after → FramesSee n after
  step_sees size event answer after all (push_step moment len e few short early a is) = become n after _ is (tt, all)
  step_sees size event answer after all (push_refused moment len why e refused a is) = become n after c is all
  step_sees size event answer after all (close_step e few a is) = become n after _ is (tt, all)
  step_sees size event answer after all (close_refused e many a is) = become n after c is all
  step_sees size event answer after all (frame_step frame below e top step) =
      frame_sees size frame below top all answer after frame.phase step
  step_sees size event answer after all (frame_lacks e none a is) = become n after c is all
  step_sees size event answer after all (end_step payload frame below number moment len e top at kind size_is a is) =
      become n after _ is (left_sees n c.links c.head c frame below (rest size frame below top all answer after))
  step_sees size event answer after all (end_lacks payload e none a is) = become n after c is all
  step_sees size event answer after all (end_early payload frame below e top none a is) = become n after c is all
  step_sees size event answer after all (read_step e step) = read_sees c.reader.phase answer after all step
  step_sees size event answer after all (store_wish_step e a is) = become n after _ is all

run_sees : (n size start : ℕ) (before after : Core) (exchanges : List Exchange) → IsReached n size start before
    → FramesSee n before → Run n size before exchanges after → FramesSee n after
run_sees n size start before after [] reached all run = subst (FramesSee n) run all
run_sees n size start before after (x ∷ exchanges) reached all (between, step, run) =
    run_sees n size start between after exchanges
    (reached_further n size start before x.event x.answer between reached step)
    (step_sees n before (reached_kept n size start before reached).links size x.event x.answer between all
    (cases_of step)) run

reached_sees : (n size start : ℕ) (c : Core) → IsReached n size start c → FramesSee n c
reached_sees n size start c r =
    run_sees n size start r.from c r.exchanges
    record { from = r.from; exchanges = []; may_start = r.may_start; is_new = r.is_new; run = refl }
    (subst (AllSee n r.from.links r.from.head) (sym r.is_new.frames) tt) r.run

-- ---- the laws

pub claims_fail_once_the_head_moved : ClaimsFailOnceTheHeadMoved
claims_fail_once_the_head_moved n size start c frame below noted page lost reached top at now sum other =
    let (round, page_is, still) =
    subst (Sees n c.links c.head) at
    (subst (AllSee n c.links c.head) top (reached_sees n size start c reached)).0 in
    let k = (reached_kept n size start c reached).links in let within = k.opened_le in
    dite (ℕ_discrete lost c.head)
    (λ e. absurd (other (still (omega arith) ∙ ap (header_link page) (sym e))))
    (λ ne. omega arith)

module _ (n : ℕ) (links : List Link) (head : ℕ) (few : n ≤ MAX_PAGES) where
  has_seen : (phase : Phase) → Sees n links head phase → HasSeenLink n links head phase
  has_seen idle sees = tt
  has_seen (looking noted) sees = tt
  has_seen (claiming noted page) (round, below, still) = (round, omega arith, still)
  has_seen (looking_next role noted page) sees = tt
  has_seen (marking role noted page next) sees = omega arith
  has_seen (clearing noted page) sees = tt
  has_seen (opening noted page) sees = tt
  has_seen releasing sees = tt
  has_seen wishing sees = tt

  have_seen : (frames : List Frame) → AllSee n links head frames → HaveSeenLinks n links head frames
  have_seen [] all = tt
  have_seen (frame ∷ below) (sees, all) = (has_seen frame.phase sees, have_seen below all)

pub frames_have_seen_links : FramesHaveSeenLinks
frames_have_seen_links n size start c few reached =
    have_seen n c.links c.head few c.frames (reached_sees n size start c reached)
