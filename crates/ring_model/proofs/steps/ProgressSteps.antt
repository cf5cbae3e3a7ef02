-- Each step keeps what makes that there is a next one: a frame that begins a fill has seen the head's HEADER set.
use Rattle.std.proofs.Common.{◌≡◌, ◌≢◌, ℕ, suc, ◌+◌, ◌%◌, ◌<◌, ◌≤◌, List, [], ◌∷◌, length, Option, Some, None, refl}
use Rattle.std.proofs.Common.{sym, ap, ◌∙◌, subst, arith, length-set}
use Rattle.std.specs.Prelude.{◌==◌}
use Rattle.std.proofs.lemmas.Bool.{cond_both}
use mathlib.Core.Logic.{dite}
use native.Mathlib.Decide.{ℕ_discrete}
use Rattle.trace_model.specs.Links.{Link, normal_link, header_link, update_link}
use Rattle.trace_model.specs.Frames.{Purpose, for_record, for_close, Progress, waiting, reserved, left, Role, owner}
use Rattle.trace_model.specs.Frames.{helper, Phase, idle, looking, claiming, looking_next, marking, clearing, opening}
use Rattle.trace_model.specs.Frames.{releasing, wishing, Frame}
use Rattle.trace_model.specs.Ring.{ReaderPhase, loading_head, loading_done, storing_spare_link, swapping, Core, IsStart}
use Rattle.trace_model.specs.Ring.{link_into, links_with, page_at}
use Rattle.trace_model.specs.Steps.{Event, Answer, in_phase, closing_phase, after_leave, after_begin, with_new_tail}
use Rattle.trace_model.specs.Steps.{after_next}
use Rattle.trace_model.proofs.steps.StepCases.{StepCases, BeginsAgain, ReserveStep, reserves, finds_nothing, is_crowded}
use Rattle.trace_model.proofs.steps.StepCases.{is_worn, notes, LoadLinkStep, load_link_late, sees_free, sees_header}
use Rattle.trace_model.proofs.steps.StepCases.{sees_update, ClaimHeadStep, claim_late, claims, claim_fails}
use Rattle.trace_model.proofs.steps.StepCases.{LoadNextStep, load_next_late, sees_normal, sees_other, MarkHeadStep}
use Rattle.trace_model.proofs.steps.StepCases.{mark_late, marks, mark_fails, ClearUpdateStep, clears, OpenFillStep}
use Rattle.trace_model.proofs.steps.StepCases.{open_late, opens, ReleaseFillStep, releases, releases_last, LoadWishStep}
use Rattle.trace_model.proofs.steps.StepCases.{grants, closes_more, goes_away, IdleStep, FrameStep, LoadHeadStep}
use Rattle.trace_model.proofs.steps.StepCases.{loads_header, loads_update, loads_owed, loads_passed, LoadDoneStep}
use Rattle.trace_model.proofs.steps.StepCases.{finds_none, finds_closed, SwapHeadStep, swaps, swap_fails, ReadStep}
use Rattle.trace_model.proofs.steps.StepCases.{push_step, push_refused, close_step, close_refused, frame_step}
use Rattle.trace_model.proofs.steps.StepCases.{frame_lacks, end_step, end_lacks, end_early, read_step, store_wish_step}
use Rattle.ring_model.specs.KeptLinks.{PhaseKept, LinkKept, is_normal, is_header, is_update, ReaderKept, LinksKept}
use Rattle.ring_model.specs.KeptProgress.{IsMarked, PhaseAdvances, FramesAdvance, ProgressKept}
use Rattle.trace_model.proofs.Positions.{link_here}
use Rattle.ring_model.proofs.links.FramePhases.{normal_ne_header, normal_ne_update, before_set}
use Rattle.ring_model.proofs.links.LinkFills.{header_reports, owned_by, normal_inside, header_inside, next_inside}
use Rattle.ring_model.proofs.links.LinkFills.{fill_at}
use Rattle.ring_model.proofs.links.FrameChanges.{top_kept}

-- ---- a link is set

marked_still : (n : ℕ) (links : List Link) (head head' g lost : ℕ) (new : Link) → 1 ≤ n → length links ≡ n
    → head ≤ head' → ((seen u : ℕ) → u < head → new ≢ normal_link seen (suc u)) → IsMarked n links head lost
    → IsMarked n (links_with n links g new) head' lost
marked_still n links head head' g lost new some wide le fresh (below, set) = (
  omega arith,
  λ seen at.
      set seen
      (before_set n links g (suc lost) new (normal_link seen (suc lost)) some wide (fresh seen lost below)
      at),
)

module _ (n : ℕ) (links : List Link) (head head' g : ℕ) (new : Link) (some : 1 ≤ n) (wide : length links ≡ n)
    (le : head ≤ head') (fresh : (seen u : ℕ) → u < head → new ≢ normal_link seen (suc u)) where
  phase_advances : (phase : Phase) → PhaseAdvances n links head phase
      → PhaseAdvances n (links_with n links g new) head' phase
  phase_advances idle r = tt
  phase_advances (looking o) r = tt
  phase_advances (claiming o page) r = tt
  phase_advances (looking_next role o page) r = r
  phase_advances (marking role o page next) r = r
  phase_advances (clearing o page) r = tt
  phase_advances (opening o page) r =
      λ lost sum. marked_still n links head head' g lost new some wide le fresh (r lost sum)
  phase_advances releasing r = tt
  phase_advances wishing r = tt

  frames_advance : (frames : List Frame) → FramesAdvance n links head frames
      → FramesAdvance n (links_with n links g new) head' frames
  frames_advance [] r = tt
  frames_advance (frame ∷ below) r = (phase_advances frame.phase r.0, frames_advance below r.1)

-- ---- the steps of a frame

module _ (n size : ℕ) (c : Core) (frame : Frame) (below : List Frame) (k : LinksKept n c) (r : ProgressKept n c)
    (top : c.frames ≡ frame ∷ below) where
  top_advances : PhaseAdvances n c.links c.head frame.phase
  top_advances = (subst (FramesAdvance n c.links c.head) top r.advance).0

  below_advances : FramesAdvance n c.links c.head below
  below_advances = (subst (FramesAdvance n c.links c.head) top r.advance).1

  advances_in : (phase : Phase) → frame.phase ≡ phase → PhaseAdvances n c.links c.head phase
  advances_in phase same = subst (PhaseAdvances n c.links c.head) same top_advances

  kept_in : (phase : Phase) → frame.phase ≡ phase → PhaseKept n c.links c.order c.head c.done c.opened phase
  kept_in phase same = subst (PhaseKept n c.links c.order c.head c.done c.opened) same (top_kept n c frame below k top)

  goes : (after : Core) (phase : Phase) → PhaseAdvances n c.links c.head phase → after ≡ in_phase c frame below phase
      → ProgressKept n after
  goes after phase facts is =
      subst (ProgressKept n) (sym is) record { room = r.room; advance = (facts, below_advances) }

abbrev Room : ℕ → Core → Type 0
Room n c = (seen : ℕ) → link_into n c.links c.head ≡ normal_link seen c.head → c.opened < c.head + n

-- a frame that has left, and closes fills or looks for a wish
closing_advances : (n : ℕ) (c : Core) → PhaseAdvances n c.links c.head (closing_phase c)
closing_advances n c =
    cond_both ((c.done + 1) == c.opened) wishing releasing (PhaseAdvances n c.links c.head) (λ _. tt) (λ _. tt)

leave_advances : (n : ℕ) (c : Core) (frame : Frame) (below : List Frame) (payload : Option (List ℕ)) → Room n c
    → FramesAdvance n c.links c.head below → ProgressKept n (after_leave c frame below payload)
leave_advances n c frame [] payload room stack = record { room = room; advance = (closing_advances n c, tt) }
leave_advances n c frame (next ∷ below) payload room stack = record { room = room; advance = stack }

pub after_begin_advances : (n : ℕ) (c : Core) (kind : Purpose) (state : Progress) (frame : Frame) (below : List Frame)
    → Room n c → FramesAdvance n c.links c.head below → ProgressKept n (after_begin kind state c frame below)
after_begin_advances n c (for_record moment len) waiting frame below room stack =
    record { room = room; advance = (tt, stack) }
after_begin_advances n c for_close waiting frame below room stack = leave_advances n c frame below None room stack
after_begin_advances n c kind (reserved number) frame below room stack = record { room = room; advance = (tt, stack) }
after_begin_advances n c kind left frame below room stack =
    record { room = room; advance = (closing_advances n c, stack) }

-- A free position that a frame sees: it isn't one whose UPDATE is still set.
pub free_marked : (n : ℕ) (c : Core) (noted page lost : ℕ) → LinksKept n c → noted ≡ c.opened
    → link_into n c.links noted ≡ normal_link page noted → lost + n ≡ noted → IsMarked n c.links c.head lost
free_marked n c noted page lost k now at sum =
    let unread = k.head_le in let behind = k.done_lt in let within = k.opened_le in
    let inside = normal_inside n c k noted page (omega arith) (omega arith) at in (
      omega arith,
      λ seen is. let (here, page_is) = next_inside n c k lost seen (omega arith) (omega arith) is in
          owed (k.each c.head (omega arith) (omega arith)) here (ap (link_into n c.links) (sym here) ∙ is),
    )
  where
    owed : LinkKept n c.links c.order c.head c.frames c.head → suc lost ≡ c.head → {seen : ℕ}
        → link_into n c.links c.head ≡ normal_link seen (suc lost) → ⊥
    owed (is_normal e waits) here {seen = seen} is = let (u, next, st) = waits refl in
        let (v, v_sum, below, open_yet, there) = owned_by n c k (u + n) st in
        normal_ne_update page noted (page_at n c.order (u + n)) v
        (sym at ∙ ap (link_into n c.links) (let e' : noted ≡ u + n = omega arith in e') ∙ there)
    owed (is_header e it) here {seen = seen} is =
        normal_ne_header seen (suc lost) (page_at n c.order c.head) c.head (sym is ∙ e)
    owed (is_update u u_sum e st) here {seen = seen} is =
        normal_ne_update seen (suc lost) (page_at n c.order c.head) u (sym is ∙ e)

module _ (n size : ℕ) (c : Core) (frame : Frame) (below : List Frame) (k : LinksKept n c) (r : ProgressKept n c)
    (top : c.frames ≡ frame ∷ below) where
  leaves : (after : Core) (payload : Option (List ℕ)) → after ≡ after_leave c frame below payload → ProgressKept n after
  leaves after payload is =
      subst (ProgressKept n) (sym is)
      (leave_advances n c frame below payload r.room (below_advances n size c frame below k r top))

  again : (noted : ℕ) (answer : Answer) (after : Core) → BeginsAgain c frame below noted answer after
      → ProgressKept n after
  again noted answer after step =
      subst (ProgressKept n) (sym step.after_is)
      (after_begin_advances n c frame.kind frame.state frame below r.room
      (below_advances n size c frame below k r top))

  on : (after : Core) (phase : Phase) → PhaseAdvances n c.links c.head phase → after ≡ in_phase c frame below phase
      → ProgressKept n after
  on after phase facts is = goes n size c frame below k r top after phase facts is

  reserve_advances : (answer : Answer) (after : Core) → ReserveStep n size c frame below answer after
      → ProgressKept n after
  reserve_advances answer after (reserves moment len res kind r_is fits a is) =
      subst (ProgressKept n) (sym is)
      record { room = r.room; advance = (tt, below_advances n size c frame below k r top) }
  reserve_advances answer after (finds_nothing kind none a is) = leaves after None is
  reserve_advances answer after (is_crowded needs full a is) = leaves after None is
  reserve_advances answer after (is_worn needs full last a is) = leaves after None is
  reserve_advances answer after (notes needs room small a is) = on after (looking c.opened) tt is

  load_link_advances : (noted : ℕ) (answer : Answer) (after : Core) → LoadLinkStep n c frame below noted answer after
      → ProgressKept n after
  load_link_advances noted answer after (load_link_late step) = again noted answer after step
  load_link_advances noted answer after (sees_free page now at a is) =
      on after (opening noted page) (λ lost sum. free_marked n c noted page lost k now at sum) is
  load_link_advances noted answer after (sees_header page lost now sum at a is) = on after (claiming noted page) tt is
  load_link_advances noted answer after (sees_update page lost now sum at a is) =
      on after (looking_next helper noted page) (omega arith) is

  claim_head_advances : (noted page : ℕ) (answer : Answer) (after : Core)
      → ClaimHeadStep n c frame below noted page answer after → ProgressKept n after
  claim_head_advances noted page answer after (claim_late step) = again noted answer after step
  claim_head_advances noted page answer after (claims lost now sum at a is) =
      let some_pages = k.some_pages in let unread = k.head_le in let behind = k.done_lt in let within = k.opened_le in
      let (here, page_is, head_at) = header_inside n c k noted page lost (omega arith) (omega arith) sum at in
      subst (ProgressKept n) (sym is) record {
        room = λ seen it. omega arith;
        advance = (
          (let turn : n ≤ noted = omega arith in turn),
          frames_advance n c.links c.head (c.head + 1) noted (update_link page lost) (omega arith) k.positions
              (omega arith) (λ seen u low e. normal_ne_update seen (suc u) page lost (sym e)) below
              (below_advances n size c frame below k r top),
        );
      }
  claim_head_advances noted page answer after (claim_fails now other a is) = on after (looking noted) tt is

  passes : (links : List Link) (role : Role) (noted page lost : ℕ) → lost + n ≡ noted → IsMarked n links c.head lost
      → PhaseAdvances n links c.head (after_next role noted page)
  passes links owner noted page lost sum set = tt
  passes links helper noted page lost sum set =
      λ u u_sum. subst (IsMarked n links c.head) (let e : lost ≡ u = omega arith in e) set

  load_next_advances : (role : Role) (noted page : ℕ) (answer : Answer) (after : Core)
      → frame.phase ≡ looking_next role noted page → LoadNextStep n c frame below role noted page answer after
      → ProgressKept n after
  load_next_advances role noted page answer after same (load_next_late helps step) = again noted answer after step
  load_next_advances role noted page answer after same (sees_normal lost next goes_on sum at a is) =
      on after (marking role noted page next) (omega arith) is
  load_next_advances role noted page answer after same (sees_other lost goes_on sum other a is) =
      let passed = (kept_in n size c frame below k r top (looking_next role noted page) same).passed noted page refl in
      let inside = passed.1 in
      on after (after_next role noted page) (passes c.links role noted page lost sum (omega arith, other)) is

  mark_head_advances : (role : Role) (noted page next : ℕ) (answer : Answer) (after : Core)
      → frame.phase ≡ marking role noted page next → MarkHeadStep n c frame below role noted page next answer after
      → ProgressKept n after
  mark_head_advances role noted page next answer after same (mark_late helps step) = again noted answer after step
  mark_head_advances role noted page next answer after same (marks lost goes_on sum at a is) =
      let some_pages = k.some_pages in
      let passed = (kept_in n size c frame below k r top (marking role noted page next) same).passed noted page refl in
      let inside = passed.1 in
      let new : Link = header_link next (suc lost) in
      let links : List Link = links_with n c.links (suc lost) new in
      subst (ProgressKept n) (sym is) record {
        room =
            λ seen it.
            r.room seen
            (before_set n c.links (suc lost) c.head new (normal_link seen c.head) (omega arith) k.positions
            (λ e. normal_ne_header seen c.head next (suc lost) (sym e)) it);
        advance = (
          passes links role noted page lost sum (
            omega arith,
            λ seen it.
                normal_ne_header seen (suc lost) next (suc lost)
                (sym it ∙ link_here n c.links (suc lost) new (omega arith) k.positions),
          ),
          frames_advance n c.links c.head c.head (suc lost) new (omega arith) k.positions (omega arith)
              (λ seen u low e. normal_ne_header seen (suc u) next (suc lost) (sym e)) below
              (below_advances n size c frame below k r top),
        );
      }
  mark_head_advances role noted page next answer after same (mark_fails lost goes_on sum other a is) =
      let waits =
      (kept_in n size c frame below k r top (marking role noted page next) same).marks noted next lost refl sum in
      on after (after_next role noted page)
      (passes c.links role noted page lost sum
      (waits.0, λ seen at. other (at ∙ ap (λ (p : ℕ). normal_link p (suc lost)) (sym (waits.1 seen at))))) is

  clear_update_advances : (noted page : ℕ) (answer : Answer) (after : Core) → frame.phase ≡ clearing noted page
      → ClearUpdateStep n c frame below noted page answer after → ProgressKept n after
  clear_update_advances noted page answer after same (clears lost sum at a is) =
      let some_pages = k.some_pages in let unread = k.head_le in
      let kept = kept_in n size c frame below k r top (clearing noted page) same in
      let open_yet = (kept.passed noted page refl).0 in
      let new : Link = normal_link page noted in
      let fresh =
      λ (seen u : ℕ) (low : u < c.head) (e : new ≡ normal_link seen (suc u)). let fills : noted ≡ suc u =
      ap (λ (l : Link). l.fill) e in
      let none : ⊥ = omega arith in
      none in
      subst (ProgressKept n) (sym is) record {
        room =
            λ seen it.
            r.room seen
            (before_set n c.links noted c.head new (normal_link seen c.head) (omega arith) k.positions
            (λ e. let fills : noted ≡ c.head = ap (λ (l : Link). l.fill) e in omega arith) it);
        advance = (
          (λ u u_sum.
              marked_still n c.links c.head c.head noted u new (omega arith) k.positions (omega arith) fresh
              (kept.clears noted u refl u_sum)),
          frames_advance n c.links c.head c.head noted new (omega arith) k.positions (omega arith) fresh below
              (below_advances n size c frame below k r top),
        );
      }

  open_fill_advances : (noted page : ℕ) (answer : Answer) (after : Core) → frame.phase ≡ opening noted page
      → OpenFillStep n c frame below noted page answer after → ProgressKept n after
  open_fill_advances noted page answer after same (open_late step) = again noted answer after step
  open_fill_advances noted page answer after same (opens now a is) =
      subst (ProgressKept n) (sym is)
      (after_begin_advances n (with_new_tail c page) frame.kind frame.state frame below
      (λ seen at. more seen at (k.each c.head (omega arith) (let some_pages = k.some_pages in omega arith)))
      (below_advances n size c frame below k r top))
    where
      more : (seen : ℕ) → link_into n c.links c.head ≡ normal_link seen c.head
          → LinkKept n c.links c.order c.head c.frames c.head → c.opened + 1 < c.head + n
      more seen at (is_normal e waits) = let (lost, next, st) = waits refl in
          let room = r.room seen at in
          dite (ℕ_discrete (lost + n) noted)
          (λ sum.
          absurd ((advances_in n size c frame below k r top (opening noted page) same lost sum).1 seen
          (ap (link_into n c.links) next ∙ at ∙ ap (normal_link seen) (sym next))))
          (λ ne. omega arith)
      more seen at (is_header e here) =
          absurd (normal_ne_header seen c.head (page_at n c.order c.head) c.head (sym at ∙ e))
      more seen at (is_update lost sum e st) =
          absurd (normal_ne_update seen c.head (page_at n c.order c.head) lost (sym at ∙ e))

  release_fill_advances : (answer : Answer) (after : Core) → ReleaseFillStep c frame below answer after
      → ProgressKept n after
  release_fill_advances answer after (releases alone more a is) =
      subst (ProgressKept n) (sym is) record { room = r.room; advance = r.advance }
  release_fill_advances answer after (releases_last alone last a is) =
      subst (ProgressKept n) (sym is)
      record { room = r.room; advance = (tt, below_advances n size c frame below k r top) }

  load_wish_advances : (answer : Answer) (after : Core) → LoadWishStep n c frame below answer after
      → ProgressKept n after
  load_wish_advances answer after (grants alone granted a is) =
      subst (ProgressKept n) (sym is)
      record { room = r.room; advance = (tt, below_advances n size c frame below k r top) }
  load_wish_advances answer after (closes_more alone denied more a is) = on after releasing tt is
  load_wish_advances answer after (goes_away alone denied none_left a is) =
      subst (ProgressKept n) (sym is) record { room = r.room; advance = tt }

  idle_advances : (state : Progress) (answer : Answer) (after : Core) → IdleStep n size c frame below state answer after
      → ProgressKept n after
  idle_advances waiting answer after step = reserve_advances answer after step
  idle_advances (reserved number) answer after step = subst (ProgressKept n) (sym step.1) r
  idle_advances left answer after step = absurd step

  frame_advances : (phase : Phase) (answer : Answer) (after : Core) → frame.phase ≡ phase
      → FrameStep n size c frame below phase answer after → ProgressKept n after
  frame_advances idle answer after same step = idle_advances frame.state answer after step
  frame_advances (looking noted) answer after same step = load_link_advances noted answer after step
  frame_advances (claiming noted page) answer after same step = claim_head_advances noted page answer after step
  frame_advances (looking_next role noted page) answer after same step =
      load_next_advances role noted page answer after same step
  frame_advances (marking role noted page next) answer after same step =
      mark_head_advances role noted page next answer after same step
  frame_advances (clearing noted page) answer after same step = clear_update_advances noted page answer after same step
  frame_advances (opening noted page) answer after same step = open_fill_advances noted page answer after same step
  frame_advances releasing answer after same step = release_fill_advances answer after step
  frame_advances wishing answer after same step = load_wish_advances answer after step

-- ---- the steps of the reader

module _ (n : ℕ) (c : Core) (k : LinksKept n c) (r : ProgressKept n c) where
  load_head_advances : (answer : Answer) (after : Core) → LoadHeadStep n c answer after → ProgressKept n after
  load_head_advances answer after (loads_header page fill l a is) = subst (ProgressKept n) (sym is) r
  load_head_advances answer after (loads_update page lost l a is) = subst (ProgressKept n) (sym is) r
  load_head_advances answer after (loads_owed page l a is) = subst (ProgressKept n) (sym is) r
  load_head_advances answer after (loads_passed page fill least l more sum a is) = subst (ProgressKept n) (sym is) r

  load_done_advances : (page fill : ℕ) (answer : Answer) (after : Core) → LoadDoneStep c page fill answer after
      → ProgressKept n after
  load_done_advances page fill answer after (finds_none le a is) = subst (ProgressKept n) (sym is) r
  load_done_advances page fill answer after (finds_closed closed a is) = subst (ProgressKept n) (sym is) r

  swap_head_advances : (page fill : ℕ) (answer : Answer) (after : Core)
      → c.spare_link ≡ header_link (page_at n c.order (suc fill)) (suc fill) → SwapHeadStep n c page fill answer after
      → ProgressKept n after
  swap_head_advances page fill answer after ready (swap_fails l a is) = subst (ProgressKept n) (sym is) r
  swap_head_advances page fill answer after ready (swaps l a is) =
      let some_pages = k.some_pages in
      let (g, low, high, same, link) = fill_at n c k fill in
      let reported = header_reports n c.links c.order c.head c.frames g page fill link (same ∙ l) in
      let here : fill ≡ c.head = reported.0 ∙ reported.1 in
      let first : Link = normal_link c.spare (fill + n) in
      let once : List Link = links_with n c.links fill first in
      let once_wide : length once ≡ n = length-set c.links _ first ∙ k.positions in
      let next : ℕ = page_at n c.order (suc fill) in
      subst (ProgressKept n) (sym is) record {
        room =
            λ seen it.
            absurd
            (normal_ne_header seen (c.head + 1) next (suc fill)
            (sym it
            ∙ ap (link_into n (links_with n once (suc fill) c.spare_link))
            (let e : c.head + 1 ≡ suc fill = omega arith in e)
            ∙ link_here n once (suc fill) c.spare_link (omega arith) once_wide ∙ ready));
        advance =
            frames_advance n once c.head (c.head + 1) (suc fill) c.spare_link (omega arith) once_wide (omega arith)
            (λ seen u low_u e. normal_ne_header seen (suc u) next (suc fill) (sym e ∙ ready)) c.frames
            (frames_advance n c.links c.head c.head fill first (omega arith) k.positions (omega arith)
            (λ seen u low_u e. let fills : fill + n ≡ suc u = ap (λ (x : Link). x.fill) e in omega arith) c.frames
            r.advance);
      }

  read_advances : (phase : ReaderPhase) (answer : Answer) (after : Core)
      → ReaderKept n c.links c.order c.spare_link c.head c.done c.reader.hint phase → ReadStep n c phase answer after
      → ProgressKept n after
  read_advances loading_head answer after facts step = load_head_advances answer after step
  read_advances (loading_done page fill) answer after facts step = load_done_advances page fill answer after step
  read_advances (storing_spare_link page fill) answer after facts step = subst (ProgressKept n) (sym step.after_is) r
  read_advances (swapping page fill) answer after facts step = swap_head_advances page fill answer after facts.2 step

-- ---- the whole

pub progress_step : (n size : ℕ) (c : Core) (event : Event) (answer : Answer) (after : Core) → LinksKept n c
    → ProgressKept n c → StepCases n size c event answer after → ProgressKept n after
progress_step n size c event answer after k r (push_step moment len e few short early a is) =
    subst (ProgressKept n) (sym is) record { room = r.room; advance = (tt, r.advance) }
progress_step n size c event answer after k r (push_refused moment len why e refused a is) =
    subst (ProgressKept n) (sym is) r
progress_step n size c event answer after k r (close_step e few a is) =
    subst (ProgressKept n) (sym is) record { room = r.room; advance = (tt, r.advance) }
progress_step n size c event answer after k r (close_refused e many a is) = subst (ProgressKept n) (sym is) r
progress_step n size c event answer after k r (frame_step frame below e top step) =
    frame_advances n size c frame below k r top frame.phase answer after refl step
progress_step n size c event answer after k r (frame_lacks e none a is) = subst (ProgressKept n) (sym is) r
progress_step n size c event answer after k r
    (end_step payload frame below number moment len e top at kind size_is a is) =
    leaves n size c frame below k r top after (Some payload) is
progress_step n size c event answer after k r (end_lacks payload e none a is) = subst (ProgressKept n) (sym is) r
progress_step n size c event answer after k r (end_early payload frame below e top none a is) =
    subst (ProgressKept n) (sym is) r
progress_step n size c event answer after k r (read_step e step) =
    read_advances n c k r c.reader.phase answer after k.reader step
progress_step n size c event answer after k r (store_wish_step e a is) = subst (ProgressKept n) (sym is) r

pub progress_start : (n start : ℕ) (c : Core) → IsStart n start c → ProgressKept n c
progress_start n start c s = record {
  room =
      λ seen at.
      absurd
      (normal_ne_header seen c.head (start % n) start
      (sym at ∙ ap (link_into n c.links) s.head ∙ s.first_link));
  advance = subst (FramesAdvance n c.links c.head) (sym s.frames) tt;
}
