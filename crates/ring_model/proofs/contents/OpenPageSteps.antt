-- Each step keeps the writer's pages: those of the fills that are begun and not closed, the oldest first.
use Rattle.std.proofs.Common.{◌≡◌, ℕ, ◌+◌, ◌-◌, ◌%◌, ◌<◌, ◌≤◌, List, [], ◌∷◌, ◌++◌, length, get_or, drop, set, refl}
use Rattle.std.proofs.Common.{sym, ap, ◌∙◌, subst, arith, length-append, length-drop}
use Rattle.std.proofs.lemmas.Grind.{get_or_after_one}
use Rattle.std.proofs.Math.ListN.{get_or-append}
use Rattle.std.proofs.Math.Seq.{get_or-append_seam}
use mathlib.Core.Logic.{dite}
use native.Mathlib.Decide.{ℕ_discrete}
use Rattle.trace_model.specs.Frames.{Purpose, for_record, for_close, Progress, waiting, reserved, left, Phase, idle}
use Rattle.trace_model.specs.Frames.{looking, claiming, looking_next, marking, clearing, opening, releasing, wishing}
use Rattle.trace_model.specs.Frames.{Frame}
use Rattle.trace_model.specs.Ring.{ReaderPhase, loading_head, loading_done, storing_spare_link, swapping, Core, page_at}
use Rattle.trace_model.specs.Steps.{Event, Answer, tail_page, with_new_tail, after_begin, after_swap}
use Rattle.trace_model.proofs.steps.StepCases.{StepCases, BeginsAgain, IdleStep, ReserveStep, reserves, finds_nothing}
use Rattle.trace_model.proofs.steps.StepCases.{is_crowded, is_worn, notes, load_link_late, sees_free, sees_header}
use Rattle.trace_model.proofs.steps.StepCases.{sees_update, claim_late, claims, claim_fails, load_next_late}
use Rattle.trace_model.proofs.steps.StepCases.{sees_normal, sees_other, mark_late, marks, mark_fails, clears, open_late}
use Rattle.trace_model.proofs.steps.StepCases.{opens, releases, releases_last, grants, closes_more, goes_away}
use Rattle.trace_model.proofs.steps.StepCases.{FrameStep, push_step, push_refused, close_step, close_refused}
use Rattle.trace_model.proofs.steps.StepCases.{frame_step, frame_lacks, end_step, end_lacks, end_early, read_step}
use Rattle.trace_model.proofs.steps.StepCases.{store_wish_step, loads_header, loads_update, loads_owed, loads_passed}
use Rattle.trace_model.proofs.steps.StepCases.{finds_none, finds_closed, swaps, swap_fails, ReadStep}
use Rattle.ring_model.specs.KeptLinks.{PhaseKept, ReaderKept, LinksKept}
use Rattle.ring_model.specs.KeptContents.{OpenPagesAt, OpenPagesKept}
use Rattle.ring_model.proofs.links.LinkFills.{header_reports, fill_at}
use Rattle.ring_model.proofs.links.FrameChanges.{top_kept}
use Rattle.trace_model.proofs.Positions.{page_else}

-- the tail page is that of the fill begun last
pub tail_page_is : (n : ℕ) (c : Core) → OpenPagesKept n c → c.done < c.opened
    → tail_page c ≡ page_at n c.order (c.opened - 1)
tail_page_is n c o behind = let count = o.count in
    o.each (length c.open_pages - 1) (omega arith)
    ∙ ap (page_at n c.order) (let e : c.done + (length c.open_pages - 1) ≡ c.opened - 1 = omega arith in e)

-- ---- one fill more, or less

module _ (n : ℕ) (order pages : List ℕ) (done opened : ℕ) (o : OpenPagesAt n order pages done opened) where
  pages_opened : (page : ℕ) → page ≡ page_at n order opened → OpenPagesAt n order (pages ++ page ∷ []) done (opened + 1)
  pages_opened page is = let count = o.count in record {
    count = omega (arith, length-append pages (page ∷ []));
    each = λ i low. dite (ℕ_discrete i (length pages))
        (λ e.
        ap (λ (j : ℕ). get_or (pages ++ page ∷ []) j 0) e ∙ get_or-append_seam pages page [] 0 ∙ is
        ∙ ap (page_at n order) (let same : opened ≡ done + i = omega arith in same))
        (λ ne. let within : i < length pages = omega (arith, length-append pages (page ∷ [])) in
        get_or-append pages (page ∷ []) 0 i within ∙ o.each i within);
  }

  pages_released : done < opened → OpenPagesAt n order (drop 1 pages) (done + 1) opened
  pages_released more = let count = o.count in record {
    count = omega (arith, length-drop 1 pages);
    each =
        λ i low.
        get_or_after_one pages i 0 ∙ o.each (1 + i) (omega (arith, length-drop 1 pages))
        ∙ ap (page_at n order) (let same : done + (1 + i) ≡ (done + 1) + i = omega arith in same);
  }

  -- the page of a closed fill is swapped
  pages_kept : (head spare : ℕ) → head < done → opened ≤ head + n
      → OpenPagesAt n (set order (head % n) spare) pages done opened
  pages_kept head spare closed within = let count = o.count in record {
    count = o.count;
    each =
        λ i low.
        o.each i low
        ∙ sym
        (page_else head n order (done + i) head spare (omega arith) (omega arith) (omega arith)
        (omega arith) (λ e. omega arith));
  }

-- ---- the frame on top

begun_pages : (n : ℕ) (c : Core) (kind : Purpose) (state : Progress) (frame : Frame) (below : List Frame)
    → OpenPagesKept n c → OpenPagesKept n (after_begin kind state c frame below)
begun_pages n c (for_record moment len) waiting frame below o = o
begun_pages n c for_close waiting frame below o = o
begun_pages n c kind (reserved number) frame below o = o
begun_pages n c kind left frame below o = o

module _ (n size : ℕ) (c : Core) (frame : Frame) (below : List Frame) (k : LinksKept n c) (o : OpenPagesKept n c)
    (top : c.frames ≡ frame ∷ below) where
  pages_again : (noted : ℕ) (answer : Answer) (after : Core) → BeginsAgain c frame below noted answer after
      → OpenPagesKept n after
  pages_again noted answer after step =
      subst (OpenPagesKept n) (sym step.after_is) (begun_pages n c frame.kind frame.state frame below o)

  pages_reserve : (answer : Answer) (after : Core) → ReserveStep n size c frame below answer after
      → OpenPagesKept n after
  pages_reserve answer after (reserves moment len r kind r_is fits a is) = subst (OpenPagesKept n) (sym is) o
  pages_reserve answer after (finds_nothing kind none a is) = subst (OpenPagesKept n) (sym is) o
  pages_reserve answer after (is_crowded needs full a is) = subst (OpenPagesKept n) (sym is) o
  pages_reserve answer after (is_worn needs full last a is) = subst (OpenPagesKept n) (sym is) o
  pages_reserve answer after (notes needs room small a is) = subst (OpenPagesKept n) (sym is) o

  pages_idle : (state : Progress) (answer : Answer) (after : Core) → IdleStep n size c frame below state answer after
      → OpenPagesKept n after
  pages_idle waiting answer after step = pages_reserve answer after step
  pages_idle (reserved number) answer after step = subst (OpenPagesKept n) (sym step.1) o
  pages_idle left answer after step = absurd step

  pages_frame : (phase : Phase) (answer : Answer) (after : Core) → frame.phase ≡ phase
      → FrameStep n size c frame below phase answer after → OpenPagesKept n after
  pages_frame idle answer after same step = pages_idle frame.state answer after step
  pages_frame (looking noted) answer after same (load_link_late step) = pages_again noted answer after step
  pages_frame (looking noted) answer after same (sees_free page now at a is) = subst (OpenPagesKept n) (sym is) o
  pages_frame (looking noted) answer after same (sees_header page lost now sum at a is) =
      subst (OpenPagesKept n) (sym is) o
  pages_frame (looking noted) answer after same (sees_update page lost now sum at a is) =
      subst (OpenPagesKept n) (sym is) o
  pages_frame (claiming noted page) answer after same (claim_late step) = pages_again noted answer after step
  pages_frame (claiming noted page) answer after same (claims lost now sum at a is) = subst (OpenPagesKept n) (sym is) o
  pages_frame (claiming noted page) answer after same (claim_fails now other a is) = subst (OpenPagesKept n) (sym is) o
  pages_frame (looking_next role noted page) answer after same (load_next_late helps step) =
      pages_again noted answer after step
  pages_frame (looking_next role noted page) answer after same (sees_normal lost next goes_on sum at a is) =
      subst (OpenPagesKept n) (sym is) o
  pages_frame (looking_next role noted page) answer after same (sees_other lost goes_on sum other a is) =
      subst (OpenPagesKept n) (sym is) o
  pages_frame (marking role noted page next) answer after same (mark_late helps step) =
      pages_again noted answer after step
  pages_frame (marking role noted page next) answer after same (marks lost goes_on sum at a is) =
      subst (OpenPagesKept n) (sym is) o
  pages_frame (marking role noted page next) answer after same (mark_fails lost goes_on sum other a is) =
      subst (OpenPagesKept n) (sym is) o
  pages_frame (clearing noted page) answer after same (clears lost sum at a is) = subst (OpenPagesKept n) (sym is) o
  pages_frame (opening noted page) answer after same (open_late step) = pages_again noted answer after step
  pages_frame (opening noted page) answer after same (opens now a is) =
      let (open_yet, inside, page_is) =
      (subst (PhaseKept n c.links c.order c.head c.done c.opened) same (top_kept n c frame below k top)).passed
      noted page refl in
      subst (OpenPagesKept n) (sym is) (begun_pages n (with_new_tail c page) frame.kind frame.state frame below
      (pages_opened n c.order c.open_pages c.done c.opened o page (page_is ∙ ap (page_at n c.order) now)))
  pages_frame releasing answer after same (releases alone more a is) =
      subst (OpenPagesKept n) (sym is) (pages_released n c.order c.open_pages c.done c.opened o k.done_lt)
  pages_frame releasing answer after same (releases_last alone last a is) =
      subst (OpenPagesKept n) (sym is) (pages_released n c.order c.open_pages c.done c.opened o k.done_lt)
  pages_frame wishing answer after same (grants alone granted a is) = subst (OpenPagesKept n) (sym is) o
  pages_frame wishing answer after same (closes_more alone none more a is) = subst (OpenPagesKept n) (sym is) o
  pages_frame wishing answer after same (goes_away alone none last a is) = subst (OpenPagesKept n) (sym is) o

-- ---- every step

pages_read : (n : ℕ) (c : Core) (phase : ReaderPhase) (answer : Answer) (after : Core) → LinksKept n c
    → ReaderKept n c.links c.order c.spare_link c.head c.done c.reader.hint phase → OpenPagesKept n c
    → ReadStep n c phase answer after → OpenPagesKept n after
pages_read n c loading_head answer after k facts o (loads_header page fill at a is) = subst (OpenPagesKept n) (sym is) o
pages_read n c loading_head answer after k facts o (loads_update page lost at a is) = subst (OpenPagesKept n) (sym is) o
pages_read n c loading_head answer after k facts o (loads_owed page at a is) = subst (OpenPagesKept n) (sym is) o
pages_read n c loading_head answer after k facts o (loads_passed page fill least at more sum a is) =
    subst (OpenPagesKept n) (sym is) o
pages_read n c (loading_done page fill) answer after k facts o (finds_none le a is) = subst (OpenPagesKept n) (sym is) o
pages_read n c (loading_done page fill) answer after k facts o (finds_closed below a is) =
    subst (OpenPagesKept n) (sym is) o
pages_read n c (storing_spare_link page fill) answer after k facts o step =
    subst (OpenPagesKept n) (sym step.after_is) o
pages_read n c (swapping page fill) answer after k facts o (swaps at a is) =
    let (g, low_g, high_g, same, link) = fill_at n c k fill in
    let reported = header_reports n c.links c.order c.head c.frames g page fill link (same ∙ at) in
    let here : fill ≡ c.head = reported.0 ∙ reported.1 in let closed = facts.1 in
    subst (OpenPagesKept n) (sym (is ∙ ap (after_swap n c page) here))
    (pages_kept n c.order c.open_pages c.done c.opened o c.head c.spare (omega arith) k.opened_le)
pages_read n c (swapping page fill) answer after k facts o (swap_fails at a is) = subst (OpenPagesKept n) (sym is) o

pub open_pages_step : (n size : ℕ) (c : Core) (event : Event) (answer : Answer) (after : Core) → LinksKept n c
    → OpenPagesKept n c → StepCases n size c event answer after → OpenPagesKept n after
open_pages_step n size c event answer after k o (push_step moment len e few fits early a is) =
    subst (OpenPagesKept n) (sym is) o
open_pages_step n size c event answer after k o (push_refused moment len why e refused a is) =
    subst (OpenPagesKept n) (sym is) o
open_pages_step n size c event answer after k o (close_step e few a is) = subst (OpenPagesKept n) (sym is) o
open_pages_step n size c event answer after k o (close_refused e many a is) = subst (OpenPagesKept n) (sym is) o
open_pages_step n size c event answer after k o (frame_step frame below e top step) =
    pages_frame n size c frame below k o top frame.phase answer after refl step
open_pages_step n size c event answer after k o (frame_lacks e none a is) = subst (OpenPagesKept n) (sym is) o
open_pages_step n size c event answer after k o
    (end_step payload frame below number moment len e top state kind slot a is) =
    subst (OpenPagesKept n) (sym is) o
open_pages_step n size c event answer after k o (end_lacks payload e none a is) = subst (OpenPagesKept n) (sym is) o
open_pages_step n size c event answer after k o (end_early payload frame below e top none a is) =
    subst (OpenPagesKept n) (sym is) o
open_pages_step n size c event answer after k o (read_step e step) =
    pages_read n c c.reader.phase answer after k k.reader o step
open_pages_step n size c event answer after k o (store_wish_step e a is) = subst (OpenPagesKept n) (sym is) o
