-- Each step of a ring keeps what is known of links, counts, frames and the reader.
use Rattle.std.proofs.Common.{◌≡◌, ℕ, suc, ◌+◌, List, [], ◌∷◌, ◌++◌, length, Option, Some, None, refl, sym, ap, ◌∙◌}
use Rattle.std.proofs.Common.{subst, inr, ⊎_elim, arith}
use Rattle.trace_model.specs.History.{HistoryEvent, push, push_close, wished, reserved_records}
use Rattle.trace_model.specs.Links.{Link, normal_link, header_link}
use Rattle.trace_model.specs.Frames.{Purpose, for_record, for_close, Progress, waiting, reserved, left, Role, owner}
use Rattle.trace_model.specs.Frames.{helper, Phase, idle, looking, claiming, looking_next, marking, clearing, opening}
use Rattle.trace_model.specs.Frames.{releasing, wishing, Frame, owned_update}
use Rattle.trace_model.specs.Ring.{Core, links_with}
use Rattle.trace_model.specs.Steps.{Event, Answer, with_link, in_phase, after_leave, with_new_tail, after_next}
use Rattle.trace_model.proofs.steps.StepCases.{StepCases, BeginsAgain, ReserveStep, reserves, finds_nothing, is_crowded}
use Rattle.trace_model.proofs.steps.StepCases.{is_worn, notes, LoadLinkStep, load_link_late, sees_free, sees_header}
use Rattle.trace_model.proofs.steps.StepCases.{sees_update, ClaimHeadStep, claim_late, claims, claim_fails}
use Rattle.trace_model.proofs.steps.StepCases.{LoadNextStep, load_next_late, sees_normal, sees_other, MarkHeadStep}
use Rattle.trace_model.proofs.steps.StepCases.{mark_late, marks, mark_fails, ClearUpdateStep, clears, OpenFillStep}
use Rattle.trace_model.proofs.steps.StepCases.{open_late, opens, ReleaseFillStep, releases, releases_last, LoadWishStep}
use Rattle.trace_model.proofs.steps.StepCases.{grants, closes_more, goes_away, IdleStep, FrameStep, push_step}
use Rattle.trace_model.proofs.steps.StepCases.{push_refused, close_step, close_refused, frame_step, frame_lacks}
use Rattle.trace_model.proofs.steps.StepCases.{end_step, end_lacks, end_early, read_step, store_wish_step}
use Rattle.ring_model.specs.KeptLinks.{HasMover, PhaseKept, FramesKept, LinksKept}
use Rattle.ring_model.specs.KeptStack.{MayBeIn, FramesAgree, StackKept}
use Rattle.trace_model.proofs.Positions.{link_here}
use Rattle.ring_model.proofs.links.FramePhases.{none_some, normal_ne_header, Noted, Passed, IsSet, knows_idle}
use Rattle.ring_model.proofs.links.FramePhases.{knows_looking, knows_claiming, knows_looking_next, knows_marking}
use Rattle.ring_model.proofs.links.FramePhases.{knows_clearing, knows_opening, knows_releasing, knows_wishing}
use Rattle.ring_model.proofs.links.LinkFills.{normal_inside, update_inside}
use Rattle.ring_model.proofs.links.FrameChanges.{restacked, rephased, popped, leaves_kept, after_begin_kept, top_kept}
use Rattle.ring_model.proofs.links.FrameChanges.{below_differ, stands_top}
use Rattle.ring_model.proofs.links.WriterSteps.{claims_kept, marks_kept, clears_kept, begun_kept, released_kept}
use Rattle.ring_model.proofs.links.ReaderSteps.{read_kept, wished_kept}

-- an owner stays one from the look at the next link to its mark
next_moves : (role : Role) (noted page next : ℕ)
    → owned_update (marking role noted page next) ≡ owned_update (looking_next role noted page)
next_moves owner noted page next = refl
next_moves helper noted page next = refl

module _ (n size : ℕ) (c : Core) (frame : Frame) (below : List Frame) (k : LinksKept n c)
    (top : c.frames ≡ frame ∷ below) where
  kept_in : (phase : Phase) → frame.phase ≡ phase → PhaseKept n c.links c.order c.head c.done c.opened phase
  kept_in phase same = subst (PhaseKept n c.links c.order c.head c.done c.opened) same (top_kept n c frame below k top)

  leaves : (after : Core) (payload : Option (List ℕ)) → owned_update frame.phase ≡ None
      → after ≡ after_leave c frame below payload → LinksKept n after
  leaves after payload none is = subst (LinksKept n) (sym is) (leaves_kept n c frame below payload k top none)

  again : (noted : ℕ) (answer : Answer) (after : Core) → owned_update frame.phase ≡ None
      → BeginsAgain c frame below noted answer after → LinksKept n after
  again noted answer after none step =
      subst (LinksKept n) (sym step.after_is) (after_begin_kept n c frame.kind frame.state frame below k top none)

  goes : (after : Core) (phase : Phase) → PhaseKept n c.links c.order c.head c.done c.opened phase
      → owned_update phase ≡ owned_update frame.phase → after ≡ in_phase c frame below phase → LinksKept n after
  goes after phase facts same is =
      subst (LinksKept n) (sym is)
      (rephased n c frame below k top (record frame { phase = phase }) c.held c.history facts same)

  reserve_kept : (answer : Answer) (after : Core) → frame.phase ≡ idle → ReserveStep n size c frame below answer after
      → LinksKept n after
  reserve_kept answer after same (reserves moment len r kind r_is fits a is) = subst (LinksKept n) (sym is)
      (rephased n c frame below k top
      (record frame { state = reserved (length (reserved_records c.history)); phase = idle }) _ _
      (knows_idle n c.links c.order c.head c.done c.opened) (sym (ap owned_update same)))
  reserve_kept answer after same (finds_nothing kind none a is) = leaves after None (ap owned_update same) is
  reserve_kept answer after same (is_crowded needs full a is) = leaves after None (ap owned_update same) is
  reserve_kept answer after same (is_worn needs full last a is) = leaves after None (ap owned_update same) is
  reserve_kept answer after same (notes needs room small a is) = let behind = k.done_lt in
      let within = k.opened_le in
      let unread = k.head_le in
      goes after (looking c.opened)
      (knows_looking n c.links c.order c.head c.done c.opened c.opened (behind, omega arith, omega arith, small))
      (sym (ap owned_update same)) is

  idle_kept : (state : Progress) (answer : Answer) (after : Core) → frame.phase ≡ idle
      → IdleStep n size c frame below state answer after → LinksKept n after
  idle_kept waiting answer after same step = reserve_kept answer after same step
  idle_kept (reserved number) answer after same step = subst (LinksKept n) (sym step.1) k
  idle_kept left answer after same step = absurd step

  load_link_kept : (noted : ℕ) (answer : Answer) (after : Core) → frame.phase ≡ looking noted
      → LoadLinkStep n c frame below noted answer after → LinksKept n after
  load_link_kept noted answer after same (load_link_late step) = again noted answer after (ap owned_update same) step
  load_link_kept noted answer after same (sees_free page now at a is) =
      let facts =
      (kept_in (looking noted) same).noted noted refl in
      let unread = k.head_le in let within = k.opened_le in let open_yet = facts.0 in
      let inside = normal_inside n c k noted page (omega arith) (omega arith) at in
      goes after (opening noted page)
      (knows_opening n c.links c.order c.head c.done c.opened noted page facts (open_yet, inside.0, inside.1))
      (sym (ap owned_update same)) is
  load_link_kept noted answer after same (sees_header page lost now sum at a is) =
      goes after (claiming noted page)
      (knows_claiming n c.links c.order c.head c.done c.opened noted page
      ((kept_in (looking noted) same).noted noted refl)) (sym (ap owned_update same)) is
  load_link_kept noted answer after same (sees_update page lost now sum at a is) =
      let facts =
      (kept_in (looking noted) same).noted noted refl in
      let unread = k.head_le in let within = k.opened_le in let open_yet = facts.0 in
      let inside = update_inside n c k noted page lost (omega arith) (omega arith) sum at in
      goes after (looking_next helper noted page)
      (knows_looking_next n c.links c.order c.head c.done c.opened helper noted page facts
      (open_yet, inside.0, inside.1) (λ is. absurd (none_some is))) (sym (ap owned_update same)) is

  claim_head_kept : (noted page : ℕ) (answer : Answer) (after : Core) → frame.phase ≡ claiming noted page
      → ClaimHeadStep n c frame below noted page answer after → LinksKept n after
  claim_head_kept noted page answer after same (claim_late step) = again noted answer after (ap owned_update same) step
  claim_head_kept noted page answer after same (claims lost now sum at a is) = subst (LinksKept n) (sym is)
      (claims_kept n c frame below noted page lost k top (ap owned_update same)
      ((kept_in (claiming noted page) same).noted noted refl) now sum at)
  claim_head_kept noted page answer after same (claim_fails now other a is) =
      goes after (looking noted)
      (knows_looking n c.links c.order c.head c.done c.opened noted
      ((kept_in (claiming noted page) same).noted noted refl)) (sym (ap owned_update same)) is

  -- after the look at the next link or its mark: the head's HEADER is set
  passes : (role : Role) (noted page lost : ℕ) (after : Core) → Noted n c.done c.opened noted
      → Passed n c.order c.head c.done noted page
      → owned_update frame.phase ≡ owned_update (looking_next role noted page) → lost + n ≡ noted
      → IsSet n c.links c.order c.head c.done c.opened lost
      → after ≡ in_phase c frame below (after_next role noted page)
      → LinksKept n after
  passes owner noted page lost after facts passed own sum set is =
      goes after (clearing noted page)
      (knows_clearing n c.links c.order c.head c.done c.opened noted page lost facts passed
      ((top_kept n c frame below k top).moves noted own) sum set) (sym own) is
  passes helper noted page lost after facts passed own sum set is =
      goes after (opening noted page) (knows_opening n c.links c.order c.head c.done c.opened noted page facts passed)
      (sym own) is

  load_next_kept : (role : Role) (noted page : ℕ) (answer : Answer) (after : Core)
      → frame.phase ≡ looking_next role noted page → LoadNextStep n c frame below role noted page answer after
      → LinksKept n after
  load_next_kept role noted page answer after same (load_next_late helps step) =
      again noted answer after
      (ap owned_update same ∙ ap (λ (r : Role). owned_update (looking_next r noted page)) helps) step
  load_next_kept role noted page answer after same (sees_normal lost next goes_on sum at a is) =
      let kept =
      kept_in (looking_next role noted page) same in
      let passed = kept.passed noted page refl in let inside = passed.1 in
      goes after (marking role noted page next)
      (knows_marking n c.links c.order c.head c.done c.opened role noted page next lost (kept.noted noted refl) passed
      (λ own. kept.moves noted (sym (next_moves role noted page next) ∙ own)) sum
      (omega arith, λ seen other. ap (λ (l : Link). l.page) (sym at ∙ other)))
      (next_moves role noted page next ∙ sym (ap owned_update same)) is
  load_next_kept role noted page answer after same (sees_other lost goes_on sum other a is) =
      let kept =
      kept_in (looking_next role noted page) same in
      let passed = kept.passed noted page refl in let inside = passed.1 in
      passes role noted page lost after (kept.noted noted refl) passed (ap owned_update same) sum (omega arith, other)
      is

-- The frame's mark of the next link, done or not.
mark_head_kept : (n : ℕ) (c : Core) (frame : Frame) (below : List Frame) → LinksKept n c → c.frames ≡ frame ∷ below
    → (role : Role) (noted page next : ℕ) (answer : Answer) (after : Core) → frame.phase ≡ marking role noted page next
    → MarkHeadStep n c frame below role noted page next answer after
    → LinksKept n after
mark_head_kept n c frame below k top role noted page next answer after same (mark_late helps step) =
    again n 0 c frame below k top noted answer after
    (ap owned_update same ∙ ap (λ (r : Role). owned_update (marking r noted page next)) helps) step
mark_head_kept n c frame below k top role noted page next answer after same (marks lost goes_on sum at a is) =
    let some_pages = k.some_pages in
    let kept = kept_in n 0 c frame below k top (marking role noted page next) same in
    let waits = kept.marks noted next lost refl sum in
    let passed = kept.passed noted page refl in
    let open_yet = passed.0 in
    let new : Link = header_link next (suc lost) in
    let k' : LinksKept n (with_link n c (suc lost) new) = marks_kept n c lost next k waits.0 (omega arith) at in
    passes n 0 (with_link n c (suc lost) new) frame below k' top role noted page lost after (kept.noted noted refl)
    passed (ap owned_update same ∙ next_moves role noted page next) sum (
      waits.0,
      λ seen other.
          normal_ne_header seen (suc lost) next (suc lost)
          (sym other ∙ link_here n c.links (suc lost) new (omega arith) k.positions),
    )
    is
mark_head_kept n c frame below k top role noted page next answer after same (mark_fails lost goes_on sum other a is) =
    let kept = kept_in n 0 c frame below k top (marking role noted page next) same in
    let waits = kept.marks noted next lost refl sum in
    passes n 0 c frame below k top role noted page lost after (kept.noted noted refl) (kept.passed noted page refl)
    (ap owned_update same ∙ next_moves role noted page next) sum
    (waits.0, λ seen at. other (at ∙ ap (λ (p : ℕ). normal_link p (suc lost)) (sym (waits.1 seen at))))
    is

module _ (n size : ℕ) (c : Core) (frame : Frame) (below : List Frame) (k : LinksKept n c)
    (top : c.frames ≡ frame ∷ below) where
  clear_update_kept : (noted page : ℕ) (answer : Answer) (after : Core) → frame.phase ≡ clearing noted page
      → ClearUpdateStep n c frame below noted page answer after → LinksKept n after
  clear_update_kept noted page answer after same (clears lost sum at a is) =
      let kept =
      kept_in n size c frame below k top (clearing noted page) same in
      let passed = kept.passed noted page refl in
      subst (LinksKept n) (sym is) (clears_kept n c frame below noted page lost k top (ap owned_update same) passed
      (knows_opening n (links_with n c.links noted (normal_link page noted)) c.order c.head c.done c.opened noted page
      (kept.noted noted refl) passed)
      (kept.clears noted lost refl sum).1 sum at)

  open_fill_kept : (noted page : ℕ) (answer : Answer) (after : Core) → frame.phase ≡ opening noted page
      → OpenFillStep n c frame below noted page answer after → LinksKept n after
  open_fill_kept noted page answer after same (open_late step) =
      again n size c frame below k top noted answer after (ap owned_update same) step
  open_fill_kept noted page answer after same (opens now a is) =
      let kept =
      kept_in n size c frame below k top (opening noted page) same in
      let (open_yet, inside, page_is) = kept.passed noted page refl in let (x, y, z, small) = kept.noted noted refl in
      subst (LinksKept n) (sym is)
      (after_begin_kept n (with_new_tail c page) frame.kind frame.state frame below
      (begun_kept n c page k (omega arith) (omega arith)) top (ap owned_update same))

  -- one that closes fills owns no UPDATE, and is alone
  stands_none : below ≡ [] → frame.phase ≡ releasing → (f : ℕ) → HasMover c.frames f → ⊥
  stands_none alone same f st =
      ⊎_elim (λ e. none_some (sym (ap owned_update same) ∙ e)) (λ b. subst (λ (fs : List Frame). HasMover fs f) alone b)
      (stands_top n c frame below k top f st)

  release_fill_kept : (answer : Answer) (after : Core) → frame.phase ≡ releasing
      → ReleaseFillStep c frame below answer after → LinksKept n after
  release_fill_kept answer after same (releases alone more a is) =
      let one : c.frames ≡ frame ∷ [] = top ∙ ap (λ (fs : List Frame). frame ∷ fs) alone in
      subst (LinksKept n) (sym is) (released_kept n c c.frames k (omega arith) (stands_none alone same)
      (subst (FramesKept n c.links c.order c.head (c.done + 1) c.opened) (sym one) (
        subst (PhaseKept n c.links c.order c.head (c.done + 1) c.opened) (sym same)
            (knows_releasing n c.links c.order c.head (c.done + 1) c.opened (omega arith)),
        tt,
      ))
      k.movers)
  release_fill_kept answer after same (releases_last alone last a is) =
      subst (LinksKept n) (sym is)
      (released_kept n c (record frame { phase = wishing } ∷ below) k (omega arith) (stands_none alone same)
      (subst
      (λ (fs : List Frame).
      FramesKept n c.links c.order c.head (c.done + 1) c.opened (record frame { phase = wishing } ∷ fs))
      (sym alone) (knows_wishing n c.links c.order c.head (c.done + 1) c.opened, tt))
      ((λ f is_f st. absurd (none_some is_f)), below_differ n c frame below k top))

  -- a wish that is granted is for the first fill that isn't closed, which is the tail
  load_wish_kept : (answer : Answer) (after : Core) → frame.phase ≡ wishing → LoadWishStep n c frame below answer after
      → LinksKept n after
  load_wish_kept answer after same (grants alone granted a is) =
      let some_pages = k.some_pages in
      let behind = k.done_lt in
      let le = k.wish_le in
      let seen = k.seen_le in
      let asks = granted.asks_tail in
      subst (LinksKept n) (sym is)
      (rephased n c frame below k top (record frame { phase = looking c.opened }) c.held (c.history ++ wished ∷ [])
      (knows_looking n c.links c.order c.head c.done c.opened c.opened
      (behind, omega arith, omega arith, granted.numbers_left)) (sym (ap owned_update same)))
  load_wish_kept answer after same (closes_more alone denied more a is) =
      goes n size c frame below k top after releasing (knows_releasing n c.links c.order c.head c.done c.opened more)
      (sym (ap owned_update same)) is
  load_wish_kept answer after same (goes_away alone denied last a is) =
      subst (LinksKept n) (sym is)
      (subst (λ (fs : List Frame). LinksKept n (record c { frames = fs })) alone
      (popped n c frame below k top c.held c.history (ap owned_update same)))

pub frame_kept : (n size : ℕ) (c : Core) (frame : Frame) (below : List Frame) (phase : Phase) (answer : Answer)
    (after : Core) → LinksKept n c → c.frames ≡ frame ∷ below → frame.phase ≡ phase
    → FrameStep n size c frame below phase answer after → LinksKept n after
frame_kept n size c frame below idle answer after k top same step =
    idle_kept n size c frame below k top frame.state answer after same step
frame_kept n size c frame below (looking noted) answer after k top same step =
    load_link_kept n size c frame below k top noted answer after same step
frame_kept n size c frame below (claiming noted page) answer after k top same step =
    claim_head_kept n size c frame below k top noted page answer after same step
frame_kept n size c frame below (looking_next role noted page) answer after k top same step =
    load_next_kept n size c frame below k top role noted page answer after same step
frame_kept n size c frame below (marking role noted page next) answer after k top same step =
    mark_head_kept n c frame below k top role noted page next answer after same step
frame_kept n size c frame below (clearing noted page) answer after k top same step =
    clear_update_kept n size c frame below k top noted page answer after same step
frame_kept n size c frame below (opening noted page) answer after k top same step =
    open_fill_kept n size c frame below k top noted page answer after same step
frame_kept n size c frame below releasing answer after k top same step =
    release_fill_kept n size c frame below k top answer after same step
frame_kept n size c frame below wishing answer after k top same step =
    load_wish_kept n size c frame below k top answer after same step

-- a new frame knows nothing
pushed_kept : (n : ℕ) (c after : Core) (kind : Purpose) (history_event : HistoryEvent) → LinksKept n c
    → after
    ≡ record c {
      frames = record { kind = kind; state = waiting; phase = idle } ∷ c.frames;
      history = c.history ++ history_event ∷ [];
    } → LinksKept n after
pushed_kept n c after kind history_event k is = subst (LinksKept n) (sym is)
    (restacked n c (record { kind = kind; state = waiting; phase = idle } ∷ c.frames) c.held
    (c.history ++ history_event ∷ []) k (knows_idle n c.links c.order c.head c.done c.opened, k.frames)
    ((λ f own st. none_some own), k.movers) (λ f st. inr st))

-- a frame that has reserved has noted nothing
pub reserved_rests : (c : Core) (frame : Frame) (below : List Frame) (number : ℕ) → StackKept c
    → c.frames ≡ frame ∷ below → frame.state ≡ reserved number → frame.phase ≡ idle
reserved_rests c frame below number stack top state =
    (subst (λ (s : Progress). MayBeIn frame.kind s frame.phase) state (subst FramesAgree top stack.agree).0).1

pub step_kept : (n size : ℕ) (c : Core) (event : Event) (answer : Answer) (after : Core) → LinksKept n c → StackKept c
    → StepCases n size c event answer after → LinksKept n after
step_kept n size c event answer after k stack (push_step moment len e few fits early a is) =
    pushed_kept n c after (for_record moment len) (push moment len) k is
step_kept n size c event answer after k stack (push_refused moment len why e refused a is) =
    subst (LinksKept n) (sym is) k
step_kept n size c event answer after k stack (close_step e few a is) = pushed_kept n c after for_close push_close k is
step_kept n size c event answer after k stack (close_refused e many a is) = subst (LinksKept n) (sym is) k
step_kept n size c event answer after k stack (frame_step frame below e top step) =
    frame_kept n size c frame below frame.phase answer after k top refl step
step_kept n size c event answer after k stack (frame_lacks e none a is) = subst (LinksKept n) (sym is) k
step_kept n size c event answer after k stack
    (end_step payload frame below number moment len e top state kind slot a is) =
    leaves n size c frame below k top after (Some payload)
    (ap owned_update (reserved_rests c frame below number stack top state)) is
step_kept n size c event answer after k stack (end_lacks payload e none a is) = subst (LinksKept n) (sym is) k
step_kept n size c event answer after k stack (end_early payload frame below e top none a is) =
    subst (LinksKept n) (sym is) k
step_kept n size c event answer after k stack (read_step e step) =
    read_kept n c after c.reader.phase answer k k.reader step
step_kept n size c event answer after k stack (store_wish_step e a is) =
    subst (LinksKept n) (sym is) (wished_kept n c k)
