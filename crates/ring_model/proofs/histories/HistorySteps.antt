-- Each step keeps what is known of the frames' history and of lost fills, and is a step of the window or
-- leaves it as it was.
use Rattle.std.proofs.Common.{◌≡◌, ◌≢◌, ℕ, suc, ◌+◌, ◌<◌, ◌≤◌, ◌⊎◌, List, [], ◌∷◌, ◌++◌, length, Option, Some, None}
use Rattle.std.proofs.Common.{refl, sym, ap, ◌∙◌, subst, inl, inr, ⊎_elim, arith, append-nil}
use mathlib.Core.Logic.{dite}
use native.Mathlib.Decide.{ℕ_discrete}
use Rattle.trace_model.specs.History.{HistoryEvent, push, push_close, open_fill, reserve, leave, wished, PushedFrame}
use Rattle.trace_model.specs.History.{WriterState, after_event, writer_after, reserved_records, MayReserve, MayLeave}
use Rattle.trace_model.specs.History.{MayOpen, MayWish, MayAct}
use Rattle.trace_model.proofs.histories.Allowed.{IsHistory-push}
use Rattle.trace_model.proofs.histories.NextEvent.{writer_snoc, opened_stack, wished_stack, left_stack, reserved_stack}
use Rattle.trace_model.proofs.histories.NextEvent.{settled_at_rest}
use Rattle.trace_model.specs.Links.{Link, header_link}
use Rattle.trace_model.specs.Frames.{Purpose, for_record, for_close, Progress, waiting, reserved, left, Role, owner}
use Rattle.trace_model.specs.Frames.{helper, Phase, idle, looking, claiming, looking_next, marking, clearing, opening}
use Rattle.trace_model.specs.Frames.{releasing, wishing, Frame, pushed_frame, pushed_onto, pushed_frames}
use Rattle.trace_model.specs.Window.{RingEvent, closes, takes, loses, acts}
use Rattle.trace_model.specs.Ring.{TakenFill, Reader, ReaderPhase, loading_head, loading_done, storing_spare_link}
use Rattle.trace_model.specs.Ring.{swapping, Core, window_of}
use Rattle.trace_model.specs.Steps.{Event, Answer, with_link, with_history_event, in_phase, closing_phase, after_leave}
use Rattle.trace_model.specs.Steps.{frames_after_leave, with_new_tail, after_begin, after_next, taken_fill}
use Rattle.trace_model.proofs.steps.StepCases.{StepCases, BeginsAgain, ReserveStep, reserves, finds_nothing, is_crowded}
use Rattle.trace_model.proofs.steps.StepCases.{is_worn, notes, LoadLinkStep, load_link_late, sees_free, sees_header}
use Rattle.trace_model.proofs.steps.StepCases.{sees_update, ClaimHeadStep, claim_late, claims, claim_fails}
use Rattle.trace_model.proofs.steps.StepCases.{LoadNextStep, load_next_late, sees_normal, sees_other, MarkHeadStep}
use Rattle.trace_model.proofs.steps.StepCases.{mark_late, marks, mark_fails, ClearUpdateStep, clears, OpenFillStep}
use Rattle.trace_model.proofs.steps.StepCases.{open_late, opens, ReleaseFillStep, releases, releases_last, LoadWishStep}
use Rattle.trace_model.proofs.steps.StepCases.{grants, closes_more, goes_away, IdleStep, FrameStep, push_step}
use Rattle.trace_model.proofs.steps.StepCases.{push_refused, close_step, close_refused, frame_step, frame_lacks}
use Rattle.trace_model.proofs.steps.StepCases.{end_step, end_lacks, end_early, read_step, store_wish_step, LoadHeadStep}
use Rattle.trace_model.proofs.steps.StepCases.{loads_header, loads_update, loads_owed, loads_passed, LoadDoneStep}
use Rattle.trace_model.proofs.steps.StepCases.{finds_none, finds_closed, SwapHeadStep, swaps, swap_fails, ReadStep}
use Rattle.trace_model.specs.Sublist.{IsPrefix}
use Rattle.ring_model.specs.WindowLaws.{IsEventShown, MovesWindow}
use Rattle.ring_model.specs.KeptLinks.{spot, passed_spot, PhaseKept, ReaderKept, LinksKept}
use Rattle.ring_model.specs.KeptStack.{MayBeIn, FramesAgree, StackKept}
use Rattle.ring_model.specs.KeptHistory.{Passing, TakenIn, WhyPassed, HistoryKept}
use Rattle.ring_model.proofs.links.FramePhases.{none_some, pair_is}
use Rattle.ring_model.proofs.links.LinkFills.{header_inside, header_reports, fill_at}
use Rattle.ring_model.proofs.links.FrameChanges.{top_kept}
use Rattle.ring_model.proofs.histories.Histories.{pushed_waiting, pushed_reserved, pushed_left, may_open, may_leave}
use Rattle.ring_model.proofs.histories.Histories.{stack_left, taken_more, taken_last, why_stays, passing_on}
use Rattle.ring_model.proofs.histories.Histories.{passing_left}

-- ---- the state of a frame, by its phase

-- the frame on top is in a phase of its state, and it is alone if it has left
pub top_agrees : (c : Core) (frame : Frame) (below : List Frame) → StackKept c → c.frames ≡ frame ∷ below
    → MayBeIn frame.kind frame.state frame.phase × (frame.state ≡ left → below ≡ [])
top_agrees c frame below s top = let a = subst FramesAgree top s.agree in (a.0, a.1)

-- a frame that has a record has noted nothing
pub waits_or_left : (kind : Purpose) (state : Progress) (phase : Phase) → MayBeIn kind state phase → phase ≢ idle
    → (state ≡ waiting) ⊎ (state ≡ left)
waits_or_left kind waiting phase may noted = inl refl
waits_or_left kind (reserved number) phase may noted = absurd (noted may.1)
waits_or_left kind left phase may noted = inr refl

-- one that closes fills, or looks for a wish, has left
pub releasing_left : (kind : Purpose) (state : Progress) → MayBeIn kind state releasing → state ≡ left
releasing_left kind waiting may = absurd (may.0 refl)
releasing_left kind (reserved number) may = let e = may.1 in cc
releasing_left kind left may = refl

pub wishing_left : (kind : Purpose) (state : Progress) → MayBeIn kind state wishing → state ≡ left
wishing_left kind waiting may = absurd (may.1 refl)
wishing_left kind (reserved number) may = let e = may.1 in cc
wishing_left kind left may = refl

-- one that has a record rests
pub reserved_idle : (kind : Purpose) (state : Progress) (number : ℕ) (phase : Phase) → MayBeIn kind state phase
    → state ≡ reserved number → phase ≡ idle
reserved_idle kind state number phase may e = (subst (λ (s : Progress). MayBeIn kind s phase) e may).1

-- ---- what is known of history and lost fills

module _ (n start : ℕ) (c : Core) (frame : Frame) (below : List Frame) (h : HistoryKept n start c)
    (top : c.frames ≡ frame ∷ below) where
  pub top_stack : (writer_after c.history).stack ≡ pushed_onto frame.kind frame.state (pushed_frames below)
  top_stack = h.stack ∙ ap pushed_frames top

  pub stack_waiting : frame.state ≡ waiting
      → (writer_after c.history).stack ≡ pushed_frame frame.kind waiting ∷ pushed_frames below
  stack_waiting waits = top_stack ∙ pushed_waiting frame (pushed_frames below) waits

  pub stack_reserved : (number : ℕ) → frame.state ≡ reserved number
      → (writer_after c.history).stack ≡ pushed_frame frame.kind (reserved number) ∷ pushed_frames below
  stack_reserved number has = top_stack ∙ pushed_reserved frame (pushed_frames below) number has

  -- below a frame that has left there is none
  pub stack_empty : frame.state ≡ left → below ≡ [] → (writer_after c.history).stack ≡ []
  stack_empty gone alone = top_stack ∙ pushed_left frame (pushed_frames below) gone ∙ ap pushed_frames alone

  -- the fills that are passed stay so, if the frame on top goes on or leaves
  lost_on : (frames : List Frame)
      → ((page : ℕ) → passed_spot frame.phase ≡ Some (spot c.opened page) → Passing frames c.opened)
      → (Passing below c.opened → Passing frames c.opened)
      → HistoryKept n start c → (f : ℕ) → start ≤ f → f < c.head → WhyPassed n c.reader.taken c.opened frames f
  lost_on frames passes rest k f low high =
      why_stays n c.reader.taken c.reader.taken c.opened c.opened c.frames frames f (λ t. t) (omega arith)
      (λ p.
      inr (
        refl,
        passing_on frame below frames c.opened passes rest
            (subst (λ (fs : List Frame). Passing fs c.opened) top p),
      ))
      (k.lost f low high)

  -- the frame on top goes on, and about to open a fill it stays so
  pub history_goes : (phase : Phase)
      → ((page : ℕ) → passed_spot frame.phase ≡ Some (spot c.opened page)
      → (page' : ℕ) × (passed_spot phase ≡ Some (spot c.opened page')))
      → HistoryKept n start (in_phase c frame below phase)
  history_goes phase passes = record {
    allowed = h.allowed;
    stack = top_stack;
    lost = lost_on (record frame { phase = phase } ∷ below) (λ page at. inl (passes page at)) (λ q. inr q) h;
  }

  -- the frame on top leaves, about to open no fill
  pub history_leaves : (f : PushedFrame) (payload : Option (List ℕ))
      → (writer_after c.history).stack ≡ f ∷ pushed_frames below → MayLeave (f ∷ pushed_frames below) payload
      → ((page : ℕ) → passed_spot frame.phase ≡ Some (spot c.opened page) → ⊥)
      → HistoryKept n start (after_leave c frame below payload)
  history_leaves f payload stack may passes = record {
    allowed =
        IsHistory-push c.history (leave payload) h.allowed
        (subst (λ (s : List PushedFrame). MayLeave s payload) (sym stack) may);
    stack = left_stack c.history f (pushed_frames below) payload stack ∙ sym (stack_left c frame below);
    lost =
        lost_on (frames_after_leave c frame below) (λ page at. absurd (passes page at))
        (passing_left c frame below c.opened) h;
  }

  -- a fill was begun by this frame or another
  pub history_again : (kind : Purpose) (state : Progress) → frame.state ≡ state
      → ((page : ℕ) → passed_spot frame.phase ≡ Some (spot c.opened page) → ⊥)
      → HistoryKept n start (after_begin kind state c frame below)
  history_again (for_record moment len) waiting is passes = history_goes idle (λ page at. absurd (passes page at))
  history_again for_close waiting is passes =
      history_leaves (pushed_frame frame.kind waiting) None (stack_waiting is)
      (may_leave frame.kind (pushed_frames below)) passes
  history_again kind (reserved number) is passes = history_goes idle (λ page at. absurd (passes page at))
  history_again kind left is passes = history_goes (closing_phase c) (λ page at. absurd (passes page at))

-- a fill is begun
history_begun : (n start : ℕ) (c : Core) (page : ℕ) → HistoryKept n start c → MayOpen (writer_after c.history).stack
    → HistoryKept n start (with_new_tail c page)
history_begun n start c page h may = record {
  allowed = IsHistory-push c.history open_fill h.allowed may;
  stack = opened_stack c.history (pushed_frames c.frames) h.stack;
  lost =
      λ f low high.
      why_stays n c.reader.taken c.reader.taken c.opened (c.opened + 1) c.frames c.frames f (λ t. t)
      (omega arith) (λ p. inl (omega arith)) (h.lost f low high);
}

-- a wish is found
history_wished : (n start : ℕ) (c : Core) → HistoryKept n start c → (writer_after c.history).stack ≡ []
    → HistoryKept n start (with_history_event c wished)
history_wished n start c h none = record {
  allowed = IsHistory-push c.history wished h.allowed (subst MayWish (sym none) tt);
  stack = wished_stack c.history (pushed_frames c.frames) h.stack;
  lost = h.lost;
}

-- ---- the steps of a frame

-- what a step owes: what is known stays so, and the window makes a step or none
pub record Owed (n start : ℕ) (c after : Core) : Type 0 where
  pub kept : HistoryKept n start after
  pub window : ((window_of after ≡ window_of c) × (after.reader.taken ≡ c.reader.taken))
      ⊎ ((what : RingEvent) × MovesWindow n c what after)

module _ (n size start : ℕ) (c : Core) (frame : Frame) (below : List Frame) (k : LinksKept n c) (s : StackKept c)
    (h : HistoryKept n start c) (top : c.frames ≡ frame ∷ below) where
  goes : (after : Core) (old phase : Phase) → frame.phase ≡ old
      → ((page : ℕ) → passed_spot old ≡ Some (spot c.opened page)
      → (page' : ℕ) × (passed_spot phase ≡ Some (spot c.opened page')))
      → after ≡ in_phase c frame below phase
      → Owed n start c after
  goes after old phase same passes is = subst (Owed n start c) (sym is) record {
    kept = history_goes n start c frame below h top phase (λ page at. passes page (sym (ap passed_spot same) ∙ at));
    window = inl (refl, refl);
  }

  leaves : (after : Core) (f : PushedFrame) (payload : Option (List ℕ)) → frame.phase ≡ idle
      → (writer_after c.history).stack ≡ f ∷ pushed_frames below → MayLeave (f ∷ pushed_frames below) payload
      → after ≡ after_leave c frame below payload → Owed n start c after
  leaves after f payload same stack may is = subst (Owed n start c) (sym is) record {
    kept =
        history_leaves n start c frame below h top f payload stack may
        (λ page at. none_some (sym (ap passed_spot same) ∙ at));
    window = inl (refl, refl);
  }

  -- a frame that waits leaves without a record
  leaves_waiting : (after : Core) → frame.phase ≡ idle → frame.state ≡ waiting → after ≡ after_leave c frame below None
      → Owed n start c after
  leaves_waiting after same waits is =
      leaves after (pushed_frame frame.kind waiting) None same (stack_waiting n start c frame below h top waits)
      (may_leave frame.kind (pushed_frames below)) is

  same_window : (kind : Purpose) (state : Progress) → window_of (after_begin kind state c frame below) ≡ window_of c
  same_window (for_record moment len) waiting = refl
  same_window for_close waiting = refl
  same_window kind (reserved number) = refl
  same_window kind left = refl

  same_taken : (kind : Purpose) (state : Progress)
      → (after_begin kind state c frame below).reader.taken ≡ c.reader.taken
  same_taken (for_record moment len) waiting = refl
  same_taken for_close waiting = refl
  same_taken kind (reserved number) = refl
  same_taken kind left = refl

  again : (noted : ℕ) (answer : Answer) (after : Core) (old : Phase) → frame.phase ≡ old
      → ((f page : ℕ) → passed_spot old ≡ Some (spot f page) → f ≡ noted) → BeginsAgain c frame below noted answer after
      → Owed n start c after
  again noted answer after old same only step = subst (Owed n start c) (sym step.after_is) record {
    kept =
        history_again n start c frame below h top frame.kind frame.state refl
        (λ page at. step.passed (sym (only c.opened page (sym (ap passed_spot same) ∙ at))));
    window = inl (same_window frame.kind frame.state, same_taken frame.kind frame.state);
  }

  no_spot : (noted : ℕ) (old : Phase) → passed_spot old ≡ None → (f page : ℕ) → passed_spot old ≡ Some (spot f page)
      → f ≡ noted
  no_spot noted old none f page at = absurd (none_some (sym none ∙ at))

  one_spot : (noted page f page' : ℕ) → Some (spot noted page) ≡ Some (spot f page') → f ≡ noted
  one_spot noted page f page' e = sym (pair_is noted page f page' e).0

  reserve_owed : (answer : Answer) (after : Core) → frame.phase ≡ idle → frame.state ≡ waiting
      → ReserveStep n size c frame below answer after → Owed n start c after
  reserve_owed answer after same waits (reserves moment len r kind r_is fits a is) =
      let stack =
      stack_waiting n start c frame below h top waits
      ∙ ap (λ (x : Purpose). pushed_frame x waiting ∷ pushed_frames below) kind in
      let number : ℕ = length (reserved_records c.history) in
      subst (Owed n start c) (sym is) record {
        kept = record {
          allowed = IsHistory-push c.history reserve h.allowed (subst MayReserve (sym stack) refl);
          stack = reserved_stack c.history moment len (pushed_frames below) stack
              ∙ ap (λ (x : Purpose). pushed_frame x (reserved number) ∷ pushed_frames below) (sym kind);
          lost =
              lost_on n start c frame below h top (record frame { state = reserved number; phase = idle } ∷ below)
              (λ page at. absurd (none_some (sym (ap passed_spot same) ∙ at))) (λ q. inr q) h;
        };
        window = inl (refl, refl);
      }
  reserve_owed answer after same waits (finds_nothing kind none a is) = leaves_waiting after same waits is
  reserve_owed answer after same waits (is_crowded needs full a is) = leaves_waiting after same waits is
  reserve_owed answer after same waits (is_worn needs full last a is) = leaves_waiting after same waits is
  reserve_owed answer after same waits (notes needs room small a is) =
      goes after idle (looking c.opened) same (λ page at. absurd (none_some at)) is

  idle_owed : (state : Progress) (answer : Answer) (after : Core) → frame.phase ≡ idle → frame.state ≡ state
      → IdleStep n size c frame below state answer after → Owed n start c after
  idle_owed waiting answer after same is step = reserve_owed answer after same is step
  idle_owed (reserved number) answer after same is step =
      subst (Owed n start c) (sym step.1) record { kept = h; window = inl (refl, refl) }
  idle_owed left answer after same is step = absurd step

  load_link_owed : (noted : ℕ) (answer : Answer) (after : Core) → frame.phase ≡ looking noted
      → LoadLinkStep n c frame below noted answer after → Owed n start c after
  load_link_owed noted answer after same (load_link_late step) =
      again noted answer after (looking noted) same (no_spot noted (looking noted) refl) step
  load_link_owed noted answer after same (sees_free page now at a is) =
      goes after (looking noted) (opening noted page) same (λ p is_p. absurd (none_some is_p)) is
  load_link_owed noted answer after same (sees_header page lost now sum at a is) =
      goes after (looking noted) (claiming noted page) same (λ p is_p. absurd (none_some is_p)) is
  load_link_owed noted answer after same (sees_update page lost now sum at a is) =
      goes after (looking noted) (looking_next helper noted page) same (λ p is_p. absurd (none_some is_p)) is

  claim_head_owed : (noted page : ℕ) (answer : Answer) (after : Core) → frame.phase ≡ claiming noted page
      → ClaimHeadStep n c frame below noted page answer after → Owed n start c after
  claim_head_owed noted page answer after same (claim_late step) =
      again noted answer after (claiming noted page) same (no_spot noted (claiming noted page) refl) step
  claim_head_owed noted page answer after same (claims lost now sum at a is) =
      let (open_yet, begun_yet, room, small) =
      (subst (PhaseKept n c.links c.order c.head c.done c.opened) same (top_kept n c frame below k top)).noted noted
      refl in
      let unread = k.head_le in let within = k.opened_le in
      let (here, page_is, head_at) = header_inside n c k noted page lost (omega arith) (omega arith) sum at in
      let frames : List Frame = record frame { phase = looking_next owner noted page } ∷ below in
      subst (Owed n start c) (sym is) record {
        kept = record {
          allowed = h.allowed;
          stack = top_stack n start c frame below h top;
          lost = λ f low high. dite (ℕ_discrete f c.head)
              (λ e. inr (inr (omega arith, inl (page, ap (λ (o : ℕ). Some (spot o page)) now))))
              (λ ne.
              lost_on n start c frame below h top frames
              (λ q is_q. absurd (none_some (sym (ap passed_spot same) ∙ is_q))) (λ q. inr q) h f low
              (omega arith));
        };
        window =
            inr (
              loses,
              record { step = record { may = (omega arith, omega arith); after_is = refl }; shown = (refl, refl) },
            );
      }
  claim_head_owed noted page answer after same (claim_fails now other a is) =
      goes after (claiming noted page) (looking noted) same (λ p is_p. absurd (none_some is_p)) is

  after_next_owed : (role : Role) (noted page : ℕ) (after : Core) (old : Phase) → frame.phase ≡ old
      → passed_spot old ≡ Some (spot noted page) → after ≡ in_phase c frame below (after_next role noted page)
      → Owed n start c after
  after_next_owed owner noted page after old same spot_is is =
      goes after old (clearing noted page) same (λ p at. (p, sym spot_is ∙ at)) is
  after_next_owed helper noted page after old same spot_is is =
      goes after old (opening noted page) same (λ p at. (p, sym spot_is ∙ at)) is

  load_next_owed : (role : Role) (noted page : ℕ) (answer : Answer) (after : Core)
      → frame.phase ≡ looking_next role noted page → LoadNextStep n c frame below role noted page answer after
      → Owed n start c after
  load_next_owed role noted page answer after same (load_next_late helps step) =
      again noted answer after (looking_next role noted page) same (one_spot noted page) step
  load_next_owed role noted page answer after same (sees_normal lost next goes_on sum at a is) =
      goes after (looking_next role noted page) (marking role noted page next) same (λ p at_p. (p, at_p)) is
  load_next_owed role noted page answer after same (sees_other lost goes_on sum other a is) =
      after_next_owed role noted page after (looking_next role noted page) same refl is

  clear_update_owed : (noted page : ℕ) (answer : Answer) (after : Core) → frame.phase ≡ clearing noted page
      → ClearUpdateStep n c frame below noted page answer after → Owed n start c after
  clear_update_owed noted page answer after same (clears lost sum at a is) = subst (Owed n start c) (sym is) record {
    kept =
        let kept =
        history_goes n start c frame below h top (opening noted page)
        (λ p at_p. (p, sym (ap passed_spot same) ∙ at_p)) in
        record { allowed = kept.allowed; stack = kept.stack; lost = kept.lost };
    window = inl (refl, refl);
  }

  -- while the frame closes fills, or looks for a wish, no frame is on the writer's stack
  pub rest_releasing : frame.phase ≡ releasing → (writer_after c.history).stack ≡ []
  rest_releasing same = let a = top_agrees c frame below s top in
      let gone = releasing_left frame.kind frame.state (subst (MayBeIn frame.kind frame.state) same a.0) in
      stack_empty n start c frame below h top gone (a.1 gone)

  pub rest_wishing : frame.phase ≡ wishing → (writer_after c.history).stack ≡ []
  rest_wishing same = let a = top_agrees c frame below s top in
      let gone = wishing_left frame.kind frame.state (subst (MayBeIn frame.kind frame.state) same a.0) in
      stack_empty n start c frame below h top gone (a.1 gone)

  release_fill_owed : (answer : Answer) (after : Core) → frame.phase ≡ releasing
      → ReleaseFillStep c frame below answer after → Owed n start c after
  release_fill_owed answer after same (releases alone more a is) = subst (Owed n start c) (sym is) record {
    kept = record { allowed = h.allowed; stack = h.stack; lost = h.lost };
    window =
        inr (
          closes,
          record {
            step =
                record {
                  may = (omega arith, settled_at_rest c.history (rest_releasing same));
                  after_is = refl;
                };
            shown = (refl, refl);
          },
        );
  }
  release_fill_owed answer after same (releases_last alone last a is) = subst (Owed n start c) (sym is) record {
    kept =
        let kept =
        history_goes n start c frame below h top wishing
        (λ page at. absurd (none_some (sym (ap passed_spot same) ∙ at))) in
        record { allowed = kept.allowed; stack = kept.stack; lost = kept.lost };
    window =
        inr (
          closes,
          record {
            step =
                record {
                  may = (omega arith, settled_at_rest c.history (rest_releasing same));
                  after_is = refl;
                };
            shown = (refl, refl);
          },
        );
  }

  load_wish_owed : (answer : Answer) (after : Core) → frame.phase ≡ wishing → LoadWishStep n c frame below answer after
      → Owed n start c after
  load_wish_owed answer after same (grants alone granted a is) = subst (Owed n start c) (sym is) record {
    kept =
        history_goes n start (with_history_event c wished) frame below (history_wished n start c h (rest_wishing same))
        top (looking c.opened) (λ page at. absurd (none_some (sym (ap passed_spot same) ∙ at)));
    window = inl (refl, refl);
  }
  load_wish_owed answer after same (closes_more alone not_granted more a is) =
      goes after wishing releasing same (λ page at. absurd (none_some at)) is
  load_wish_owed answer after same (goes_away alone not_granted last a is) = subst (Owed n start c) (sym is) record {
    kept = record {
      allowed = h.allowed;
      stack = rest_wishing same;
      lost =
          lost_on n start c frame below h top [] (λ page at. none_some (sym (ap passed_spot same) ∙ at))
          (λ q. subst (λ (fs : List Frame). Passing fs c.opened) alone q) h;
    };
    window = inl (refl, refl);
  }

module _ (n size start : ℕ) (c : Core) (frame : Frame) (below : List Frame) (k : LinksKept n c) (s : StackKept c)
    (h : HistoryKept n start c) (top : c.frames ≡ frame ∷ below) where
  links_with_shown : (after : Core) (g : ℕ) (l : Link) (what : RingEvent) → IsEventShown c after what
      → IsEventShown c (record after { links = (with_link n c g l).links }) what
  links_with_shown after g l (acts (push moment len)) x = absurd x
  links_with_shown after g l (acts push_close) x = absurd x
  links_with_shown after g l (acts open_fill) x = x
  links_with_shown after g l (acts reserve) x = absurd x
  links_with_shown after g l (acts (leave payload)) x = absurd x
  links_with_shown after g l (acts wished) x = absurd x
  links_with_shown after g l closes x = x
  links_with_shown after g l takes x = x
  links_with_shown after g l loses x = x

  -- a link is set, and the frame goes on
  with_link_owed : (after : Core) (g : ℕ) (l : Link) → Owed n start c after
      → Owed n start c (record after { links = (with_link n c g l).links })
  with_link_owed after g l owed =
      record {
        kept = record { allowed = owed.kept.allowed; stack = owed.kept.stack; lost = owed.kept.lost };
        window =
            ⊎_elim (λ stays. inl stays)
            (λ (what, h).
            inr (what, record { step = h.step; shown = links_with_shown after g l what h.shown }))
            owed.window;
      }

  mark_head_owed : (role : Role) (noted page next : ℕ) (answer : Answer) (after : Core)
      → frame.phase ≡ marking role noted page next → MarkHeadStep n c frame below role noted page next answer after
      → Owed n start c after
  mark_head_owed role noted page next answer after same (mark_late helps step) =
      again n size start c frame below k s h top noted answer after (marking role noted page next) same
      (one_spot n size start c frame below k s h top noted page) step
  mark_head_owed role noted page next answer after same (marks lost goes_on sum at a is) =
      subst (Owed n start c) (sym is)
      (with_link_owed (in_phase c frame below (after_next role noted page)) (suc lost) (header_link next (suc lost))
      (after_next_owed n size start c frame below k s h top role noted page
      (in_phase c frame below (after_next role noted page)) (marking role noted page next) same refl refl))
  mark_head_owed role noted page next answer after same (mark_fails lost goes_on sum other a is) =
      after_next_owed n size start c frame below k s h top role noted page after (marking role noted page next) same
      refl is

  begun_window : (kind : Purpose) (state : Progress) (page : ℕ)
      → window_of (after_begin kind state (with_new_tail c page) frame below)
      ≡ record { head = c.head; done = c.done; opened = c.opened + 1 }
  begun_window (for_record moment len) waiting page = refl
  begun_window for_close waiting page = refl
  begun_window kind (reserved number) page = refl
  begun_window kind left page = refl

  begun_front : (kind : Purpose) (state : Progress) (page : ℕ)
      → IsPrefix (c.history ++ open_fill ∷ []) (after_begin kind state (with_new_tail c page) frame below).history
  begun_front (for_record moment len) waiting page = ([], sym (append-nil (c.history ++ open_fill ∷ [])))
  begun_front for_close waiting page = (leave None ∷ [], refl)
  begun_front kind (reserved number) page = ([], sym (append-nil (c.history ++ open_fill ∷ [])))
  begun_front kind left page = ([], sym (append-nil (c.history ++ open_fill ∷ [])))

  begun_reader : (kind : Purpose) (state : Progress) (page : ℕ)
      → (after_begin kind state (with_new_tail c page) frame below).reader ≡ c.reader
  begun_reader (for_record moment len) waiting page = refl
  begun_reader for_close waiting page = refl
  begun_reader kind (reserved number) page = refl
  begun_reader kind left page = refl

  -- the frame that opens a fill waits for its record, or has left, alone
  opens_for : (noted page : ℕ) → frame.phase ≡ opening noted page → MayOpen (writer_after c.history).stack
  opens_for noted page same = let a = top_agrees c frame below s top in ⊎_elim
      (λ waits.
      subst MayOpen (sym (stack_waiting n start c frame below h top waits))
      (may_open frame.kind (pushed_frames below)))
      (λ gone. subst MayOpen (sym (stack_empty n start c frame below h top gone (a.1 gone))) tt)
      (waits_or_left frame.kind frame.state frame.phase a.0 (λ e. opens_idle (sym same ∙ e)))
    where
      opens_idle : opening noted page ≢ idle
      opens_idle e = cc

  open_fill_owed : (noted page : ℕ) (answer : Answer) (after : Core) → frame.phase ≡ opening noted page
      → OpenFillStep n c frame below noted page answer after → Owed n start c after
  open_fill_owed noted page answer after same (open_late step) =
      again n size start c frame below k s h top noted answer after (opening noted page) same
      (one_spot n size start c frame below k s h top noted page) step
  open_fill_owed noted page answer after same (opens now a is) =
      let (open_yet, inside, page_is) =
      (subst (PhaseKept n c.links c.order c.head c.done c.opened) same (top_kept n c frame below k top)).passed
      noted page refl in
      subst (Owed n start c) (sym is) record {
        kept =
            history_again n start (with_new_tail c page) frame below
            (history_begun n start c page h (opens_for noted page same)) top frame.kind frame.state refl
            (λ p at. let e =
            one_spot n size start c frame below k s h top noted page (c.opened + 1) p
            (sym (ap passed_spot same) ∙ at) in
            absurd (omega arith));
        window =
            inr (
              (acts open_fill),
              record {
                step = record { may = omega arith; after_is = begun_window frame.kind frame.state page };
                shown = (begun_front frame.kind frame.state page, begun_reader frame.kind frame.state page);
              },
            );
      }

frame_owed : (n size start : ℕ) (c : Core) (frame : Frame) (below : List Frame) (phase : Phase) (answer : Answer)
    (after : Core) → LinksKept n c → StackKept c → HistoryKept n start c → c.frames ≡ frame ∷ below
    → frame.phase ≡ phase → FrameStep n size c frame below phase answer after → Owed n start c after
frame_owed n size start c frame below idle answer after k s h top same step =
    idle_owed n size start c frame below k s h top frame.state answer after same refl step
frame_owed n size start c frame below (looking noted) answer after k s h top same step =
    load_link_owed n size start c frame below k s h top noted answer after same step
frame_owed n size start c frame below (claiming noted page) answer after k s h top same step =
    claim_head_owed n size start c frame below k s h top noted page answer after same step
frame_owed n size start c frame below (looking_next role noted page) answer after k s h top same step =
    load_next_owed n size start c frame below k s h top role noted page answer after same step
frame_owed n size start c frame below (marking role noted page next) answer after k s h top same step =
    mark_head_owed n size start c frame below k s h top role noted page next answer after same step
frame_owed n size start c frame below (clearing noted page) answer after k s h top same step =
    clear_update_owed n size start c frame below k s h top noted page answer after same step
frame_owed n size start c frame below (opening noted page) answer after k s h top same step =
    open_fill_owed n size start c frame below k s h top noted page answer after same step
frame_owed n size start c frame below releasing answer after k s h top same step =
    release_fill_owed n size start c frame below k s h top answer after same step
frame_owed n size start c frame below wishing answer after k s h top same step =
    load_wish_owed n size start c frame below k s h top answer after same step

-- ---- the steps of the reader

module _ (n start : ℕ) (c : Core) (k : LinksKept n c) (h : HistoryKept n start c) where
  -- the reader goes on, and takes nothing
  reader_owed : (after : Core) (spare_link : Link) (reader : Reader) → reader.taken ≡ c.reader.taken
      → after ≡ record c { spare_link = spare_link; reader = reader } → Owed n start c after
  reader_owed after spare_link reader same is = subst (Owed n start c) (sym is) record {
    kept =
        record {
          allowed = h.allowed;
          stack = h.stack;
          lost =
              λ f low high.
              subst (λ (taken : List TakenFill). WhyPassed n taken c.opened c.frames f) (sym same)
              (h.lost f low high);
        };
    window = inl (refl, same);
  }

  load_head_owed : (answer : Answer) (after : Core) → LoadHeadStep n c answer after → Owed n start c after
  load_head_owed answer after (loads_header page fill at a is) = reader_owed after c.spare_link _ refl is
  load_head_owed answer after (loads_update page lost at a is) = reader_owed after c.spare_link _ refl is
  load_head_owed answer after (loads_owed page at a is) = reader_owed after c.spare_link _ refl is
  load_head_owed answer after (loads_passed page fill least at more sum a is) = reader_owed after c.spare_link _ refl is

  load_done_owed : (page fill : ℕ) (answer : Answer) (after : Core) → LoadDoneStep c page fill answer after
      → Owed n start c after
  load_done_owed page fill answer after (finds_none le a is) = reader_owed after c.spare_link _ refl is
  load_done_owed page fill answer after (finds_closed below a is) = reader_owed after c.spare_link _ refl is

  swap_head_owed : (page fill : ℕ) (answer : Answer) (after : Core) → fill < c.done
      → SwapHeadStep n c page fill answer after → Owed n start c after
  swap_head_owed page fill answer after closed (swaps at a is) =
      let (g, low_g, high_g, same, link) = fill_at n c k fill in
      let reported = header_reports n c.links c.order c.head c.frames g page fill link (same ∙ at) in
      let here : fill ≡ c.head = reported.0 ∙ reported.1 in
      let t : TakenFill = taken_fill c page fill in
      subst (Owed n start c) (sym is) record {
        kept = record {
          allowed = h.allowed;
          stack = h.stack;
          lost = λ f low high. dite (ℕ_discrete f c.head)
              (λ e. inl (subst (TakenIn (c.reader.taken ++ t ∷ [])) (here ∙ sym e) (taken_last c.reader.taken t)))
              (λ ne.
              why_stays n c.reader.taken (c.reader.taken ++ t ∷ []) c.opened c.opened c.frames c.frames f
              (taken_more c.reader.taken t f) (omega arith) (λ p. inr (refl, p)) (h.lost f low (omega arith)));
        };
        window =
            inr (takes, record { step = record { may = omega arith; after_is = refl }; shown = (refl, t, here, refl) });
      }
  swap_head_owed page fill answer after closed (swap_fails at a is) = reader_owed after c.spare_link _ refl is

  read_owed : (phase : ReaderPhase) (answer : Answer) (after : Core)
      → ReaderKept n c.links c.order c.spare_link c.head c.done c.reader.hint phase → ReadStep n c phase answer after
      → Owed n start c after
  read_owed loading_head answer after facts step = load_head_owed answer after step
  read_owed (loading_done page fill) answer after facts step = load_done_owed page fill answer after step
  read_owed (storing_spare_link page fill) answer after facts step = reader_owed after _ _ refl step.after_is
  read_owed (swapping page fill) answer after facts step = swap_head_owed page fill answer after facts.1 step

-- ---- every step

pushed_owed : (n start : ℕ) (c after : Core) (kind : Purpose) (history_event : HistoryEvent) → HistoryKept n start c
    → MayAct (writer_after c.history).stack history_event
    → ((after_event (writer_after c.history).stack (writer_after c.history).records history_event).stack
    ≡ pushed_frame kind waiting ∷ (writer_after c.history).stack)
    → after
    ≡ record c {
      frames = record { kind = kind; state = waiting; phase = idle } ∷ c.frames;
      history = c.history ++ history_event ∷ [];
    }
    → Owed n start c after
pushed_owed n start c after kind history_event h may pushes is = subst (Owed n start c) (sym is) record {
  kept = record {
    allowed = IsHistory-push c.history history_event h.allowed may;
    stack =
        ap (λ (w : WriterState). w.stack) (writer_snoc c.history history_event) ∙ pushes
        ∙ ap (λ (s : List PushedFrame). pushed_frame kind waiting ∷ s) h.stack;
    lost =
        λ f low high.
        why_stays n c.reader.taken c.reader.taken c.opened c.opened c.frames
        (record { kind = kind; state = waiting; phase = idle } ∷ c.frames) f (λ t. t) (omega arith)
        (λ p. inr (refl, inr p)) (h.lost f low high);
  };
  window = inl (refl, refl);
}

-- nothing changes
stays_owed : (n start : ℕ) (c after : Core) → HistoryKept n start c → after ≡ c → Owed n start c after
stays_owed n start c after h is = subst (Owed n start c) (sym is) record { kept = h; window = inl (refl, refl) }

pub step_owed : (n size start : ℕ) (c : Core) (event : Event) (answer : Answer) (after : Core) → LinksKept n c
    → StackKept c → HistoryKept n start c → StepCases n size c event answer after → Owed n start c after
step_owed n size start c event answer after k s h (push_step moment len e few fits early a is) =
    pushed_owed n start c after (for_record moment len) (push moment len) h tt refl is
step_owed n size start c event answer after k s h (push_refused moment len why e refused a is) =
    stays_owed n start c after h is
step_owed n size start c event answer after k s h (close_step e few a is) =
    pushed_owed n start c after for_close push_close h tt refl is
step_owed n size start c event answer after k s h (close_refused e many a is) = stays_owed n start c after h is
step_owed n size start c event answer after k s h (frame_step frame below e top step) =
    frame_owed n size start c frame below frame.phase answer after k s h top refl step
step_owed n size start c event answer after k s h (frame_lacks e none a is) = stays_owed n start c after h is
step_owed n size start c event answer after k s h
    (end_step payload frame below number moment len e top state kind slot a is) =
    leaves n size start c frame below k s h top after (pushed_frame frame.kind (reserved number)) (Some payload)
    (reserved_idle frame.kind frame.state number frame.phase (top_agrees c frame below s top).0 state)
    (stack_reserved n start c frame below h top number state)
    (subst (λ (x : Purpose). MayLeave (pushed_frame x (reserved number) ∷ pushed_frames below) (Some payload))
    (sym kind) slot) is
step_owed n size start c event answer after k s h (end_lacks payload e none a is) = stays_owed n start c after h is
step_owed n size start c event answer after k s h (end_early payload frame below e top none a is) =
    stays_owed n start c after h is
step_owed n size start c event answer after k s h (read_step e step) =
    read_owed n start c k h c.reader.phase answer after k.reader step
step_owed n size start c event answer after k s h (store_wish_step e a is) =
    subst (Owed n start c) (sym is)
    record { kept = record { allowed = h.allowed; stack = h.stack; lost = h.lost }; window = inl (refl, refl) }
