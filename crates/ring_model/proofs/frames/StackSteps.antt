-- Each step keeps what holds of the stack of frames.
use Rattle.std.proofs.Common.{◌≡◌, ◌≢◌, ℕ, zero, suc, ◌+◌, ◌<◌, ◌≤◌, List, [], ◌∷◌, length, Option, Some, None, refl}
use Rattle.std.proofs.Common.{sym, ap, ◌∙◌, subst, arith}
use Rattle.std.specs.Prelude.{◌==◌, slice_get}
use Rattle.std.proofs.lemmas.Bool.{cond_both}
use Rattle.trace_model.specs.declared.limits.TheConstants.{MAX_FRAMES}
use Rattle.trace_model.specs.Frames.{Purpose, for_record, for_close, Progress, waiting, reserved, left, Role, owner}
use Rattle.trace_model.specs.Frames.{helper, Phase, idle, looking, claiming, looking_next, marking, clearing, opening}
use Rattle.trace_model.specs.Frames.{releasing, wishing, Frame}
use Rattle.trace_model.specs.Ring.{ReaderPhase, loading_head, loading_done, storing_spare_link, swapping, Core, IsStart}
use Rattle.trace_model.specs.Steps.{Event, Answer, closing_phase, after_leave, frames_after_leave, after_next}
use Rattle.trace_model.specs.Steps.{after_begin}
use Rattle.trace_model.proofs.steps.StepCases.{StepCases, BeginsAgain, reserves, finds_nothing, is_crowded, is_worn}
use Rattle.trace_model.proofs.steps.StepCases.{notes, load_link_late, sees_free, sees_header, sees_update, claim_late}
use Rattle.trace_model.proofs.steps.StepCases.{claims, claim_fails, load_next_late, sees_normal, sees_other, mark_late}
use Rattle.trace_model.proofs.steps.StepCases.{marks, mark_fails, clears, open_late, opens, releases, releases_last}
use Rattle.trace_model.proofs.steps.StepCases.{grants, closes_more, goes_away, IdleStep, FrameStep, loads_header}
use Rattle.trace_model.proofs.steps.StepCases.{loads_update, loads_owed, loads_passed, finds_none, finds_closed, swaps}
use Rattle.trace_model.proofs.steps.StepCases.{swap_fails, ReadStep, push_step, push_refused, close_step, close_refused}
use Rattle.trace_model.proofs.steps.StepCases.{frame_step, frame_lacks, end_step, end_lacks, end_early, read_step}
use Rattle.trace_model.proofs.steps.StepCases.{store_wish_step}
use Rattle.ring_model.specs.KeptStack.{IsForRecord, MayBeIn, FramesAgree, StackAt, StackKept}
use Rattle.ring_model.specs.RingKept.{IsRingKept}
use Rattle.ring_model.proofs.links.FramePhases.{none_some}

no_frames : (frame : Frame) (below : List Frame) → frame ∷ below ≢ []
no_frames frame below e = cc

-- ---- phases and states

waits_on : (number : ℕ) → reserved number ≢ left
waits_on number e = cc

closing_moves : (c : Core) → closing_phase c ≢ idle
closing_moves c =
    cond_both ((c.done + 1) == c.opened) wishing releasing (λ (p : Phase). p ≢ idle) (λ _ e. cc) (λ _ e. cc)

-- a frame that is about to open a fill goes on with that, whatever its state
under_way : (kind : Purpose) (state : Progress) (phase next : Phase) → phase ≢ idle → next ≢ idle → next ≢ releasing
    → next ≢ wishing → MayBeIn kind state phase → MayBeIn kind state next
under_way kind waiting phase next moves on not_releasing not_wishing may = (not_releasing, not_wishing)
under_way kind (reserved number) phase next moves on not_releasing not_wishing may = absurd (moves may.1)
under_way kind left phase next moves on not_releasing not_wishing may = on

pub releasing_left : (kind : Purpose) (state : Progress) (phase : Phase) → phase ≡ releasing → MayBeIn kind state phase
    → state ≡ left
releasing_left kind waiting phase is may = absurd (may.0 is)
releasing_left kind (reserved number) phase is may = absurd (differ (sym is ∙ may.1))
  where
    differ : releasing ≢ idle
    differ e = cc
releasing_left kind left phase is may = refl

pub wishing_left : (kind : Purpose) (state : Progress) (phase : Phase) → phase ≡ wishing → MayBeIn kind state phase
    → state ≡ left
wishing_left kind waiting phase is may = absurd (may.1 is)
wishing_left kind (reserved number) phase is may = absurd (differ (sym is ∙ may.1))
  where
    differ : wishing ≢ idle
    differ e = cc
wishing_left kind left phase is may = refl

-- one that has left doesn't rest
left_on : (kind : Purpose) (state : Progress) (next : Phase) → state ≡ left → next ≢ idle → MayBeIn kind state next
left_on kind waiting next is on = absurd (let z : ⊥ = cc in z)
left_on kind (reserved number) next is on = absurd (waits_on number is)
left_on kind left next is on = on

-- ---- a frame that goes on, and one that leaves

going_on : (done opened : ℕ) (frame : Frame) (below : List Frame) → length (frame ∷ below) ≤ MAX_FRAMES
    → FramesAgree (frame ∷ below) → StackAt done opened (frame ∷ below)
going_on done opened frame below few agree =
    record { few = few; agree = agree; at_rest = λ none. absurd (no_frames frame below none) }

-- a frame that leaves is gone, or it is the last one and stays to close fills
leaving : (c : Core) (frame : Frame) (below : List Frame) → length (frame ∷ below) ≤ MAX_FRAMES → FramesAgree below
    → StackAt c.done c.opened (frames_after_leave c frame below)
leaving c frame [] few agree =
    going_on c.done c.opened (record frame { state = left; phase = closing_phase c }) [] few
    (closing_moves c, (λ _. refl), tt)
leaving c frame (next ∷ below) few agree = going_on c.done c.opened next below (omega arith) agree

beginning : (c : Core) (kind : Purpose) (state : Progress) (frame : Frame) (below : List Frame) → frame.kind ≡ kind
    → frame.state ≡ state → length (frame ∷ below) ≤ MAX_FRAMES → FramesAgree (frame ∷ below)
    → StackKept (after_begin kind state c frame below)
beginning c (for_record moment len) waiting frame below kind_is state_is few agree =
    going_on c.done c.opened (record frame { phase = idle }) below few
    (subst (λ (s : Progress). MayBeIn frame.kind s idle) (sym state_is) ((λ e. cc), (λ e. cc)), agree.1, agree.2)
beginning c for_close waiting frame below kind_is state_is few agree = leaving c frame below few agree.2
beginning c kind (reserved number) frame below kind_is state_is few agree =
    going_on c.done c.opened (record frame { phase = idle }) below few (
      subst (λ (s : Progress). MayBeIn frame.kind s idle) (sym state_is)
          ((subst (λ (s : Progress). MayBeIn frame.kind s frame.phase) state_is agree.0).0, refl),
      agree.1,
      agree.2,
    )
beginning c kind left frame below kind_is state_is few agree =
    going_on c.done c.opened (record frame { phase = closing_phase c }) below few
    (left_on frame.kind frame.state (closing_phase c) state_is (closing_moves c), agree.1, agree.2)

-- ---- the frame on top

module _ (n size : ℕ) (c : Core) (frame : Frame) (below : List Frame) (answer : Answer) (after : Core)
    (k : StackAt c.done c.opened (frame ∷ below)) where
  -- in another phase of its state
  stack_in : (next : Core) (phase : Phase) → next.frames ≡ record frame { phase = phase } ∷ below
      → MayBeIn frame.kind frame.state phase → after ≡ next → StackKept after
  stack_in next phase top may is =
      subst StackKept (sym is)
      (subst (StackAt next.done next.opened) (sym top)
      (going_on next.done next.opened (record frame { phase = phase }) below k.few (may, k.agree.1, k.agree.2)))

  stack_goes : (next : Core) (phase : Phase) → next.frames ≡ record frame { phase = phase } ∷ below → frame.phase ≢ idle
      → phase ≢ idle → phase ≢ releasing → phase ≢ wishing → after ≡ next → StackKept after
  stack_goes next phase top moves on not_releasing not_wishing is =
      stack_in next phase top
      (under_way frame.kind frame.state frame.phase phase moves on not_releasing not_wishing k.agree.0) is

  stack_leaves : (payload : Option (List ℕ)) → after ≡ after_leave c frame below payload → StackKept after
  stack_leaves payload is = subst StackKept (sym is) (leaving c frame below k.few k.agree.2)

  stack_again : (noted : ℕ) → BeginsAgain c frame below noted answer after → StackKept after
  stack_again noted step =
      subst StackKept (sym step.after_is) (beginning c frame.kind frame.state frame below refl refl k.few k.agree)

  stack_next : (next : Core) (role : Role) (noted page : ℕ)
      → next.frames ≡ record frame { phase = after_next role noted page } ∷ below → frame.phase ≢ idle → after ≡ next
      → StackKept after
  stack_next next owner noted page top moves is =
      stack_goes next (clearing noted page) top moves (λ e. cc) (λ e. cc) (λ e. cc) is
  stack_next next helper noted page top moves is =
      stack_goes next (opening noted page) top moves (λ e. cc) (λ e. cc) (λ e. cc) is

  stack_idle : (state : Progress) → frame.state ≡ state → StackKept c → IdleStep n size c frame below state answer after
      → StackKept after
  stack_idle waiting at q (reserves moment len r kind r_is fits a is) = subst StackKept (sym is)
      (going_on c.done c.opened (record frame { state = reserved _; phase = idle }) below k.few
      ((subst IsForRecord (sym kind) tt, refl), (λ e. absurd (waits_on _ e)), k.agree.2))
  stack_idle waiting at q (finds_nothing kind none a is) = stack_leaves None is
  stack_idle waiting at q (is_crowded needs full a is) = stack_leaves None is
  stack_idle waiting at q (is_worn needs room last a is) = stack_leaves None is
  stack_idle waiting at q (notes needs room small a is) =
      stack_in _ (looking c.opened) refl
      (subst (λ (s : Progress). MayBeIn frame.kind s (looking c.opened)) (sym at) ((λ e. cc), (λ e. cc))) is
  stack_idle (reserved number) at q step = subst StackKept (sym step.1) q
  stack_idle left at q step = absurd step

  stack_frame : (phase : Phase) → frame.phase ≡ phase → c.frames ≡ frame ∷ below → StackKept c
      → FrameStep n size c frame below phase answer after → StackKept after
  stack_frame idle at top q step = stack_idle frame.state refl q step
  stack_frame (looking noted) at top q (load_link_late step) = stack_again noted step
  stack_frame (looking noted) at top q (sees_free page now l a is) =
      stack_goes _ (opening noted page) refl (λ e. cc) (λ e. cc) (λ e. cc) (λ e. cc) is
  stack_frame (looking noted) at top q (sees_header page lost now sum l a is) =
      stack_goes _ (claiming noted page) refl (λ e. cc) (λ e. cc) (λ e. cc) (λ e. cc) is
  stack_frame (looking noted) at top q (sees_update page lost now sum l a is) =
      stack_goes _ (looking_next helper noted page) refl (λ e. cc) (λ e. cc) (λ e. cc) (λ e. cc) is
  stack_frame (claiming noted page) at top q (claim_late step) = stack_again noted step
  stack_frame (claiming noted page) at top q (claims lost now sum l a is) =
      stack_goes _ (looking_next owner noted page) refl (λ e. cc) (λ e. cc) (λ e. cc) (λ e. cc) is
  stack_frame (claiming noted page) at top q (claim_fails now other a is) =
      stack_goes _ (looking noted) refl (λ e. cc) (λ e. cc) (λ e. cc) (λ e. cc) is
  stack_frame (looking_next role noted page) at top q (load_next_late helps step) = stack_again noted step
  stack_frame (looking_next role noted page) at top q (sees_normal lost next on sum l a is) =
      stack_goes _ (marking role noted page next) refl (λ e. cc) (λ e. cc) (λ e. cc) (λ e. cc) is
  stack_frame (looking_next role noted page) at top q (sees_other lost on sum other a is) =
      stack_next _ role noted page refl (λ e. cc) is
  stack_frame (marking role noted page next) at top q (mark_late helps step) = stack_again noted step
  stack_frame (marking role noted page next) at top q (marks lost on sum l a is) =
      stack_next _ role noted page refl (λ e. cc) is
  stack_frame (marking role noted page next) at top q (mark_fails lost on sum other a is) =
      stack_next _ role noted page refl (λ e. cc) is
  stack_frame (clearing noted page) at top q (clears lost sum l a is) =
      stack_goes _ (opening noted page) refl (λ e. cc) (λ e. cc) (λ e. cc) (λ e. cc) is
  stack_frame (opening noted page) at top q (open_late step) = stack_again noted step
  stack_frame (opening noted page) at top q (opens now a is) =
      subst StackKept (sym is) (beginning _ frame.kind frame.state frame below refl refl k.few k.agree)
  stack_frame releasing at top q (releases alone more a is) =
      subst StackKept (sym is)
      record { few = q.few; agree = q.agree; at_rest = λ none. absurd (no_frames frame below (sym top ∙ none)) }
  stack_frame releasing at top q (releases_last alone last a is) =
      stack_in _ wishing refl
      (left_on frame.kind frame.state wishing (releasing_left frame.kind frame.state frame.phase at k.agree.0)
      (λ e. cc)) is
  stack_frame wishing at top q (grants alone granted a is) =
      stack_in _ (looking c.opened) refl
      (left_on frame.kind frame.state (looking c.opened)
      (wishing_left frame.kind frame.state frame.phase at k.agree.0) (λ e. cc)) is
  stack_frame wishing at top q (closes_more alone denied more a is) =
      stack_in _ releasing refl
      (left_on frame.kind frame.state releasing (wishing_left frame.kind frame.state frame.phase at k.agree.0)
      (λ e. cc)) is
  stack_frame wishing at top q (goes_away alone denied none_left a is) =
      subst StackKept (sym is) record { few = omega arith; agree = tt; at_rest = λ none. none_left }

-- ---- every step

stack_read : (n : ℕ) (c : Core) (phase : ReaderPhase) (answer : Answer) (after : Core) → StackKept c
    → ReadStep n c phase answer after → StackKept after
stack_read n c loading_head answer after q (loads_header page fill at a is) = subst StackKept (sym is) q
stack_read n c loading_head answer after q (loads_update page lost at a is) = subst StackKept (sym is) q
stack_read n c loading_head answer after q (loads_owed page at a is) = subst StackKept (sym is) q
stack_read n c loading_head answer after q (loads_passed page fill least at more sum a is) = subst StackKept (sym is) q
stack_read n c (loading_done page fill) answer after q (finds_none le a is) = subst StackKept (sym is) q
stack_read n c (loading_done page fill) answer after q (finds_closed below a is) = subst StackKept (sym is) q
stack_read n c (storing_spare_link page fill) answer after q step = subst StackKept (sym step.after_is) q
stack_read n c (swapping page fill) answer after q (swaps at a is) = subst StackKept (sym is) q
stack_read n c (swapping page fill) answer after q (swap_fails at a is) = subst StackKept (sym is) q

stack_pushed : (c after next : Core) (kind : Purpose) → length c.frames < MAX_FRAMES → StackKept c
    → next.frames ≡ record { kind = kind; state = waiting; phase = idle } ∷ c.frames → after ≡ next → StackKept after
stack_pushed c after next kind few q top is = let new : Frame = record { kind = kind; state = waiting; phase = idle } in
    subst StackKept (sym is)
    (subst (StackAt next.done next.opened) (sym top)
    (going_on next.done next.opened new c.frames (omega arith)
    (((λ e. cc), (λ e. cc)), (λ e. absurd (stays e)), q.agree)))
  where
    stays : waiting ≢ left
    stays e = cc

stack_top : (c : Core) (frame : Frame) (below : List Frame) → c.frames ≡ frame ∷ below → StackKept c
    → StackAt c.done c.opened (frame ∷ below)
stack_top c frame below top q = subst (StackAt c.done c.opened) top q

-- the frame on top is in a phase of its state, and those below it agree
pub top_agrees : (c : Core) (frame : Frame) (below : List Frame) → c.frames ≡ frame ∷ below → StackKept c
    → FramesAgree (frame ∷ below)
top_agrees c frame below top q = subst FramesAgree top q.agree

pub stack_step : (n size : ℕ) (c : Core) (event : Event) (answer : Answer) (after : Core) → StackKept c
    → StepCases n size c event answer after → StackKept after
stack_step n size c event answer after q (push_step moment len e few fits early a is) =
    stack_pushed c after _ (for_record moment len) few q refl is
stack_step n size c event answer after q (push_refused moment len why e refused a is) = subst StackKept (sym is) q
stack_step n size c event answer after q (close_step e few a is) = stack_pushed c after _ for_close few q refl is
stack_step n size c event answer after q (close_refused e many a is) = subst StackKept (sym is) q
stack_step n size c event answer after q (frame_step frame below e top step) =
    stack_frame n size c frame below answer after (stack_top c frame below top q) frame.phase refl top q step
stack_step n size c event answer after q (frame_lacks e none a is) = subst StackKept (sym is) q
stack_step n size c event answer after q (end_step payload frame below number moment len e top phase kind slot a is) =
    stack_leaves n size c frame below answer after (stack_top c frame below top q) (Some payload) is
stack_step n size c event answer after q (end_lacks payload e none a is) = subst StackKept (sym is) q
stack_step n size c event answer after q (end_early payload frame below e top none a is) = subst StackKept (sym is) q
stack_step n size c event answer after q (read_step e step) = stack_read n c c.reader.phase answer after q step
stack_step n size c event answer after q (store_wish_step e a is) = subst StackKept (sym is) q

pub stack_start : (n start : ℕ) (c : Core) → IsStart n start c → StackKept c
stack_start n start c s = let done = s.done in let opened = s.opened in
    subst (StackAt c.done c.opened) (sym s.frames)
    record { few = omega arith; agree = tt; at_rest = λ none. omega arith }

-- ---- the laws of the stack

pub few_stand : (n size start : ℕ) (c : Core) → IsRingKept n size start c → length c.frames ≤ MAX_FRAMES
few_stand n size start c r = r.stack.few

pub closed_at_rest : (n size start : ℕ) (c : Core) → IsRingKept n size start c → c.frames ≡ [] → c.done + 1 ≡ c.opened
closed_at_rest n size start c r none = r.stack.at_rest none

-- what holds of a frame that is at this place of the stack
abbrev StandsAt : List Frame → ℕ → Frame → Type 0
StandsAt frames k frame =
    (frame.state ≡ left → k + 1 ≡ length frames) × (frame.phase ≡ releasing → frame.state ≡ left)
    × (frame.phase ≡ wishing → frame.state ≡ left)

stands_at : (frames : List Frame) (k : ℕ) (frame : Frame) → FramesAgree frames → slice_get frames k ≡ Some frame
    → StandsAt frames k frame
stands_at [] k frame agree at = absurd (none_some at)
stands_at (x ∷ below) zero frame agree at =
    let same : x ≡ frame = cc in
    subst (StandsAt (x ∷ below) 0) same (
      (λ is. ap (λ (l : List Frame). suc (length l)) (sym (agree.1 is))),
      (λ is. releasing_left x.kind x.state x.phase is agree.0),
      (λ is. wishing_left x.kind x.state x.phase is agree.0),
    )
stands_at (x ∷ below) (suc k) frame agree at = let rest = stands_at below k frame agree.2 at in
    ((λ is. let last = rest.0 is in omega arith), rest.1, rest.2)

pub only_bottom_left : (n size start : ℕ) (c : Core) (k : ℕ) (frame : Frame) → IsRingKept n size start c
    → slice_get c.frames k ≡ Some frame → StandsAt c.frames k frame
only_bottom_left n size start c k frame r at = stands_at c.frames k frame r.stack.agree at
