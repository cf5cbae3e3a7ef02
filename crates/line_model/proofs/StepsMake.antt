-- What one step of the top frame makes.
use Rattle.std.proofs.Common.{◌≡◌, ◌≢◌, ℕ, ◌+◌, ◌≤◌, ◌⊎◌, List, [], ◌∷◌, ◌++◌, Some, None, refl, sym, ap, ◌∙◌, subst}
use Rattle.std.proofs.Common.{inl, inr, arith}
use Rattle.trace_model.specs.declared.limits.TheConstants.{LINK_FILLS}
use Rattle.trace_model.specs.History.{open_fill, Reservation, close_frame, writer_after}
use Rattle.trace_model.specs.Packing.{tail_of, FitsBehind, next_reservation}
use Rattle.trace_model.specs.Frames.{Purpose, for_record, for_close, Progress, waiting, reserved, left, owner, helper}
use Rattle.trace_model.specs.Frames.{Phase, idle, looking, claiming, looking_next, marking, clearing, opening}
use Rattle.trace_model.specs.Frames.{releasing, wishing, Frame, pushed_frames}
use Rattle.trace_model.specs.Ring.{Core}
use Rattle.trace_model.specs.Steps.{steps, Answer, NeedsPage, new_reservation, closing_phase, after_next, after_begin}
use Rattle.trace_model.specs.Steps.{with_new_tail, Step}
use Rattle.trace_model.proofs.steps.StepCases.{BeginsAgain, IdleStep, reserves, finds_nothing, is_crowded, is_worn}
use Rattle.trace_model.proofs.steps.StepCases.{notes, FrameStep, load_link_late, sees_free, sees_header, sees_update}
use Rattle.trace_model.proofs.steps.StepCases.{claim_late, claims, claim_fails, load_next_late, sees_normal, sees_other}
use Rattle.trace_model.proofs.steps.StepCases.{mark_late, marks, mark_fails, clears, open_late, opens, releases}
use Rattle.trace_model.proofs.steps.StepCases.{releases_last, grants, closes_more, goes_away}
use Rattle.trace_model.proofs.histories.NextEvent.{opened_stack}
use Rattle.trace_model.proofs.packing.PackedHistories.{wanted_record, wanted_close}
use Rattle.ring_model.specs.RingKept.{IsRingKept}
use Rattle.ring_model.proofs.frames.StackSteps.{top_agrees, releasing_left, wishing_left}
use Rattle.ring_model.proofs.frames.TopSteps.{top_stepped}
use Rattle.line_model.specs.WriterCalls.{writer_of}
use Rattle.line_model.specs.CallEvents.{LeavesNone, DoesntFit, CallMakes, goes_on, begins, has_reserved, leaves}
use Rattle.line_model.specs.CallEvents.{leaves_fill, closes_one, finds_wish, is_gone}

abbrev framed : Purpose → Progress → Phase → Frame
framed kind state phase = record { kind = kind; state = state; phase = phase }

module _ (n size start : ℕ) (c : Core) (below : List Frame) (answer : Answer) (after : Core)
    (r : IsRingKept n size start c) where
  abbrev Made : Purpose → Progress → Phase → Type 0
  Made kind state phase = CallMakes n size c (framed kind state phase) below after

  -- the stack of the history if this frame is the top one and waits
  waits_record : (moment len : ℕ) (phase : Phase)
      → c.frames ≡ framed (for_record moment len) waiting phase ∷ below
      → next_reservation c.history ≡ Some (new_reservation c moment len)
  waits_record moment len phase top =
      wanted_record c.history moment len (pushed_frames below) (r.history.stack ∙ ap pushed_frames top)

  close_stack : (phase : Phase)
      → c.frames ≡ framed for_close waiting phase ∷ below
      → (writer_after c.history).stack ≡ close_frame ∷ pushed_frames below
  close_stack phase top = r.history.stack ∙ ap pushed_frames top

  waits_close : (phase : Phase) → c.frames ≡ framed for_close waiting phase ∷ below → next_reservation c.history ≡ None
  waits_close phase top = wanted_close c.history (pushed_frames below) (close_stack phase top)

  none_wanted : next_reservation c.history ≡ None → LeavesNone n size c
  none_wanted none res is = absurd (let both : None ≡ Some res = sym none ∙ is in cc)

  none_fit : (kind : Purpose) (state : Progress) (phase : Phase)
      → next_reservation c.history ≡ None
      → DoesntFit size c (framed kind state phase)
  none_fit kind state phase none waits at res is fits = absurd (let both : None ≡ Some res = sym none ∙ is in cc)

  not_idle : (kind : Purpose) (state : Progress) (phase : Phase)
      → phase ≢ idle
      → DoesntFit size c (framed kind state phase)
  not_idle kind state phase ne waits at res is fits = ne at

  not_waiting : (kind : Purpose) (phase : Phase) → DoesntFit size c (framed kind left phase)
  not_waiting kind phase waits at res is fits = absurd (let both : left ≡ waiting = waits in cc)

  some_is : (a b : Reservation) → Some a ≡ Some b → a ≡ b
  some_is a b e = cc

  -- a page is needed, so the record wanted doesn't fit
  needs_no_fit : (moment len : ℕ) (phase : Phase)
      → c.frames ≡ framed (for_record moment len) waiting phase ∷ below
      → NeedsPage size c (for_record moment len)
      → (res : Reservation)
      → next_reservation c.history ≡ Some res
      → FitsBehind size (tail_of c.history) res
      → ⊥
  needs_no_fit moment len phase top needs res is fits =
      needs (subst (FitsBehind size (tail_of c.history))
      (some_is res (new_reservation c moment len) (sym is ∙ waits_record moment len phase top)) fits)

  fits_not : (kind : Purpose) (phase : Phase)
      → c.frames ≡ framed kind waiting phase ∷ below
      → NeedsPage size c kind
      → DoesntFit size c (framed kind waiting phase)
  fits_not (for_record moment len) phase top needs =
      λ waits at res is fits. needs_no_fit moment len phase top needs res is fits
  fits_not for_close phase top needs = none_fit for_close waiting phase (waits_close phase top)

  refused_none : (kind : Purpose) (phase : Phase)
      → c.frames ≡ framed kind waiting phase ∷ below
      → NeedsPage size c kind
      → (c.opened ≡ c.done + n) ⊎ (LINK_FILLS ≤ c.opened + n)
      → LeavesNone n size c
  refused_none (for_record moment len) phase top needs why =
      λ res is. (needs_no_fit moment len phase top needs res is, why)
  refused_none for_close phase top needs why = none_wanted (waits_close phase top)

  on : (kind : Purpose) (state : Progress) (phase next_phase : Phase) (next : Core)
      → (state ≡ waiting) ⊎ (state ≡ left)
      → phase ≢ idle
      → after ≡ next
      → writer_of next ≡ record (writer_of c) { frames = framed kind state next_phase ∷ below }
      → Made kind state phase
  on kind state phase next_phase next active ne is same =
      goes_on next_phase active (not_idle kind state phase ne) (ap writer_of is ∙ same)

  late : (kind : Purpose) (state : Progress) (phase : Phase) (noted : ℕ)
      → (state ≡ waiting) ⊎ (state ≡ left)
      → phase ≢ idle
      → c.frames ≡ framed kind state phase ∷ below
      → BeginsAgain c (framed kind state phase) below noted answer after
      → Made kind state phase
  late (for_record moment len) waiting phase noted active ne top step =
      on (for_record moment len) waiting phase idle _ active ne step.after_is refl
  late for_close waiting phase noted active ne top step =
      leaves refl (none_wanted (waits_close phase top)) (not_idle for_close waiting phase ne)
      (ap writer_of step.after_is)
  late kind (reserved number) phase noted (inl e) ne top step = absurd (cc)
  late kind (reserved number) phase noted (inr e) ne top step = absurd (cc)
  late kind left phase noted active ne top step = on kind left phase (closing_phase c) _ active ne step.after_is refl

  opened_now : (kind : Purpose) (state : Progress) (noted page : ℕ)
      → (state ≡ waiting) ⊎ (state ≡ left)
      → c.frames ≡ framed kind state (opening noted page) ∷ below
      → after ≡ after_begin kind state (with_new_tail c page) (framed kind state (opening noted page)) below
      → Made kind state (opening noted page)
  opened_now (for_record moment len) waiting noted page active top is =
      begins idle active (not_idle (for_record moment len) waiting (opening noted page) (λ e. cc)) (ap writer_of is)
  opened_now for_close waiting noted page active top is =
      leaves_fill page refl refl
      (wanted_close (c.history ++ open_fill ∷ []) (pushed_frames below)
      (opened_stack c.history (close_frame ∷ pushed_frames below) (close_stack (opening noted page) top)))
      (not_idle for_close waiting (opening noted page) (λ e. cc)) (ap writer_of is)
  opened_now kind (reserved number) noted page (inl e) top is = absurd (cc)
  opened_now kind (reserved number) noted page (inr e) top is = absurd (cc)
  opened_now kind left noted page active top is =
      begins (closing_phase (with_new_tail c page)) active (not_waiting kind (opening noted page)) (ap writer_of is)

  idle_made : (kind : Purpose) (state : Progress)
      → (state ≡ waiting) ⊎ (state ≡ left)
      → c.frames ≡ framed kind state idle ∷ below
      → IdleStep n size c (framed kind state idle) below state answer after
      → Made kind state idle
  idle_made kind waiting active top (reserves moment len res k r_is fits a is) = has_reserved _ refl (ap writer_of is)
  idle_made (for_record moment len) waiting active top (finds_nothing k none a is) = absurd (cc)
  idle_made for_close waiting active top (finds_nothing k none a is) =
      leaves refl (none_wanted (waits_close idle top)) (none_fit for_close waiting idle (waits_close idle top))
      (ap writer_of is)
  idle_made kind waiting active top (is_crowded needs all a is) =
      leaves refl (refused_none kind idle top needs (inl all)) (fits_not kind idle top needs) (ap writer_of is)
  idle_made kind waiting active top (is_worn needs room last a is) =
      leaves refl (refused_none kind idle top needs (inr last)) (fits_not kind idle top needs) (ap writer_of is)
  idle_made kind waiting active top (notes needs room small a is) =
      goes_on (looking c.opened) active (fits_not kind idle top needs) (ap writer_of is)
  idle_made kind (reserved number) (inl e) top step = absurd (cc)
  idle_made kind (reserved number) (inr e) top step = absurd (cc)
  idle_made kind left active top step = absurd step

  made_in : (kind : Purpose) (state : Progress) (phase : Phase)
      → (state ≡ waiting) ⊎ (state ≡ left)
      → c.frames ≡ framed kind state phase ∷ below
      → (phase ≡ releasing → state ≡ left)
      → (phase ≡ wishing → state ≡ left)
      → FrameStep n size c (framed kind state phase) below phase answer after
      → Made kind state phase
  made_in kind state idle active top rl wl step = idle_made kind state active top step
  made_in kind state (looking noted) active top rl wl (load_link_late step) =
      late kind state (looking noted) noted active (λ e. cc) top step
  made_in kind state (looking noted) active top rl wl (sees_free page x at a is) =
      on kind state (looking noted) (opening noted page) _ active (λ e. cc) is refl
  made_in kind state (looking noted) active top rl wl (sees_header page lost x sum at a is) =
      on kind state (looking noted) (claiming noted page) _ active (λ e. cc) is refl
  made_in kind state (looking noted) active top rl wl (sees_update page lost x sum at a is) =
      on kind state (looking noted) (looking_next helper noted page) _ active (λ e. cc) is refl
  made_in kind state (claiming noted page) active top rl wl (claim_late step) =
      late kind state (claiming noted page) noted active (λ e. cc) top step
  made_in kind state (claiming noted page) active top rl wl (claims lost x sum at a is) =
      on kind state (claiming noted page) (looking_next owner noted page) _ active (λ e. cc) is refl
  made_in kind state (claiming noted page) active top rl wl (claim_fails x none a is) =
      on kind state (claiming noted page) (looking noted) _ active (λ e. cc) is refl
  made_in kind state (looking_next role noted page) active top rl wl (load_next_late helps step) =
      late kind state (looking_next role noted page) noted active (λ e. cc) top step
  made_in kind state (looking_next role noted page) active top rl wl (sees_normal lost next go sum at a is) =
      on kind state (looking_next role noted page) (marking role noted page next) _ active (λ e. cc) is refl
  made_in kind state (looking_next role noted page) active top rl wl (sees_other lost go sum none a is) =
      on kind state (looking_next role noted page) (after_next role noted page) _ active (λ e. cc) is refl
  made_in kind state (marking role noted page next) active top rl wl (mark_late helps step) =
      late kind state (marking role noted page next) noted active (λ e. cc) top step
  made_in kind state (marking role noted page next) active top rl wl (marks lost go sum at a is) =
      on kind state (marking role noted page next) (after_next role noted page) _ active (λ e. cc) is refl
  made_in kind state (marking role noted page next) active top rl wl (mark_fails lost go sum differ a is) =
      on kind state (marking role noted page next) (after_next role noted page) _ active (λ e. cc) is refl
  made_in kind state (clearing noted page) active top rl wl (clears lost sum at a is) =
      on kind state (clearing noted page) (opening noted page) _ active (λ e. cc) is refl
  made_in kind state (opening noted page) active top rl wl (open_late step) =
      late kind state (opening noted page) noted active (λ e. cc) top step
  made_in kind state (opening noted page) active top rl wl (opens now a is) =
      opened_now kind state noted page active top is
  made_in kind state releasing active top rl wl (releases alone more a is) =
      closes_one releasing (rl refl) alone (omega arith)
      (ap writer_of is ∙ (λ i. record { frames = top i; history = c.history; done = c.done + 1; opened = c.opened }))
  made_in kind state releasing active top rl wl (releases_last alone last a is) =
      closes_one wishing (rl refl) alone (omega arith) (ap writer_of is)
  made_in kind state wishing active top rl wl (grants alone granted a is) =
      finds_wish (looking c.opened) (wl refl) alone (ap writer_of is)
  made_in kind state wishing active top rl wl (closes_more alone denied more a is) =
      on kind state wishing releasing _ active (λ e. cc) is refl
  made_in kind state wishing active top rl wl (goes_away alone denied none a is) =
      is_gone (wl refl) alone none (ap writer_of is)

pub steps_make : (n size start : ℕ) (c : Core) (frame : Frame) (below : List Frame) (answer : Answer) (after : Core)
    → IsRingKept n size start c
    → c.frames ≡ frame ∷ below
    → (frame.state ≡ waiting) ⊎ (frame.state ≡ left)
    → Step n size c steps answer after
    → CallMakes n size c frame below after
steps_make n size start c frame below answer after r top active step =
    let agree = top_agrees c frame below top r.stack in
    made_in n size start c below answer after r frame.kind frame.state frame.phase active top
    (λ e. releasing_left frame.kind frame.state frame.phase e agree.0)
    (λ e. wishing_left frame.kind frame.state frame.phase e agree.0)
    (top_stepped n size c frame below frame.phase answer after top refl step)
