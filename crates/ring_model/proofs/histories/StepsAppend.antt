-- Each event appends to the history what it is said to, and there is one such list of history events.
use Rattle.std.proofs.Common.{◌≡◌, ◌≢◌, ℕ, ◌⊎◌, List, [], ◌∷◌, ◌++◌, Some, None, refl, sym, ap, ◌∙◌, subst, inl, inr}
use Rattle.std.proofs.Common.{append_assoc, append-nil}
use Rattle.trace_model.specs.History.{HistoryEvent, push, push_close, open_fill, reserve, leave, wished}
use Rattle.trace_model.specs.Packing.{tail_of}
use Rattle.trace_model.specs.Frames.{Purpose, for_record, for_close, Progress, waiting, reserved, left, number_of}
use Rattle.trace_model.specs.Frames.{Phase, idle, looking, claiming, looking_next, marking, clearing, opening}
use Rattle.trace_model.specs.Frames.{releasing, wishing, Role, owner, helper, noted_fill, owned_update, Frame}
use Rattle.trace_model.specs.Frames.{WriteFault, too_deep, not_reserved, crowded, worn}
use Rattle.trace_model.specs.Ring.{ReaderPhase, loading_head, loading_done, storing_spare_link, swapping, Core}
use Rattle.trace_model.specs.Steps.{Event, pushes, pushes_close, steps, ends, reads, wishes, Answer, going, reserved_as}
use Rattle.trace_model.specs.Steps.{gone, refused, MayContinue, IsGranted, with_new_tail, after_begin, begin_answer}
use Rattle.trace_model.specs.Steps.{leave_answer}
use Rattle.trace_model.proofs.steps.StepSound.{cases_of}
use Rattle.trace_model.proofs.steps.StepCases.{StepCases, BeginsAgain, reserves, finds_nothing, is_crowded, is_worn}
use Rattle.trace_model.proofs.steps.StepCases.{notes, IdleStep, load_link_late, sees_free, sees_header, sees_update}
use Rattle.trace_model.proofs.steps.StepCases.{claim_late, claims, claim_fails, load_next_late, sees_normal, sees_other}
use Rattle.trace_model.proofs.steps.StepCases.{mark_late, marks, mark_fails, clears, open_late, opens, releases}
use Rattle.trace_model.proofs.steps.StepCases.{releases_last, grants, closes_more, goes_away, FrameStep, push_step}
use Rattle.trace_model.proofs.steps.StepCases.{push_refused, close_step, close_refused, frame_step, frame_lacks}
use Rattle.trace_model.proofs.steps.StepCases.{end_step, end_lacks, end_early, read_step, store_wish_step, loads_header}
use Rattle.trace_model.proofs.steps.StepCases.{loads_update, loads_owed, loads_passed, finds_none, finds_closed, swaps}
use Rattle.trace_model.proofs.steps.StepCases.{swap_fails, ReadStep}
use Rattle.ring_model.specs.KeptStack.{MayBeIn}
use Rattle.ring_model.specs.Appended.{PushAppends, is_pushed, isnt_pushed, EndAppends, TopEndAppends, IsOpening}
use Rattle.ring_model.specs.Appended.{IsRefusedPage, RecordAppends, record_reserved, record_refused, record_opens}
use Rattle.ring_model.specs.Appended.{record_goes_on, HasWhatItWants, tail_is_empty, was_faster, CloseAppends}
use Rattle.ring_model.specs.Appended.{close_refused as refused_close, close_opens, close_leaves, close_goes_on, Grants}
use Rattle.ring_model.specs.Appended.{LeftAppends, left_opens, left_grants, left_stays, FrameAppends, TopAppends}
use Rattle.ring_model.specs.Appended.{Appends}
use Rattle.ring_model.specs.RingKept.{IsRingKept}
use Rattle.ring_model.specs.HistoryLaws.{StepsAppend, AppendedIsOne}
use Rattle.ring_model.proofs.links.FramePhases.{none_some}
use Rattle.ring_model.proofs.histories.HistorySteps.{top_agrees}

-- a step after which the ring is as before appends nothing to the history
same : (c after : Core) → after ≡ c → after.history ≡ c.history ++ []
same c after is = ap (λ (d : Core). d.history) is ∙ sym (append-nil c.history)

-- ---- a step of the frame on top

some_is : {a b : ℕ} → Some a ≡ Some b → a ≡ b
some_is e = cc

-- a frame that has noted a fill which another has begun isn't about to begin it
late_opens_none : (c : Core) (phase : Phase) (noted : ℕ) → noted_fill phase ≡ Some noted → noted ≢ c.opened
    → IsOpening c phase → ⊥
late_opens_none c phase noted notes_it passed (page, at) = passed (some_is (sym notes_it ∙ ap noted_fill at))

noted_no_wish : (phase : Phase) (noted : ℕ) → noted_fill phase ≡ Some noted → phase ≢ wishing
noted_no_wish phase noted notes_it at = none_some (sym (ap noted_fill at) ∙ notes_it)

-- a frame that has noted this fill, which no other has begun, hasn't what it wants
still_wants : (c : Core) (phase : Phase) (noted : ℕ) → noted_fill phase ≡ Some noted → noted ≡ c.opened
    → HasWhatItWants c phase → ⊥
still_wants c phase noted notes_it now (tail_is_empty at none) = none_some (sym (ap noted_fill at) ∙ notes_it)
still_wants c phase noted notes_it now (was_faster other is passed free) = passed (some_is (sym is ∙ notes_it) ∙ now)

-- nor has the owner of an UPDATE
owner_wants_on : (c : Core) (phase : Phase) (noted : ℕ) → owned_update phase ≡ Some noted → HasWhatItWants c phase → ⊥
owner_wants_on c phase noted owns (tail_is_empty at none) = none_some (sym (ap owned_update at) ∙ owns)
owner_wants_on c phase noted owns (was_faster other is passed free) = none_some (sym free ∙ owns)

module _ (n size : ℕ) (c : Core) (below : List Frame) (answer : Answer) (after : Core) where
  abbrev Reported : Purpose → Progress → Phase → Type 0
  Reported kind state phase =
      (history_events : List HistoryEvent) × (after.history ≡ c.history ++ history_events)
      × FrameAppends n c kind state phase below answer history_events

  history_is : (next : Core) → after ≡ next → after.history ≡ next.history
  history_is next is = ap (λ (d : Core). d.history) is

  nothing : (next : Core) → after ≡ next → next.history ≡ c.history → after.history ≡ c.history ++ []
  nothing next is e = history_is next is ∙ e ∙ sym (append-nil c.history)

  -- it goes on, and appends nothing
  stays : (kind : Purpose) (state : Progress) (phase : Phase) (next : Core) → MayBeIn kind state phase → phase ≢ idle
      → (IsOpening c phase → ⊥) → (HasWhatItWants c phase → ⊥) → (Grants n c phase → ⊥) → answer ≡ going → after ≡ next
      → next.history ≡ c.history → Reported kind state phase
  stays (for_record moment len) waiting phase next may moves no_fill wants no_grant a is e =
      ([], nothing next is e, record_goes_on no_fill a refl)
  stays for_close waiting phase next may moves no_fill wants no_grant a is e =
      ([], nothing next is e, close_goes_on no_fill wants a refl)
  stays kind (reserved number) phase next may moves no_fill wants no_grant a is e = absurd (moves may.1)
  stays kind left phase next may moves no_fill wants no_grant a is e =
      ([], nothing next is e, left_stays no_fill no_grant (inl a) refl)

  -- another frame has begun the fill
  late : (kind : Purpose) (state : Progress) (phase : Phase) (noted : ℕ) → MayBeIn kind state phase
      → noted_fill phase ≡ Some noted → owned_update phase ≡ None
      → BeginsAgain c (record { kind = kind; state = state; phase = phase }) below noted answer after
      → Reported kind state phase
  late (for_record moment len) waiting phase noted may notes_it free step = (
    [],
    nothing _ step.after_is refl,
    record_goes_on (late_opens_none c phase noted notes_it step.passed) step.answer_is refl,
  )
  late for_close waiting phase noted may notes_it free step = (
    leave None ∷ [],
    history_is _ step.after_is,
    close_leaves (was_faster noted notes_it step.passed free) step.answer_is refl,
  )
  late kind (reserved number) phase noted may notes_it free step =
      absurd (none_some (sym (ap noted_fill may.1) ∙ notes_it))
  late kind left phase noted may notes_it free step = (
    [],
    nothing _ step.after_is refl,
    left_stays (late_opens_none c phase noted notes_it step.passed) (λ g. noted_no_wish phase noted notes_it g.0)
        (inl step.answer_is) refl,
  )

  -- it begins the fill
  begins : (kind : Purpose) (state : Progress) (noted page : ℕ) → MayBeIn kind state (opening noted page)
      → noted ≡ c.opened → answer ≡ begin_answer kind state below
      → after
      ≡ after_begin kind state (with_new_tail c page)
      (record { kind = kind; state = state; phase = opening noted page }) below
      → Reported kind state (opening noted page)
  begins (for_record moment len) waiting noted page may now a is =
      (open_fill ∷ [], history_is _ is, record_opens (page, ap (λ (f : ℕ). opening f page) now) a refl)
  begins for_close waiting noted page may now a is = (
    open_fill ∷ leave None ∷ [],
    history_is _ is ∙ append_assoc c.history (open_fill ∷ []) (leave None ∷ []),
    close_opens (page, ap (λ (f : ℕ). opening f page) now) a refl,
  )
  begins kind (reserved number) noted page may now a is = absurd (none_some (sym (ap noted_fill may.1)))
  begins kind left noted page may now a is =
      (open_fill ∷ [], history_is _ is, left_opens (page, ap (λ (f : ℕ). opening f page) now) a refl)

  -- it rests
  reported_idle : (kind : Purpose) (state : Progress)
      → IdleStep n size c (record { kind = kind; state = state; phase = idle }) below state answer after
      → Reported kind state idle
  reported_idle (for_record moment len) waiting (reserves m l r kind r_is fits a is) =
      (reserve ∷ [], history_is _ is, record_reserved a refl)
  reported_idle (for_record moment len) waiting (finds_nothing kind none a is) = absurd (cc)
  reported_idle (for_record moment len) waiting (is_crowded needs full a is) =
      (leave None ∷ [], history_is _ is, record_refused (inl a) refl)
  reported_idle (for_record moment len) waiting (is_worn needs room last a is) =
      (leave None ∷ [], history_is _ is, record_refused (inr a) refl)
  reported_idle (for_record moment len) waiting (notes needs room small a is) =
      ([], nothing _ is refl, record_goes_on (λ (page, at). cc) a refl)
  reported_idle for_close waiting (reserves m l r kind r_is fits a is) = absurd (cc)
  reported_idle for_close waiting (finds_nothing kind none a is) =
      (leave None ∷ [], history_is _ is, close_leaves (tail_is_empty refl none) a refl)
  reported_idle for_close waiting (is_crowded needs full a is) =
      (leave None ∷ [], history_is _ is, refused_close (inl a) refl)
  reported_idle for_close waiting (is_worn needs room last a is) =
      (leave None ∷ [], history_is _ is, refused_close (inr a) refl)
  reported_idle for_close waiting (notes needs room small a is) =
      ([], nothing _ is refl, close_goes_on (λ (page, at). cc) (needs_more needs) a refl)
    where
      needs_more : (tail_of c.history ≢ []) → HasWhatItWants c idle → ⊥
      needs_more some (tail_is_empty at none) = some none
      needs_more some (was_faster noted is passed free) = none_some is
  reported_idle kind (reserved number) step = ([], nothing _ step.1 refl, (step.0, refl))
  reported_idle kind left step = absurd step

  -- it looks at a link, or tries to claim the head, for the fill that it noted
  looks : (kind : Purpose) (state : Progress) (noted : ℕ) (next : Core) → MayBeIn kind state (looking noted)
      → noted ≡ c.opened → answer ≡ going → after ≡ next → next.history ≡ c.history
      → Reported kind state (looking noted)
  looks kind state noted next may now a is e =
      stays kind state (looking noted) next may (λ z. cc) (λ (p, z). cc) (still_wants c (looking noted) noted refl now)
      (λ (z, g). cc) a is e

  tries : (kind : Purpose) (state : Progress) (noted page : ℕ) (next : Core) → MayBeIn kind state (claiming noted page)
      → noted ≡ c.opened → answer ≡ going → after ≡ next → next.history ≡ c.history
      → Reported kind state (claiming noted page)
  tries kind state noted page next may now a is e =
      stays kind state (claiming noted page) next may (λ z. cc) (λ (p, z). cc)
      (still_wants c (claiming noted page) noted refl now) (λ (z, g). cc) a is e

  -- it looks at the next link, or tries to set it
  looks_next : (kind : Purpose) (state : Progress) (role : Role) (noted page : ℕ) (next : Core)
      → MayBeIn kind state (looking_next role noted page) → MayContinue role noted c.opened → answer ≡ going
      → after ≡ next → next.history ≡ c.history → Reported kind state (looking_next role noted page)
  looks_next kind state owner noted page next may on a is e =
      stays kind state (looking_next owner noted page) next may (λ z. cc) (λ (p, z). cc)
      (owner_wants_on c (looking_next owner noted page) noted refl) (λ (z, g). cc) a is e
  looks_next kind state helper noted page next may on a is e =
      stays kind state (looking_next helper noted page) next may (λ z. cc) (λ (p, z). cc)
      (still_wants c (looking_next helper noted page) noted refl on) (λ (z, g). cc) a is e

  moves_on : (kind : Purpose) (state : Progress) (role : Role) (noted page second : ℕ) (next : Core)
      → MayBeIn kind state (marking role noted page second) → MayContinue role noted c.opened → answer ≡ going
      → after ≡ next → next.history ≡ c.history → Reported kind state (marking role noted page second)
  moves_on kind state owner noted page second next may on a is e =
      stays kind state (marking owner noted page second) next may (λ z. cc) (λ (p, z). cc)
      (owner_wants_on c (marking owner noted page second) noted refl) (λ (z, g). cc) a is e
  moves_on kind state helper noted page second next may on a is e =
      stays kind state (marking helper noted page second) next may (λ z. cc) (λ (p, z). cc)
      (still_wants c (marking helper noted page second) noted refl on) (λ (z, g). cc) a is e

  -- it closes fills, or looks for a wish, which only a frame does that has left
  no_opening : (phase : Phase) → (phase ≡ releasing) ⊎ (phase ≡ wishing) → IsOpening c phase → ⊥
  no_opening phase (inl at) (page, opening_at) = none_some (sym (ap noted_fill at) ∙ ap noted_fill opening_at)
  no_opening phase (inr at) (page, opening_at) = none_some (sym (ap noted_fill at) ∙ ap noted_fill opening_at)

  closes : (kind : Purpose) (state : Progress) (phase : Phase) (next : Core) → MayBeIn kind state phase
      → (phase ≡ releasing) ⊎ (phase ≡ wishing) → (Grants n c phase → ⊥) → (answer ≡ going) ⊎ (answer ≡ gone)
      → after ≡ next → next.history ≡ c.history → Reported kind state phase
  closes kind waiting phase next may (inl at) no_grant a is e = absurd (may.0 at)
  closes kind waiting phase next may (inr at) no_grant a is e = absurd (may.1 at)
  closes kind (reserved number) phase next may (inl at) no_grant a is e =
      absurd (let z : releasing ≡ idle = sym at ∙ may.1 in cc)
  closes kind (reserved number) phase next may (inr at) no_grant a is e =
      absurd (let z : wishing ≡ idle = sym at ∙ may.1 in cc)
  closes kind left phase next may at no_grant a is e =
      ([], nothing next is e, left_stays (no_opening phase at) no_grant a refl)

  finds_wish : (kind : Purpose) (state : Progress) (next : Core) → MayBeIn kind state wishing → IsGranted n c
      → answer ≡ going → after ≡ next → next.history ≡ c.history ++ wished ∷ [] → Reported kind state wishing
  finds_wish kind waiting next may granted a is e = absurd (may.1 refl)
  finds_wish kind (reserved number) next may granted a is e = absurd (let z : wishing ≡ idle = may.1 in cc)
  finds_wish kind left next may granted a is e =
      (wished ∷ [], history_is next is ∙ e, left_grants (refl, granted) a refl)

  -- in its phase
  reported_frame : (kind : Purpose) (state : Progress) (phase : Phase) → MayBeIn kind state phase
      → FrameStep n size c (record { kind = kind; state = state; phase = phase }) below phase answer after
      → Reported kind state phase
  reported_frame kind state idle may step = reported_idle kind state step
  reported_frame kind state (looking noted) may (load_link_late step) =
      late kind state (looking noted) noted may refl refl step
  reported_frame kind state (looking noted) may (sees_free page now at a is) =
      looks kind state noted _ may now a is refl
  reported_frame kind state (looking noted) may (sees_header page lost now sum at a is) =
      looks kind state noted _ may now a is refl
  reported_frame kind state (looking noted) may (sees_update page lost now sum at a is) =
      looks kind state noted _ may now a is refl
  reported_frame kind state (claiming noted page) may (claim_late step) =
      late kind state (claiming noted page) noted may refl refl step
  reported_frame kind state (claiming noted page) may (claims lost now sum at a is) =
      tries kind state noted page _ may now a is refl
  reported_frame kind state (claiming noted page) may (claim_fails now none a is) =
      tries kind state noted page _ may now a is refl
  reported_frame kind state (looking_next role noted page) may (load_next_late helps step) =
      late kind state (looking_next role noted page) noted may refl
      (ap (λ (r : Role). owned_update (looking_next r noted page)) helps) step
  reported_frame kind state (looking_next role noted page) may (sees_normal lost next on sum at a is) =
      looks_next kind state role noted page _ may on a is refl
  reported_frame kind state (looking_next role noted page) may (sees_other lost on sum none a is) =
      looks_next kind state role noted page _ may on a is refl
  reported_frame kind state (marking role noted page next) may (mark_late helps step) =
      late kind state (marking role noted page next) noted may refl
      (ap (λ (r : Role). owned_update (marking r noted page next)) helps) step
  reported_frame kind state (marking role noted page next) may (marks lost on sum at a is) =
      moves_on kind state role noted page next _ may on a is refl
  reported_frame kind state (marking role noted page next) may (mark_fails lost on sum differ a is) =
      moves_on kind state role noted page next _ may on a is refl
  reported_frame kind state (clearing noted page) may (clears lost sum at a is) =
      stays kind state (clearing noted page) _ may (λ e. cc) (λ (p, e). cc)
      (owner_wants_on c (clearing noted page) noted refl) (λ (e, g). cc) a is refl
  reported_frame kind state (opening noted page) may (open_late step) =
      late kind state (opening noted page) noted may refl refl step
  reported_frame kind state (opening noted page) may (opens now a is) = begins kind state noted page may now a is
  reported_frame kind state releasing may (releases alone more a is) =
      closes kind state releasing _ may (inl refl) (λ (e, g). cc) (inl a) is refl
  reported_frame kind state releasing may (releases_last alone last a is) =
      closes kind state releasing _ may (inl refl) (λ (e, g). cc) (inl a) is refl
  reported_frame kind state wishing may (grants alone granted a is) = finds_wish kind state _ may granted a is refl
  reported_frame kind state wishing may (closes_more alone denied more a is) =
      closes kind state wishing _ may (inr refl) (λ (e, g). denied g) (inl a) is refl
  reported_frame kind state wishing may (goes_away alone denied none a is) =
      closes kind state wishing _ may (inr refl) (λ (e, g). denied g) (inr a) is refl

-- ---- each event

-- the reader's step appends nothing
read_same : (n : ℕ) (c after : Core) (phase : ReaderPhase) (answer : Answer) → ReadStep n c phase answer after
    → after.history ≡ c.history ++ []
read_same n c after phase answer step = by phase step ∙ sym (append-nil c.history)
  where
    by : (phase : ReaderPhase) → ReadStep n c phase answer after → after.history ≡ c.history
    by loading_head (loads_header page fill at a is) = ap (λ (d : Core). d.history) is
    by loading_head (loads_update page lost at a is) = ap (λ (d : Core). d.history) is
    by loading_head (loads_owed page at a is) = ap (λ (d : Core). d.history) is
    by loading_head (loads_passed page fill least at more sum a is) = ap (λ (d : Core). d.history) is
    by (loading_done page fill) (finds_none le a is) = ap (λ (d : Core). d.history) is
    by (loading_done page fill) (finds_closed below a is) = ap (λ (d : Core). d.history) is
    by (storing_spare_link page fill) stores = ap (λ (d : Core). d.history) stores.after_is
    by (swapping page fill) (swaps at a is) = ap (λ (d : Core). d.history) is
    by (swapping page fill) (swap_fails at a is) = ap (λ (d : Core). d.history) is

-- the end of the frame on top
reported_end : (payload : List ℕ) (frame : Frame) (below : List Frame) (answer : Answer) → number_of frame.state ≡ None
    → answer ≡ refused not_reserved → EndAppends payload frame.state below answer []
reported_end payload frame below answer none a = by frame.state none
  where
    by : (state : Progress) → number_of state ≡ None → EndAppends payload state below answer []
    by waiting e = (a, refl)
    by (reserved number) e = absurd (none_some (sym e))
    by left e = (a, refl)

case_appends : (n size start : ℕ) (c : Core) (event : Event) (answer : Answer) (after : Core)
    → IsRingKept n size start c → StepCases n size c event answer after
    → (appended : List HistoryEvent) × (after.history ≡ c.history ++ appended) × Appends n c event answer appended
case_appends n size start c event answer after kept (push_step moment len e few short early a is) = (
  push moment len ∷ [],
  ap (λ (d : Core). d.history) is,
  subst (λ (x : Event). Appends n c x answer (push moment len ∷ [])) (sym e) (is_pushed a refl),
)
case_appends n size start c event answer after kept (push_refused moment len why e refuses a is) =
    ([], same c after is, subst (λ (x : Event). Appends n c x answer []) (sym e) (isnt_pushed why a refl))
case_appends n size start c event answer after kept (close_step e few a is) = (
  push_close ∷ [],
  ap (λ (d : Core). d.history) is,
  subst (λ (x : Event). Appends n c x answer (push_close ∷ [])) (sym e) (is_pushed a refl),
)
case_appends n size start c event answer after kept (close_refused e many a is) =
    ([], same c after is, subst (λ (x : Event). Appends n c x answer []) (sym e) (isnt_pushed too_deep a refl))
case_appends n size start c event answer after kept (frame_step frame below e top step) =
    let (history_events, is, by) =
    reported_frame n size c below answer after frame.kind frame.state frame.phase
    (top_agrees c frame below kept.stack top).0 step in (
      history_events,
      is,
      subst (λ (x : Event). Appends n c x answer history_events) (sym e)
          (subst (λ (fs : List Frame). TopAppends n c fs answer history_events) (sym top) by),
    )
case_appends n size start c event answer after kept (frame_lacks e none a is) = (
  [],
  same c after is,
  subst (λ (x : Event). Appends n c x answer []) (sym e)
      (subst (λ (fs : List Frame). TopAppends n c fs answer []) (sym none) (a, refl)),
)
case_appends n size start c event answer after kept
    (end_step payload frame below number moment len e top has kind slot a is) = (
      leave (Some payload) ∷ [],
      ap (λ (d : Core). d.history) is,
      subst (λ (x : Event). Appends n c x answer (leave (Some payload) ∷ [])) (sym e)
          (subst (λ (fs : List Frame). TopEndAppends payload fs answer (leave (Some payload) ∷ [])) (sym top)
          (subst (λ (s : Progress). EndAppends payload s below answer (leave (Some payload) ∷ [])) (sym has)
          (a, refl))),
    )
case_appends n size start c event answer after kept (end_lacks payload e none a is) = (
  [],
  same c after is,
  subst (λ (x : Event). Appends n c x answer []) (sym e)
      (subst (λ (fs : List Frame). TopEndAppends payload fs answer []) (sym none) (a, refl)),
)
case_appends n size start c event answer after kept (end_early payload frame below e top none a is) = (
  [],
  same c after is,
  subst (λ (x : Event). Appends n c x answer []) (sym e)
      (subst (λ (fs : List Frame). TopEndAppends payload fs answer []) (sym top)
      (reported_end payload frame below answer none a)),
)
case_appends n size start c event answer after kept (read_step e step) =
    ([], read_same n c after c.reader.phase answer step, subst (λ (x : Event). Appends n c x answer []) (sym e) refl)
case_appends n size start c event answer after kept (store_wish_step e a is) = (
  [],
  ap (λ (d : Core). d.history) is ∙ sym (append-nil c.history),
  subst (λ (x : Event). Appends n c x answer []) (sym e) refl,
)

pub steps_append : StepsAppend
steps_append n size start c event answer after kept step =
    case_appends n size start c event answer after kept (cases_of step)

-- ---- one list

pushed_is_one : (history_event : HistoryEvent) (answer : Answer) (some others : List HistoryEvent)
    → PushAppends history_event answer some → PushAppends history_event answer others → some ≡ others
pushed_is_one history_event answer some others (is_pushed a is) (is_pushed b same_is) = is ∙ sym same_is
pushed_is_one history_event answer some others (is_pushed a is) (isnt_pushed why b same_is) = absurd (cc)
pushed_is_one history_event answer some others (isnt_pushed why a is) (is_pushed b same_is) = absurd (cc)
pushed_is_one history_event answer some others (isnt_pushed why a is) (isnt_pushed other b same_is) = is ∙ sym same_is

ended_is_one : (payload : List ℕ) (frames : List Frame) (answer : Answer) (some others : List HistoryEvent)
    → TopEndAppends payload frames answer some → TopEndAppends payload frames answer others → some ≡ others
ended_is_one payload [] answer some others one other = one.1 ∙ sym other.1
ended_is_one payload (frame ∷ below) answer some others one other = by frame.state one other
  where
    by : (state : Progress) → EndAppends payload state below answer some → EndAppends payload state below answer others
        → some ≡ others
    by waiting one other = one.1 ∙ sym other.1
    by (reserved number) one other = one.1 ∙ sym other.1
    by left one other = one.1 ∙ sym other.1

-- a refusal for want of a page is no other answer
not_refused : (answer other : Answer) → ((why : WriteFault) → other ≢ refused why) → answer ≡ other
    → IsRefusedPage answer → ⊥
not_refused answer other differs is (inl a) = differs crowded (sym is ∙ a)
not_refused answer other differs is (inr a) = differs worn (sym is ∙ a)

going_not_refused : (why : WriteFault) → going ≢ refused why
going_not_refused why e = cc

number_not_refused : (number : ℕ) (why : WriteFault) → reserved_as number ≢ refused why
number_not_refused number why e = cc

pub leave_not_refused : (below : List Frame) (why : WriteFault) → leave_answer below ≢ refused why
leave_not_refused [] why e = cc
leave_not_refused (next ∷ below) why e = cc

module _ (c : Core) (phase : Phase) (answer : Answer) (some others : List HistoryEvent) where
  record_is_one : RecordAppends c phase answer some → RecordAppends c phase answer others → some ≡ others
  record_is_one (record_reserved a is) (record_reserved b that) = is ∙ sym that
  record_is_one (record_reserved a is) (record_refused b that) =
      absurd (not_refused answer _ (number_not_refused _) a b)
  record_is_one (record_reserved a is) (record_opens fill b that) = absurd (cc)
  record_is_one (record_reserved a is) (record_goes_on none b that) = absurd (cc)
  record_is_one (record_refused a is) (record_reserved b that) =
      absurd (not_refused answer _ (number_not_refused _) b a)
  record_is_one (record_refused a is) (record_refused b that) = is ∙ sym that
  record_is_one (record_refused a is) (record_opens fill b that) =
      absurd (not_refused answer going going_not_refused b a)
  record_is_one (record_refused a is) (record_goes_on none b that) =
      absurd (not_refused answer going going_not_refused b a)
  record_is_one (record_opens fill a is) (record_reserved b that) = absurd (cc)
  record_is_one (record_opens fill a is) (record_refused b that) =
      absurd (not_refused answer going going_not_refused a b)
  record_is_one (record_opens fill a is) (record_opens other b that) = is ∙ sym that
  record_is_one (record_opens fill a is) (record_goes_on none b that) = absurd (none fill)
  record_is_one (record_goes_on none a is) (record_reserved b that) = absurd (cc)
  record_is_one (record_goes_on none a is) (record_refused b that) =
      absurd (not_refused answer going going_not_refused a b)
  record_is_one (record_goes_on none a is) (record_opens fill b that) = absurd (none fill)
  record_is_one (record_goes_on none a is) (record_goes_on other b that) = is ∙ sym that

  -- a frame that is about to begin a fill hasn't what it wants
  opening_wants : IsOpening c phase → HasWhatItWants c phase → ⊥
  opening_wants (page, at) has = still_wants c phase c.opened (ap noted_fill at) refl has

  close_is_one : (below : List Frame) → CloseAppends c phase below answer some
      → CloseAppends c phase below answer others → some ≡ others
  close_is_one below (refused_close a is) (refused_close b that) = is ∙ sym that
  close_is_one below (refused_close a is) (close_opens fill b that) =
      absurd (not_refused answer _ (leave_not_refused below) b a)
  close_is_one below (refused_close a is) (close_leaves has b that) =
      absurd (not_refused answer _ (leave_not_refused below) b a)
  close_is_one below (refused_close a is) (close_goes_on none wants b that) =
      absurd (not_refused answer going going_not_refused b a)
  close_is_one below (close_opens fill a is) (refused_close b that) =
      absurd (not_refused answer _ (leave_not_refused below) a b)
  close_is_one below (close_opens fill a is) (close_opens other b that) = is ∙ sym that
  close_is_one below (close_opens fill a is) (close_leaves has b that) = absurd (opening_wants fill has)
  close_is_one below (close_opens fill a is) (close_goes_on none wants b that) = absurd (none fill)
  close_is_one below (close_leaves has a is) (refused_close b that) =
      absurd (not_refused answer _ (leave_not_refused below) a b)
  close_is_one below (close_leaves has a is) (close_opens fill b that) = absurd (opening_wants fill has)
  close_is_one below (close_leaves has a is) (close_leaves other b that) = is ∙ sym that
  close_is_one below (close_leaves has a is) (close_goes_on none wants b that) = absurd (wants has)
  close_is_one below (close_goes_on none wants a is) (refused_close b that) =
      absurd (not_refused answer going going_not_refused a b)
  close_is_one below (close_goes_on none wants a is) (close_opens fill b that) = absurd (none fill)
  close_is_one below (close_goes_on none wants a is) (close_leaves has b that) = absurd (wants has)
  close_is_one below (close_goes_on none wants a is) (close_goes_on other more b that) = is ∙ sym that

  -- nor does one that looks for a wish begin a fill
  opening_no_wish : (n : ℕ) → IsOpening c phase → Grants n c phase → ⊥
  opening_no_wish n (page, at) (wishes_at, granted) = noted_no_wish phase c.opened (ap noted_fill at) wishes_at

  left_is_one : (n : ℕ) → LeftAppends n c phase answer some → LeftAppends n c phase answer others → some ≡ others
  left_is_one n (left_opens fill a is) (left_opens other b that) = is ∙ sym that
  left_is_one n (left_opens fill a is) (left_grants wish b that) = absurd (opening_no_wish n fill wish)
  left_is_one n (left_opens fill a is) (left_stays none denied b that) = absurd (none fill)
  left_is_one n (left_grants wish a is) (left_opens fill b that) = absurd (opening_no_wish n fill wish)
  left_is_one n (left_grants wish a is) (left_grants other b that) = is ∙ sym that
  left_is_one n (left_grants wish a is) (left_stays none denied b that) = absurd (denied wish)
  left_is_one n (left_stays none denied a is) (left_opens fill b that) = absurd (none fill)
  left_is_one n (left_stays none denied a is) (left_grants wish b that) = absurd (denied wish)
  left_is_one n (left_stays none denied a is) (left_stays other refused_too b that) = is ∙ sym that

frame_is_one : (n : ℕ) (c : Core) (kind : Purpose) (state : Progress) (phase : Phase) (below : List Frame)
    (answer : Answer) (some others : List HistoryEvent) → FrameAppends n c kind state phase below answer some
    → FrameAppends n c kind state phase below answer others → some ≡ others
frame_is_one n c (for_record moment len) waiting phase below answer some others one other =
    record_is_one c phase answer some others one other
frame_is_one n c for_close waiting phase below answer some others one other =
    close_is_one c phase answer some others below one other
frame_is_one n c kind (reserved number) phase below answer some others one other = one.1 ∙ sym other.1
frame_is_one n c kind left phase below answer some others one other = left_is_one c phase answer some others n one other

top_is_one : (n : ℕ) (c : Core) (frames : List Frame) (answer : Answer) (some others : List HistoryEvent)
    → TopAppends n c frames answer some → TopAppends n c frames answer others → some ≡ others
top_is_one n c [] answer some others one other = one.1 ∙ sym other.1
top_is_one n c (frame ∷ below) answer some others one other =
    frame_is_one n c frame.kind frame.state frame.phase below answer some others one other

pub appended_is_one : AppendedIsOne
appended_is_one n c (pushes moment len) answer some others one other =
    pushed_is_one (push moment len) answer some others one other
appended_is_one n c pushes_close answer some others one other = pushed_is_one push_close answer some others one other
appended_is_one n c steps answer some others one other = top_is_one n c c.frames answer some others one other
appended_is_one n c (ends payload) answer some others one other =
    ended_is_one payload c.frames answer some others one other
appended_is_one n c reads answer some others one other = one ∙ sym other
appended_is_one n c wishes answer some others one other = one ∙ sym other
