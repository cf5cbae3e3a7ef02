-- The steps of a frame that needs a page, up to the fill's beginning: each is the model's.
use Rattle.std.proofs.Common.{◌≡◌, ◌≢◌, ℕ, suc, ◌+◌, ◌%◌, ◌≤◌, ◌↔◌, Bool, true, false, IsTrue, List, [], ◌∷◌, length}
use Rattle.std.proofs.Common.{Some, refl, sym, ap, ◌∙◌, subst, length-set, arith}
use mathlib.Core.Logic.{dite}
use native.Mathlib.Decide.{ℕ_discrete}
use Rattle.trace_model.specs.Links.{normal, Link, normal_link, header_link, update_link}
use Rattle.trace_model.specs.Frames as model
use Rattle.trace_model.specs.Frames.{Frame, noted_fill}
use Rattle.trace_model.specs.Ring.{Core, link_into, links_with}
use Rattle.trace_model.specs.Steps as model_steps
use Rattle.trace_model.proofs.steps.StepCases as cases
use Rattle.trace_model.specs.Steps.{MayContinue}
use Rattle.link_marks.specs.declared.link.Mark.{Mark}
use Rattle.link_marks.specs.declared.link.Mark.TheVariants.{Normal, Header, Update}
use Rattle.link_marks.specs.ModelLinks.{mark_of}
use Rattle.ring_model.specs.KeptLinks.{PhaseKept, LinksKept}
use Rattle.ring_model.specs.KeptProgress.{FramesAdvance, PhaseAdvances, ProgressKept}
use Rattle.ring_model.specs.RingKept.{IsRingKept}
use Rattle.ring_model.specs.Seats.{PhaseIsPrivate}
use Rattle.trace_model.proofs.Positions.{link_round}
use Rattle.ring_model.proofs.links.LinkFills.{normal_reports, header_reports, update_reports, owned_by}
use Rattle.ring_model.proofs.links.FrameChanges.{top_kept}
use Rattle.nested_writer.specs.Stack.{opened}
use Rattle.ring_frames.specs.declared.answer.Answer.TheVariants.{Going}
use Rattle.ring_frames.specs.declared.phase.Role.{Role}
use Rattle.ring_frames.specs.declared.phase.Role.TheVariants.{Owner, Helper}
use Rattle.ring_frames.specs.declared.phase.Phase.{Phase}
use Rattle.ring_frames.specs.declared.phase.Phase.TheVariants.{Looking, Claiming, LookingNext, Marking, Clearing}
use Rattle.ring_frames.specs.declared.phase.Phase.TheVariants.{Opening}
use Rattle.ring_frames.specs.Value.{phase_of, role_of}
use Rattle.ring_frames.specs.declared.phase.StepAnswer.{StepAnswer}
use Rattle.ring_frames.specs.declared.phase.StepAnswer.TheVariants.{Going as TheGoing}
use Rattle.ring_frames.specs.Phases.{as_answer}
use Rattle.ring_core.specs.Value.{CoreValue, frames_of}
use Rattle.ring_core.specs.IsCore.{HasStateOf, IsCore}
use Rattle.ring_core.specs.Heads.{HasHeaderMark, ClaimsHead}
use Rattle.ring_core.specs.Steps.{IsStep, IsLate}
use Rattle.ring_core.proofs.Stepped.{kept_of}
use Rattle.ring_frames.proofs.Tops.{topped}
use Rattle.ring_core.proofs.PhaseMoves.{shows_moved, shows_phase, top_steps}

-- ---- the fill that a link states, at the position of the fill to open

module _ (n : ℕ) (c : Core) (k : LinksKept n c) (r : ProgressKept n c) (noted : ℕ) (now : noted ≡ c.opened) where
  -- a NORMAL at the head waits for the HEADER, and then a position is free
  normal_fill : (page fill : ℕ) → link_into n c.links noted ≡ normal_link page fill → fill ≡ noted
  normal_fill page fill at = let some_pages = k.some_pages in
      let unread = k.head_le in
      let behind = k.done_lt in
      let within = k.opened_le in
      dite (ℕ_discrete noted (c.head + n))
      (λ e. let here = sym (link_round n c.links c.head) ∙ ap (link_into n c.links) (sym e) ∙ at in
      let reported =
      normal_reports n c.links c.order c.head c.frames c.head page fill (k.each c.head (omega arith) (omega arith))
      here in
      let more = r.room page (here ∙ ap (normal_link page) reported.0) in absurd (omega arith))
      (λ ne.
      (normal_reports n c.links c.order c.head c.frames noted page fill (k.each noted (omega arith) (omega arith))
      at).0)

  header_fill : (page fill : ℕ) → link_into n c.links noted ≡ header_link page fill → fill + n ≡ noted
  header_fill page fill at = let some_pages = k.some_pages in
      let unread = k.head_le in
      let behind = k.done_lt in
      let within = k.opened_le in
      dite (ℕ_discrete noted (c.head + n))
      (λ e. let here = sym (link_round n c.links c.head) ∙ ap (link_into n c.links) (sym e) ∙ at in
      let reported =
      header_reports n c.links c.order c.head c.frames c.head page fill (k.each c.head (omega arith) (omega arith))
      here in
      let it = reported.0 in
      omega arith)
      (λ ne. let reported =
      header_reports n c.links c.order c.head c.frames noted page fill (k.each noted (omega arith) (omega arith))
      at in
      let it = reported.1 in
      absurd (omega arith))

  update_fill : (page fill : ℕ) → link_into n c.links noted ≡ update_link page fill → fill + n ≡ noted
  update_fill page fill at = let some_pages = k.some_pages in
      let unread = k.head_le in
      let behind = k.done_lt in
      let within = k.opened_le in
      dite (ℕ_discrete noted (c.head + n))
      (λ e. let here = sym (link_round n c.links c.head) ∙ ap (link_into n c.links) (sym e) ∙ at in
      let reported =
      update_reports n c.links c.order c.head c.frames c.head page fill (k.each c.head (omega arith) (omega arith))
      here in
      let (u, sum, low, open_yet, there) = owned_by n c k c.head reported.2 in absurd (omega arith))
      (λ ne.
      (update_reports n c.links c.order c.head c.frames noted page fill (k.each noted (omega arith) (omega arith))
      at).0)

-- ---- what the value shows of it

pub says_normal : (m : Mark) → mark_of m ≡ normal → m ≡ Normal
says_normal Normal e = refl
says_normal Header e = absurd (cc)
says_normal Update e = absurd (cc)

link_shown : (n size start : ℕ) (v : CoreValue) (c : Core) (f : ℕ) → HasStateOf n size start v c
    → link_into n c.links f ≡ link_into (length v.links) v.links f
link_shown n size start v c f s = λ i. link_into (sym s.positions i) (s.links_are i) f

links_shown : (n size start : ℕ) (v : CoreValue) (c : Core) (f : ℕ) (l : Link) → HasStateOf n size start v c
    → links_with n c.links f l ≡ links_with (length v.links) v.links f l
links_shown n size start v c f l s = λ i. links_with (sym s.positions i) (s.links_are i) f l

module _ (n size start : ℕ) (v : CoreValue) (c : Core) (core : IsCore n size start v c) (some : v.stack.frames ≢ [])
  where
    -- It goes on in another phase, for the same fill.
    goes : (phase : model.Phase) (to : Phase) (o : ℕ) → phase_of v.phase ≡ phase → noted_fill phase ≡ Some o
        → noted_fill (phase_of to) ≡ Some o
        → ((frame : Frame) (below : List Frame)
        → cases.FrameStep n size c frame below phase model_steps.going
        (model_steps.in_phase c frame below (phase_of to)))
        → IsStep n size start c model_steps.steps Going (record v { phase = to })
    goes phase to o at was is step =
        let t = topped n size start (frames_of v) c core.shows.frames some in
        let frame : Frame = t.frame in
        let below : List Frame = t.below in
        top_steps n size start v (record v { phase = to }) c frame below phase Going model_steps.going
        (model_steps.in_phase c frame below (phase_of to)) core t.is_top (t.phase_is ∙ at) (step frame below) refl
        (shows_phase n size start v c frame below to o core.shows t.is_top (ap noted_fill at ∙ was) is)

    -- It sets a link, and goes on in another phase.
    sets : (phase : model.Phase) (to : Phase) (o f head : ℕ) (l : Link) → phase_of v.phase ≡ phase
        → noted_fill phase ≡ Some o → noted_fill (phase_of to) ≡ Some o → c.head ≤ head
        → ((frame : Frame) (below : List Frame)
        → cases.FrameStep n size c frame below phase model_steps.going
        (record c
        { frames = record frame { phase = phase_of to } ∷ below; links = links_with n c.links f l; head = head }))
        → IsStep n size start c model_steps.steps Going
        (record v { phase = to; links = links_with (length v.links) v.links f l })
    sets phase to o f head l at was is later step =
        let s = core.shows in
        let t = topped n size start (frames_of v) c s.frames some in
        let frame : Frame = t.frame in
        let below : List Frame = t.below in
        let after : Core =
        record c {
          frames = record frame { phase = phase_of to } ∷ below;
          links = links_with n c.links f l;
          head = head;
        } in
        top_steps n size start v (record v { phase = to; links = links_with (length v.links) v.links f l }) c frame
        below
        phase Going model_steps.going after core t.is_top (t.phase_is ∙ at) (step frame below) refl
        (shows_moved n size start v c frame below to (links_with n c.links f l)
        (links_with (length v.links) v.links f l)
        head o s t.is_top (ap noted_fill at ∙ was) is
        (links_shown n size start v c f l s) (length-set v.links (f % length v.links) l ∙ s.positions) later)

    is_opened : (noted : ℕ) → noted ≡ opened v.stack → noted ≡ c.opened
    is_opened noted now = now ∙ sym core.shows.frames.opened_is

    kept : IsRingKept n size start c
    kept = kept_of n size start v c core

    -- ---- the link into the position of the fill to open

    pub looks_normal : (noted page fill : ℕ) → v.phase ≡ Looking noted → noted ≡ opened v.stack
        → link_into (length v.links) v.links noted ≡ normal_link page fill
        → IsStep n size start c model_steps.steps Going (record v { phase = Opening noted page })
    looks_normal noted page fill at now link =
        let here = link_shown n size start v c noted core.shows ∙ link in
        let it = is_opened noted now in
        let reports = normal_fill n c kept.links kept.progress noted it page fill here in
        goes (model.looking noted) (Opening noted page) noted (ap phase_of at) refl refl
        (λ frame below. cases.sees_free page it (here ∙ ap (normal_link page) reports) refl refl)

    pub looks_header : (noted page fill : ℕ) → v.phase ≡ Looking noted → noted ≡ opened v.stack
        → link_into (length v.links) v.links noted ≡ header_link page fill
        → IsStep n size start c model_steps.steps Going (record v { phase = Claiming noted page })
    looks_header noted page fill at now link =
        let here = link_shown n size start v c noted core.shows ∙ link in
        let it = is_opened noted now in
        let reports = header_fill n c kept.links kept.progress noted it page fill here in
        goes (model.looking noted) (Claiming noted page) noted (ap phase_of at) refl refl
        (λ frame below. cases.sees_header page fill it reports here refl refl)

    pub looks_update : (noted page fill : ℕ) → v.phase ≡ Looking noted → noted ≡ opened v.stack
        → link_into (length v.links) v.links noted ≡ update_link page fill
        → IsStep n size start c model_steps.steps Going (record v { phase = LookingNext Helper noted page })
    looks_update noted page fill at now link =
        let here = link_shown n size start v c noted core.shows ∙ link in
        let it = is_opened noted now in
        let reports = update_fill n c kept.links kept.progress noted it page fill here in
        goes (model.looking noted) (LookingNext Helper noted page) noted (ap phase_of at) refl refl
        (λ frame below. cases.sees_update page fill it reports here refl refl)

    -- ---- the head is lost

    pub claims_head : (noted page lost : ℕ) (new : CoreValue) → v.phase ≡ Claiming noted page → noted ≡ opened v.stack
        → ClaimsHead v noted page lost new
        → IsStep n size start c model_steps.steps Going (record new { phase = LookingNext Owner noted page })
    claims_head noted page lost new at now claim =
        let here = link_shown n size start v c noted core.shows ∙ claim.had.link in
        let wide = core.shows.positions in
        let round = claim.had.round in
        let it = is_opened noted now in
        subst
        (λ (x : CoreValue).
        IsStep n size start c model_steps.steps Going (record x { phase = LookingNext Owner noted page }))
        (sym claim.new_is)
        (sets (model.claiming noted page) (LookingNext Owner noted page) noted noted (c.head + 1)
        (update_link page lost)
        (ap phase_of at) refl refl (omega arith)
        (λ frame below. cases.claims lost it (omega arith) here refl refl))

    pub claims_none : (noted page : ℕ) (new : CoreValue) → v.phase ≡ Claiming noted page → noted ≡ opened v.stack
        → new ≡ v → ((lost : ℕ) → HasHeaderMark v noted page lost → ⊥)
        → IsStep n size start c model_steps.steps Going (record new { phase = Looking noted })
    claims_none noted page new at now same none =
        let there = link_shown n size start v c noted core.shows in
        let wide = core.shows.positions in
        subst (λ (x : CoreValue). IsStep n size start c model_steps.steps Going (record x { phase = Looking noted }))
        (sym same)
        (goes (model.claiming noted page) (Looking noted) noted (ap phase_of at) refl refl
        (λ frame below.
        cases.claim_fails (is_opened noted now)
        (λ lost sum e. none lost record { round = omega arith; link = sym there ∙ e }) refl refl))

    -- ---- the next link

    goes_on : (role : Role) (noted : ℕ) → MayContinue (role_of role) noted (opened v.stack)
        → MayContinue (role_of role) noted c.opened
    goes_on Owner noted now = tt
    goes_on Helper noted now = is_opened noted now

    advances : (phase : model.Phase) → phase_of v.phase ≡ phase → PhaseAdvances n c.links c.head phase
    advances phase at =
        let t = topped n size start (frames_of v) c core.shows.frames some in
        let frame : Frame = t.frame in
        let below : List Frame = t.below in
        subst (PhaseAdvances n c.links c.head) (t.phase_is ∙ at)
        (subst (FramesAdvance n c.links c.head) t.is_top kept.progress.advance).0

    -- after the head there is a whole round of fills
    pub round_next : (role : Role) (noted page : ℕ) → v.phase ≡ LookingNext role noted page → length v.links ≤ noted
    round_next role noted page at = let wide = core.shows.positions in
        let turn : n ≤ noted = advances (model.looking_next (role_of role) noted page) (ap phase_of at) in
        omega arith

    pub round_mark : (role : Role) (noted page next : ℕ) → v.phase ≡ Marking role noted page next
        → length v.links ≤ noted
    round_mark role noted page next at = let wide = core.shows.positions in
        let turn : n ≤ noted = advances (model.marking (role_of role) noted page next) (ap phase_of at) in
        omega arith

    pub next_waits : (role : Role) (noted page next lost : ℕ) → v.phase ≡ LookingNext role noted page
        → MayContinue (role_of role) noted (opened v.stack) → lost + length v.links ≡ noted
        → link_into (length v.links) v.links (suc lost) ≡ normal_link next (suc lost)
        → IsStep n size start c model_steps.steps Going (record v { phase = Marking role noted page next })
    next_waits role noted page next lost at now sum link =
        let here = link_shown n size start v c (suc lost) core.shows ∙ link in
        let wide = core.shows.positions in
        goes (model.looking_next (role_of role) noted page) (Marking role noted page next) noted (ap phase_of at) refl
        refl
        (λ frame below. cases.sees_normal lost next (goes_on role noted now) (omega arith) here refl refl)

    -- what the frame does after the look at the next link
    noted_after : (role : Role) (noted page : ℕ)
        → noted_fill (model_steps.after_next (role_of role) noted page) ≡ Some noted
    noted_after Owner noted page = refl
    noted_after Helper noted page = refl

    pub next_passed : (role : Role) (noted page lost : ℕ) (to : Phase) → v.phase ≡ LookingNext role noted page
        → MayContinue (role_of role) noted (opened v.stack) → lost + length v.links ≡ noted
        → ((next : ℕ) → link_into (length v.links) v.links (suc lost) ≢ normal_link next (suc lost))
        → phase_of to ≡ model_steps.after_next (role_of role) noted page
        → IsStep n size start c model_steps.steps Going (record v { phase = to })
    next_passed role noted page lost to at now sum differ to_is =
        let same = link_shown n size start v c (suc lost) core.shows in
        let wide = core.shows.positions in
        goes (model.looking_next (role_of role) noted page) to noted (ap phase_of at) refl
        (ap noted_fill to_is ∙ noted_after role noted page)
        (λ frame below.
        cases.sees_other lost (goes_on role noted now) (omega arith) (λ next e. differ next (sym same ∙ e)) refl
        (ap (model_steps.in_phase c frame below) to_is))

    marks : (role : Role) (noted page next lost : ℕ) (to : Phase) → v.phase ≡ Marking role noted page next
        → MayContinue (role_of role) noted (opened v.stack) → lost + length v.links ≡ noted
        → phase_of to ≡ model_steps.after_next (role_of role) noted page
        → link_into (length v.links) v.links (suc lost) ≡ normal_link next (suc lost)
        → IsStep n size start c model_steps.steps Going
        (record v
        { phase = to; links = links_with (length v.links) v.links (suc lost) (header_link next (suc lost)) })
    marks role noted page next lost to at now sum to_is link =
        let here = link_shown n size start v c (suc lost) core.shows ∙ link in
        let wide = core.shows.positions in
        sets (model.marking (role_of role) noted page next) to noted (suc lost) c.head (header_link next (suc lost))
        (ap phase_of at) refl (ap noted_fill to_is ∙ noted_after role noted page) (omega arith)
        (λ frame below.
        cases.marks lost (goes_on role noted now) (omega arith) here refl
        (ap
        (model_steps.in_phase (model_steps.with_link n c (suc lost) (header_link next (suc lost))) frame below)
        to_is))

    fails : (role : Role) (noted page next lost : ℕ) (to : Phase) → v.phase ≡ Marking role noted page next
        → MayContinue (role_of role) noted (opened v.stack) → lost + length v.links ≡ noted
        → phase_of to ≡ model_steps.after_next (role_of role) noted page
        → link_into (length v.links) v.links (suc lost) ≢ normal_link next (suc lost)
        → IsStep n size start c model_steps.steps Going (record v { phase = to })
    fails role noted page next lost to at now sum to_is differ =
        let same = link_shown n size start v c (suc lost) core.shows in
        let wide = core.shows.positions in
        goes (model.marking (role_of role) noted page next) to noted (ap phase_of at) refl
        (ap noted_fill to_is ∙ noted_after role noted page)
        (λ frame below.
        cases.mark_fails lost (goes_on role noted now) (omega arith) (λ e. differ (sym same ∙ e)) refl
        (ap (model_steps.in_phase c frame below) to_is))

    -- the exchange succeeds or fails
    pub mark_exchanged : (role : Role) (noted page next lost : ℕ) (to : Phase) (met : Bool) (new : CoreValue)
        → v.phase ≡ Marking role noted page next → MayContinue (role_of role) noted (opened v.stack)
        → lost + length v.links ≡ noted
        → phase_of to ≡ model_steps.after_next (role_of role) noted page
        → IsTrue met ↔ (link_into (length v.links) v.links (suc lost) ≡ normal_link next (suc lost))
        → (met ≡ true
        → new ≡ record v { links = links_with (length v.links) v.links (suc lost) (header_link next (suc lost)) })
        → (met ≡ false → new ≡ v)
        → IsStep n size start c model_steps.steps Going (record new { phase = to })
    mark_exchanged role noted page next lost to true new at now sum to_is met exchanged kept =
        subst (λ (x : CoreValue). IsStep n size start c model_steps.steps Going (record x { phase = to }))
        (sym (exchanged refl)) (marks role noted page next lost to at now sum to_is (met.0 refl))
    mark_exchanged role noted page next lost to false new at now sum to_is met exchanged kept =
        subst (λ (x : CoreValue). IsStep n size start c model_steps.steps Going (record x { phase = to }))
        (sym (kept refl))
        (fails role noted page next lost to at now sum to_is (λ e. let truth : false ≡ true = met.1 e in cc))

    -- ---- the frame's own UPDATE

    pub clears_update : (noted page : ℕ) → v.phase ≡ Clearing noted page
        → IsStep n size start c model_steps.steps Going
        (record v
        { phase = Opening noted page; links = links_with (length v.links) v.links noted (normal_link page noted) })
    clears_update noted page at =
        let t = topped n size start (frames_of v) c core.shows.frames some in
        let frame : Frame = t.frame in
        let below : List Frame = t.below in
        let knows =
        subst (PhaseKept n c.links c.order c.head c.done c.opened) (t.phase_is ∙ ap phase_of at)
        (top_kept n c frame below kept.links t.is_top) in
        let (lost, sum, low, open_yet, there) = knows.moves noted refl in
        let page_is = (knows.passed noted page refl).2 in
        sets (model.clearing noted page) (Opening noted page) noted noted c.head (normal_link page noted)
        (ap phase_of at)
        refl refl (omega arith)
        (λ frame below. cases.clears lost sum (there ∙ ap (λ (p : ℕ). update_link p lost) (sym page_is)) refl refl)

-- ---- another frame has begun the fill

pub is_late : (v : CoreValue) (phase : Phase) (noted : ℕ) → v.phase ≡ phase → noted_fill (phase_of phase) ≡ Some noted
    → (noted ≢ opened v.stack → PhaseIsPrivate (phase_of phase) (opened v.stack)) → noted ≢ opened v.stack → IsLate v
is_late v phase noted at is own passed = (
  noted,
  ap (λ (p : Phase). noted_fill (phase_of p)) at ∙ is,
  passed,
  subst (λ (p : Phase). PhaseIsPrivate (phase_of p) (opened v.stack)) (sym at) (own passed),
)

-- ---- the frame on top goes on

pub gone_on : (n size start : ℕ) (c : Core) (between new : CoreValue) (phase : Phase) (result : StepAnswer)
    → result ≡ TheGoing → new ≡ record between { phase = phase }
    → IsStep n size start c model_steps.steps Going (record between { phase = phase })
    → IsStep n size start c model_steps.steps (as_answer result) new
gone_on n size start c between new phase result answer is step =
    subst (λ (r : StepAnswer). IsStep n size start c model_steps.steps (as_answer r) new) (sym answer)
    (subst (IsStep n size start c model_steps.steps Going) (sym is) step)
