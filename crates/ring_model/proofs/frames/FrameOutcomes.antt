-- What becomes of the frame on top by one of its steps.
use Rattle.std.proofs.Common.{◌≡◌, ◌≢◌, ℕ, ◌⊎◌, List, [], ◌∷◌, length, refl, sym, ap, ◌∙◌, subst, inl, inr}
use Rattle.trace_model.specs.Frames.{Purpose, for_record, for_close, Progress, waiting, reserved, left, WriteFault}
use Rattle.trace_model.specs.Frames.{crowded, worn, Role, owner, helper, Phase, idle, looking, claiming, looking_next}
use Rattle.trace_model.specs.Frames.{marking, clearing, opening, releasing, wishing, Frame}
use Rattle.trace_model.specs.History.{reserved_records}
use Rattle.trace_model.specs.Ring.{Core}
use Rattle.trace_model.specs.Steps.{Answer, going, refused, leave_answer, frames_after_leave, after_next, begin_answer}
use Rattle.trace_model.specs.Steps.{after_begin, with_new_tail}
use Rattle.trace_model.proofs.steps.StepCases.{BeginsAgain, IdleStep, reserves, finds_nothing, is_crowded, is_worn}
use Rattle.trace_model.proofs.steps.StepCases.{notes, FrameStep, load_link_late, sees_free, sees_header, sees_update}
use Rattle.trace_model.proofs.steps.StepCases.{claim_late, claims, claim_fails, load_next_late, sees_normal, sees_other}
use Rattle.trace_model.proofs.steps.StepCases.{mark_late, marks, mark_fails, clears, open_late, opens, releases}
use Rattle.trace_model.proofs.steps.StepCases.{releases_last, grants, closes_more, goes_away}
use Rattle.ring_model.specs.FrameOutcomes.{IsReserving, IsLeaving, Reserving, reserves_on, has_reserved, is_refused}
use Rattle.ring_model.specs.FrameOutcomes.{Leaving, leaves_on, is_gone, FramesReserve, FramesLeave}
use Rattle.ring_model.proofs.frames.StackSteps.{releasing_left, wishing_left, top_agrees}
use Rattle.ring_model.proofs.frames.TopSteps.{top_stepped}

-- ---- a frame that leaves the tail

left_behind : (frame : Frame) (below : List Frame) (c : Core) (answer : Answer) (after : Core) (others : List Frame)
    → below ≡ others → (answer ≡ leave_answer others) ⊎ ((why : WriteFault) × (answer ≡ refused why))
    → after.frames ≡ frames_after_leave c frame others → Leaving below answer after.frames
left_behind frame below c answer after [] none (inl a) e =
    subst (λ (b : List Frame). Leaving b answer after.frames) (sym none) (leaves_on _ (inl a) e tt)
left_behind frame below c answer after [] none (inr a) e =
    subst (λ (b : List Frame). Leaving b answer after.frames) (sym none) (leaves_on _ (inr a) e tt)
left_behind frame below c answer after (next ∷ others) some a e = is_gone a (e ∙ sym some)

-- ---- a frame that has a record to reserve

waits : (kind : Purpose) (state : Progress) → IsReserving kind state → state ≡ waiting
waits (for_record moment len) waiting is = refl
waits for_close waiting is = absurd is
waits kind (reserved number) is = absurd is
waits kind left is = absurd is

not_left : (kind : Purpose) (state : Progress) → IsReserving kind state → state ≢ left
not_left kind state is e = let both : waiting ≡ left = sym (waits kind state is) ∙ e in cc

module _ (frame : Frame) (below : List Frame) (is : IsReserving frame.kind frame.state) where
  abbrev Reserves : Answer → Core → Type 0
  Reserves answer after = Reserving frame below answer after.frames

  in_phase_of : (next : Core) (answer : Answer) (after : Core) (frames : List Frame) (phase : Phase) → answer ≡ going
      → after ≡ next → next.frames ≡ record frame { phase = phase } ∷ below → Reserves answer after
  in_phase_of next answer after frames phase a e f =
      reserves_on (record frame { phase = phase }) a (ap (λ (c : Core). c.frames) e ∙ f) refl refl

  reserving_again : (kind : Purpose) (state : Progress) (c : Core) (answer : Answer) (after : Core) → kind ≡ frame.kind
      → state ≡ frame.state → answer ≡ begin_answer kind state below → after ≡ after_begin kind state c frame below
      → Reserves answer after
  reserving_again (for_record moment len) waiting c answer after k s a e =
      reserves_on (record frame { phase = idle }) a (ap (λ (d : Core). d.frames) e) refl refl
  reserving_again for_close waiting c answer after k s a e =
      absurd (subst (λ (x : Purpose). IsReserving x waiting) (sym k) (subst (IsReserving frame.kind) (sym s) is))
  reserving_again kind (reserved number) c answer after k s a e =
      let both : waiting ≡ reserved number =
      sym (waits frame.kind frame.state is) ∙ sym s in
      absurd (cc)
  reserving_again kind left c answer after k s a e =
      let both : waiting ≡ left =
      sym (waits frame.kind frame.state is) ∙ sym s in
      absurd (cc)

  module _ (n size : ℕ) (c : Core) (answer : Answer) (after : Core) where
    goes : (phase : Phase) (next : Core) → next.frames ≡ record frame { phase = phase } ∷ below → answer ≡ going
        → after ≡ next → Reserves answer after
    goes phase next f a e = in_phase_of next answer after next.frames phase a e f

    reserving_late : (noted : ℕ) → BeginsAgain c frame below noted answer after → Reserves answer after
    reserving_late noted late =
        reserving_again frame.kind frame.state c answer after refl refl late.answer_is late.after_is

    reserving_idle : (state : Progress) → frame.state ≡ state → IdleStep n size c frame below state answer after
        → Reserves answer after
    reserving_idle waiting at (reserves moment len r kind r_is fits a e) =
        has_reserved _ (length (reserved_records c.history)) a (ap (λ (d : Core). d.frames) e) refl refl
    reserving_idle waiting at (finds_nothing kind none a e) =
        absurd (subst (λ (x : Purpose). IsReserving x waiting) kind (subst (IsReserving frame.kind) at is))
    reserving_idle waiting at (is_crowded needs full a e) =
        is_refused crowded a
        (left_behind frame below c answer after below refl (inr (crowded, a)) (ap (λ (d : Core). d.frames) e))
    reserving_idle waiting at (is_worn needs room last a e) =
        is_refused worn a
        (left_behind frame below c answer after below refl (inr (worn, a)) (ap (λ (d : Core). d.frames) e))
    reserving_idle waiting at (notes needs room small a e) = goes (looking c.opened) _ refl a e
    reserving_idle (reserved number) at step =
        let both : waiting ≡ reserved number =
        sym (waits frame.kind frame.state is) ∙ at in
        absurd (cc)
    reserving_idle left at step = absurd step

    reserving_next : (role : Role) (noted page : ℕ) (next : Core)
        → next.frames ≡ record frame { phase = after_next role noted page } ∷ below → answer ≡ going → after ≡ next
        → Reserves answer after
    reserving_next role noted page next f a e = goes (after_next role noted page) next f a e

    reserving_in : (phase : Phase) → (phase ≡ releasing → frame.state ≡ left) → (phase ≡ wishing → frame.state ≡ left)
        → FrameStep n size c frame below phase answer after → Reserves answer after
    reserving_in idle r w step = reserving_idle frame.state refl step
    reserving_in (looking noted) r w (load_link_late late) = reserving_late noted late
    reserving_in (looking noted) r w (sees_free page x at a e) = goes (opening noted page) _ refl a e
    reserving_in (looking noted) r w (sees_header page lost x sum at a e) = goes (claiming noted page) _ refl a e
    reserving_in (looking noted) r w (sees_update page lost x sum at a e) =
        goes (looking_next helper noted page) _ refl a e
    reserving_in (claiming noted page) r w (claim_late late) = reserving_late noted late
    reserving_in (claiming noted page) r w (claims lost x sum at a e) = goes (looking_next owner noted page) _ refl a e
    reserving_in (claiming noted page) r w (claim_fails x none a e) = goes (looking noted) _ refl a e
    reserving_in (looking_next role noted page) r w (load_next_late helps late) = reserving_late noted late
    reserving_in (looking_next role noted page) r w (sees_normal lost next on sum at a e) =
        goes (marking role noted page next) _ refl a e
    reserving_in (looking_next role noted page) r w (sees_other lost on sum none a e) =
        reserving_next role noted page _ refl a e
    reserving_in (marking role noted page next) r w (mark_late helps late) = reserving_late noted late
    reserving_in (marking role noted page next) r w (marks lost on sum at a e) =
        reserving_next role noted page _ refl a e
    reserving_in (marking role noted page next) r w (mark_fails lost on sum differ a e) =
        reserving_next role noted page _ refl a e
    reserving_in (clearing noted page) r w (clears lost sum at a e) = goes (opening noted page) _ refl a e
    reserving_in (opening noted page) r w (open_late late) = reserving_late noted late
    reserving_in (opening noted page) r w (opens now a e) =
        reserving_again frame.kind frame.state (with_new_tail c page) answer after refl refl a e
    reserving_in releasing r w step = absurd (not_left frame.kind frame.state is (r refl))
    reserving_in wishing r w step = absurd (not_left frame.kind frame.state is (w refl))

pub frames_reserve : FramesReserve
frames_reserve n size start c frame below answer after kept top is step =
    let agree = top_agrees c frame below top kept.stack in
    reserving_in frame below is n size c answer after frame.phase
    (λ e. releasing_left frame.kind frame.state frame.phase e agree.0)
    (λ e. wishing_left frame.kind frame.state frame.phase e agree.0)
    (top_stepped n size c frame below frame.phase answer after top refl step)

-- ---- a frame that leaves, or has left

module _ (frame : Frame) (below : List Frame) (is : IsLeaving frame.kind frame.state) where
  abbrev Leaves : Answer → Core → Type 0
  Leaves answer after = Leaving below answer after.frames

  leaving_again : (kind : Purpose) (state : Progress) (c : Core) (answer : Answer) (after : Core) → kind ≡ frame.kind
      → state ≡ frame.state → answer ≡ begin_answer kind state below → after ≡ after_begin kind state c frame below
      → Leaves answer after
  leaving_again (for_record moment len) waiting c answer after k s a e =
      absurd (subst (λ (x : Purpose). IsLeaving x waiting) (sym k) (subst (IsLeaving frame.kind) (sym s) is))
  leaving_again for_close waiting c answer after k s a e =
      left_behind frame below c answer after below refl (inl a) (ap (λ (d : Core). d.frames) e)
  leaving_again kind (reserved number) c answer after k s a e = absurd (subst (IsLeaving frame.kind) (sym s) is)
  leaving_again kind left c answer after k s a e = leaves_on _ (inl a) (ap (λ (d : Core). d.frames) e) is

  module _ (n size : ℕ) (c : Core) (answer : Answer) (after : Core) where
    goes_on : (phase : Phase) (next : Core) → next.frames ≡ record frame { phase = phase } ∷ below → answer ≡ going
        → after ≡ next → Leaves answer after
    goes_on phase next f a e = leaves_on (record frame { phase = phase }) (inl a) (ap (λ (d : Core). d.frames) e ∙ f) is

    leaving_late : (noted : ℕ) → BeginsAgain c frame below noted answer after → Leaves answer after
    leaving_late noted late = leaving_again frame.kind frame.state c answer after refl refl late.answer_is late.after_is

    leaving_idle : (state : Progress) → frame.state ≡ state → IdleStep n size c frame below state answer after
        → Leaves answer after
    leaving_idle waiting at (reserves moment len r kind r_is fits a e) =
        absurd (subst (λ (x : Purpose). IsLeaving x waiting) kind (subst (IsLeaving frame.kind) at is))
    leaving_idle waiting at (finds_nothing kind none a e) =
        left_behind frame below c answer after below refl (inl a) (ap (λ (d : Core). d.frames) e)
    leaving_idle waiting at (is_crowded needs full a e) =
        left_behind frame below c answer after below refl (inr (crowded, a)) (ap (λ (d : Core). d.frames) e)
    leaving_idle waiting at (is_worn needs room last a e) =
        left_behind frame below c answer after below refl (inr (worn, a)) (ap (λ (d : Core). d.frames) e)
    leaving_idle waiting at (notes needs room small a e) = goes_on (looking c.opened) _ refl a e
    leaving_idle (reserved number) at step = absurd (subst (IsLeaving frame.kind) at is)
    leaving_idle left at step = absurd step

    leaving_in : (phase : Phase) → frame.phase ≡ phase → c.frames ≡ frame ∷ below
        → FrameStep n size c frame below phase answer after → Leaves answer after
    leaving_in idle p top step = leaving_idle frame.state refl step
    leaving_in (looking noted) p top (load_link_late late) = leaving_late noted late
    leaving_in (looking noted) p top (sees_free page x at a e) = goes_on (opening noted page) _ refl a e
    leaving_in (looking noted) p top (sees_header page lost x sum at a e) = goes_on (claiming noted page) _ refl a e
    leaving_in (looking noted) p top (sees_update page lost x sum at a e) =
        goes_on (looking_next helper noted page) _ refl a e
    leaving_in (claiming noted page) p top (claim_late late) = leaving_late noted late
    leaving_in (claiming noted page) p top (claims lost x sum at a e) =
        goes_on (looking_next owner noted page) _ refl a e
    leaving_in (claiming noted page) p top (claim_fails x none a e) = goes_on (looking noted) _ refl a e
    leaving_in (looking_next role noted page) p top (load_next_late helps late) = leaving_late noted late
    leaving_in (looking_next role noted page) p top (sees_normal lost next on sum at a e) =
        goes_on (marking role noted page next) _ refl a e
    leaving_in (looking_next role noted page) p top (sees_other lost on sum none a e) =
        goes_on (after_next role noted page) _ refl a e
    leaving_in (marking role noted page next) p top (mark_late helps late) = leaving_late noted late
    leaving_in (marking role noted page next) p top (marks lost on sum at a e) =
        goes_on (after_next role noted page) _ refl a e
    leaving_in (marking role noted page next) p top (mark_fails lost on sum differ a e) =
        goes_on (after_next role noted page) _ refl a e
    leaving_in (clearing noted page) p top (clears lost sum at a e) = goes_on (opening noted page) _ refl a e
    leaving_in (opening noted page) p top (open_late late) = leaving_late noted late
    leaving_in (opening noted page) p top (opens now a e) =
        leaving_again frame.kind frame.state (with_new_tail c page) answer after refl refl a e
    leaving_in releasing p top (releases alone more a e) =
        leaves_on frame (inl a) (ap (λ (d : Core). d.frames) e ∙ top) is
    leaving_in releasing p top (releases_last alone last a e) = goes_on wishing _ refl a e
    leaving_in wishing p top (grants alone granted a e) = goes_on (looking c.opened) _ refl a e
    leaving_in wishing p top (closes_more alone denied more a e) = goes_on releasing _ refl a e
    leaving_in wishing p top (goes_away alone denied none a e) =
        is_gone (inl a) (ap (λ (d : Core). d.frames) e ∙ sym alone)

pub frames_leave : FramesLeave
frames_leave n size start c frame below answer after kept top is step =
    leaving_in frame below is n size c answer after frame.phase refl top
    (top_stepped n size c frame below frame.phase answer after top refl step)
