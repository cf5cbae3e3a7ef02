-- One step of the frame on top, beside an account: which events it makes, each its own and due, and what it leaves.
use Rattle.std.proofs.Common.{◌≡◌, ℕ, ◌+◌, ◌<◌, ◌⊎◌, List, [], ◌∷◌, ◌++◌, Option, Some, None, refl}
use Rattle.std.proofs.Common.{sym, ap, ◌∙◌, subst, inl, inr, arith, append-nil, ◌-◌, ◌≤◌, ◌≢◌}
use mathlib.Core.Logic.{dite}
use native.Mathlib.Decide.{dec_le}
use Rattle.std.specs.Prelude.{◌==◌}
use Rattle.std.proofs.lemmas.Bool.{cond-true, cond-false, eq-eqb, ne_eqb}
use Rattle.trace_model.specs.Words.{padded}
use Rattle.trace_model.specs.History.{push, push_close, open_fill, reserve, leave, wished, PushedFrame}
use Rattle.trace_model.proofs.histories.NextEvent.{settled_at_rest}
use Rattle.trace_model.specs.Window.{Window, RingEvent, acts, closes, takes, loses, window_after}
use Rattle.trace_model.specs.Frames.{Purpose, Progress, waiting, reserved, left, Role, owner, helper, Phase, idle}
use Rattle.trace_model.specs.Frames.{looking, claiming, looking_next, marking, clearing, opening, releasing, wishing}
use Rattle.trace_model.specs.Frames.{noted_fill, owned_update, pushed_frame, Frame, pushed_frames}
use Rattle.trace_model.specs.Links.{normal_link, header_link, update_link}
use Rattle.trace_model.specs.Ring.{Core, window_of, link_into, page_at}
use Rattle.trace_model.specs.Steps.{Event, ends, Step, after_next, IsGranted, MayContinue}
use Rattle.trace_model.proofs.steps.StepCases.{FrameStep, load_link_late, sees_free, sees_header, sees_update}
use Rattle.trace_model.proofs.steps.StepCases.{claim_late, claims, claim_fails, load_next_late, sees_normal, sees_other}
use Rattle.trace_model.proofs.steps.StepCases.{mark_late, marks, mark_fails, clears, open_late, opens, releases}
use Rattle.trace_model.proofs.steps.StepCases.{releases_last, grants, closes_more, goes_away}
use Rattle.trace_model.proofs.steps.EventSteps.{top_step, top_ends}
use Rattle.ring_model.specs.KeptLinks.{HasMover, PhaseKept}
use Rattle.ring_model.specs.KeptStack.{MayBeIn}
use Rattle.ring_model.proofs.histories.HistorySteps.{top_agrees, releasing_left, wishing_left, stack_reserved}
use Rattle.ring_model.proofs.histories.HistorySteps.{stack_empty}
use Rattle.ring_model.proofs.links.FrameChanges.{top_kept}
use Rattle.ring_model.proofs.links.FramePhases.{normal_ne_update}
use Rattle.ring_model.proofs.links.LinkFills.{update_reports, owned_by, normal_inside, update_inside, header_inside}
use Rattle.ring_model.proofs.links.SeenLinks.{claims_fail_once_the_head_moved}
use Rattle.world_model.specs.Lanes.{event_in, event_on_top}
use Rattle.line_model.specs.Due.{Situation, situation_after, IsFillNeededFor, IsFillNeeded, IsWishToFind, Leaves}
use Rattle.line_model.specs.Due.{IsDue}
use Rattle.line_model.specs.Accounts.{to_look, to_lose, to_begin, Stage, searching, moving, closing_fills, asking, off}
use Rattle.line_model.specs.Accounts.{LineFrame, IsOwn, at_rest, IsMovedFor, MayPass}
use Rattle.line_model.proofs.Standing.{stage_of}
use Rattle.line_model.proofs.StandingKept.{mover_told, told_mover}
use Rattle.line_model.proofs.WishesKept.{Serves, reached_serves}
use Rattle.line_model.proofs.DueRuns.{situation_of}
use Rattle.line_model.proofs.StepDoes.{line, TopStep, Made}
use Rattle.line_model.proofs.TopStays.{kept, sit, needed, can_have, due_one, events_are, no_event, stays_with}
use Rattle.line_model.proofs.TopStays.{at_stage, makes, goes_with}
use Rattle.line_model.proofs.TopMoves.{not_left, there, stand_in, on, leaves_with, late}
use Rattle.line_model.proofs.TopBegins.{begins, idle_does}

module _ (t : TopStep) where
  abbrev c : Core
  c = t.before.core

  abbrev s : Situation
  s = situation_of t.script c

  -- ---- the bottom frame, which has left

  may_be : (phase : Phase) → t.frame.phase ≡ phase → MayBeIn t.frame.kind t.frame.state phase
  may_be phase at = subst (MayBeIn t.frame.kind t.frame.state) at (top_agrees c t.frame t.under (kept t).stack t.top).0

  -- the bottom frame, which has left, is at rest
  left_rests : t.frame.state ≡ left → (w : Window) → at_rest w [] None ≡ at_rest w t.below t.told
  left_rests is w =
      let (told, bottom) = t.one.has_left is in
      sym (ap (λ (lines : List LineFrame). at_rest w lines None) bottom) ∙ sym (ap (at_rest w t.below) told)

  closes_with : (to : Phase) (next : Core)
      → t.frame.phase ≡ releasing
      → t.under ≡ []
      → c.done + 1 < c.opened
      → t.after ≡ next
      → next.frames ≡ record t.frame { phase = to } ∷ t.under
      → next.history ≡ c.history
      → window_of next ≡ window_after (window_of c) closes
      → stage_of to ≡ at_rest (window_of t.after) [] None
      → Made t
  closes_with to next at alone more is frames h w rests =
      let is_left = releasing_left t.frame.kind t.frame.state (may_be releasing at) in
      let empty = stack_empty t.script.pages t.script.start c t.frame t.under (kept t).history t.top is_left alone in
      stays_with t (closes ∷ []) t.told (record t.frame { phase = to })
      (events_are t (closes ∷ []) refl (ap (λ (d : Core). d.history) is ∙ h ∙ sym (append-nil c.history))
      ((more, settled_at_rest c.history empty), sym (ap window_of is ∙ w)))
      (t.one.has_left is_left, refl) (due_one t closes (empty, more))
      (makes t releasing closes t.told (stage_of to) at refl (rests ∙ left_rests is_left (window_of t.after)))
      (ap (λ (d : Core). d.frames) is ∙ frames) refl
      (stand_in t to) (there t)
      (λ closing waits o e. absurd (let both : left ≡ waiting = sym is_left ∙ waits in let no : ⊥ = cc in no))

  -- it looks for the wish, so it wasn't found
  unneeded : t.frame.phase ≡ wishing → t.under ≡ [] → IsFillNeeded s → ⊥
  unneeded at alone needs =
      let is_left = wishing_left t.frame.kind t.frame.state (may_be wishing at) in
      let found =
      (subst (IsFillNeededFor s)
      (stack_empty t.script.pages t.script.start c t.frame t.under (kept t).history t.top is_left alone) needs).0 in
      let serves = subst (Serves c.opened) (t.top ∙ ap (λ (xs : List Frame). t.frame ∷ xs) alone)
      (reached_serves t.script.pages t.script.size t.script.start c t.stands.reached found) in
      let both : None ≡ Some c.opened = sym (ap noted_fill at) ∙ serves.1 in cc

  -- no wish is found
  not_granted : (IsGranted t.script.pages c → ⊥) → IsWishToFind s → ⊥
  not_granted denied (asks, holds, small, free) =
      denied record { asks_tail = asks; holds_record = holds; numbers_left = small }

  wishes_with : (next : Core)
      → t.frame.phase ≡ wishing
      → t.under ≡ []
      → IsGranted t.script.pages c
      → t.after ≡ next
      → next.frames ≡ record t.frame { phase = looking c.opened } ∷ t.under
      → next.history ≡ c.history ++ wished ∷ []
      → window_of next ≡ window_of c
      → Made t
  wishes_with next at alone granted is frames h w =
      let is_left = wishing_left t.frame.kind t.frame.state (may_be wishing at) in
      let empty = stack_empty t.script.pages t.script.start c t.frame t.under (kept t).history t.top is_left alone in
      stays_with t (acts wished ∷ []) t.told (record t.frame { phase = looking c.opened })
      (events_are t (acts wished ∷ []) refl (ap (λ (d : Core). d.history) is ∙ h) (tt, sym (ap window_of is ∙ w)))
      (t.one.has_left is_left, refl)
      (due_one t (acts wished)
      (empty, (granted.asks_tail, granted.holds_record, granted.numbers_left, unneeded at alone)))
      (makes t wishing (acts wished) t.told (searching c.opened to_look) at refl
      (ap (λ (v : Window). searching v.opened to_look) (sym (ap window_of is ∙ w))))
      (ap (λ (d : Core). d.frames) is ∙ frames) refl
      (stand_in t (looking c.opened)) (there t)
      (λ closing waits o e. absurd (let both : left ≡ waiting = sym is_left ∙ waits in let no : ⊥ = cc in no))

  goes_away_with : (next : Core)
      → t.frame.phase ≡ wishing
      → t.under ≡ []
      → (IsGranted t.script.pages c → ⊥)
      → c.done + 1 ≡ c.opened
      → t.after ≡ next
      → next.frames ≡ []
      → next.history ≡ c.history
      → window_of next ≡ window_of c
      → Made t
  goes_away_with next at alone denied last is frames h w =
      let is_left = wishing_left t.frame.kind t.frame.state (may_be wishing at) in
      goes_with t [] (no_event t (ap (λ (d : Core). d.history) is ∙ h) (ap window_of is ∙ w))
      (ap (λ (q : Option (List ℕ)). line q t.stage) (sym (t.one.has_left is_left).0)) tt
      (λ k. inl (
        refl,
        subst (λ (st : Stage). MayPass s t.below t.told st off) (sym (at_stage t wishing at))
            (not_granted denied, inr (refl, last)),
      ))
      (ap (λ (d : Core). d.frames) is ∙ frames ∙ sym alone)
      (λ what is_own due. rests what is_own (subst (λ (x : Situation). IsDue x what)
      (ap (λ (xs : List RingEvent). situation_after t.script t.state.wish xs) (append-nil t.state.events) ∙ sit t)
      due))
    where
      rests : (what : RingEvent) → IsOwn t.below (line None off) what → IsDue s what → ⊥
      rests (acts (push moment len)) is_own due = is_own
      rests (acts push_close) is_own due = is_own
      rests (acts open_fill) is_own due = unneeded at alone due.0
      rests (acts reserve) is_own due = is_own refl
      rests (acts (leave None)) is_own due = is_own refl
      rests (acts (leave (Some bytes))) (other, same, more) due = let both : None ≡ Some other = same in cc
      rests (acts wished) is_own (empty, (asks, holds, small, free)) =
          denied record { asks_tail = asks; holds_record = holds; numbers_left = small }
      rests closes is_own (empty, more) = omega (arith, last, more)
      rests takes is_own due = is_own
      rests loses is_own due = unneeded at alone due.0

  -- ---- every step

  next_noted : (role : Role) (noted page : ℕ) → noted_fill (after_next role noted page) ≡ Some noted
  next_noted owner noted page = refl
  next_noted helper noted page = refl

  -- a step less is left, or all are that another frame could make
  next_passes : (role : Role) (noted page next : ℕ)
      → MayContinue role noted c.opened
      → MayPass s t.below t.told (stage_of (looking_next role noted page)) (stage_of (marking role noted page next))
      × MayPass s t.below t.told (stage_of (looking_next role noted page)) (stage_of (after_next role noted page))
      × MayPass s t.below t.told (stage_of (marking role noted page next)) (stage_of (after_next role noted page))
  next_passes owner noted page next may = (inl refl, inr refl, inl refl)
  next_passes helper noted page next may = (inr (may, inl refl), inr (may, inr refl), inr (may, inl refl))

  -- a frame below is moving the head for the fill that this one is to begin, or none is
  looks_under : (noted : ℕ) → t.frame.phase ≡ looking noted → HasMover c.frames noted → HasMover t.under noted
  looks_under noted at moved = by_top (subst (λ (xs : List Frame). HasMover xs noted) t.top moved)
    where
      by_top : HasMover (t.frame ∷ t.under) noted → HasMover t.under noted
      by_top (inl owns) = absurd (let both : None ≡ Some noted = sym (ap owned_update at) ∙ owns in cc)
      by_top (inr below) = below

  none_moves : (noted page : ℕ)
      → link_into t.script.pages c.links noted ≡ normal_link page noted
      → IsMovedFor noted t.below
      → ⊥
  none_moves noted page link moved =
      let under = told_mover noted t.under t.payloads t.below t.others moved in
      let (lost, sum, below, open_yet, stands) =
      owned_by t.script.pages c (kept t).links noted
      (subst (λ (xs : List Frame). HasMover xs noted) (sym t.top) (inr under)) in
      normal_ne_update page noted (page_at t.script.pages c.order noted) lost (sym link ∙ stands)

  -- the fill to begin is at most a round of fills from the head on
  near : (noted : ℕ) → noted ≡ c.opened → (c.head < noted) × (noted ≤ c.head + t.script.pages)
  near noted now =
      let unread = (kept t).links.head_le in
      let open_yet = (kept t).links.done_lt in
      let within = (kept t).links.opened_le in (omega (arith, unread, open_yet, now), omega (arith, within, now))

  looks_free : (noted page : ℕ)
      → noted ≡ c.opened
      → link_into t.script.pages c.links noted ≡ normal_link page noted
      → MayPass s t.below t.told (searching noted to_look) (searching noted (to_begin 0))
  looks_free noted page now link =
      let (low, high) = near noted now in
      let (room, page_is) = normal_inside t.script.pages c (kept t).links noted page (omega (arith, low)) high link in
      inr (now, inr (omega (arith, room, now), inl (refl, none_moves noted page link)))

  looks_full : (noted page lost : ℕ)
      → noted ≡ c.opened
      → lost + t.script.pages ≡ noted
      → link_into t.script.pages c.links noted ≡ header_link page lost
      → MayPass s t.below t.told (searching noted to_look) (searching noted to_lose)
  looks_full noted page lost now sum link =
      let (low, high) = near noted now in
      let (here, page_is, head_at) =
      header_inside t.script.pages c (kept t).links noted page lost low high sum link in
      inr (now, inl (refl, omega (arith, here, sum, now)))

  looks_moved : (noted page lost : ℕ)
      → t.frame.phase ≡ looking noted
      → noted ≡ c.opened
      → lost + t.script.pages ≡ noted
      → link_into t.script.pages c.links noted ≡ update_link page lost
      → MayPass s t.below t.told (searching noted to_look) (searching noted (to_begin 2))
  looks_moved noted page lost at now sum link =
      let (low, high) = near noted now in
      let (room, page_is) =
      update_inside t.script.pages c (kept t).links noted page lost (omega (arith, low)) high sum link in
      let reported =
      update_reports t.script.pages c.links c.order c.head c.frames noted page lost
      ((kept t).links.each noted (omega (arith, low)) room) link in
      inr (
        now,
        inr (
          omega (arith, room, now),
          inr (refl, mover_told noted t.under t.payloads t.below t.others (looks_under noted at reported.2)),
        ),
      )

  -- the oldest fill was taken meanwhile
  loses_none : (noted page : ℕ)
      → t.frame.phase ≡ claiming noted page
      → noted ≡ c.opened
      → ((lost : ℕ) → lost + t.script.pages ≡ noted → link_into t.script.pages c.links noted ≢ header_link page lost)
      → MayPass s t.below t.told (searching noted to_lose) (searching noted to_look)
  loses_none noted page at now other = inr (now, (refl, room))
    where
      room : c.opened < c.head + t.script.pages
      room = dite (dec_le t.script.pages noted)
          (λ round.
          let sum : noted - t.script.pages + t.script.pages ≡ noted = omega (arith, round) in
          let moved =
          claims_fail_once_the_head_moved t.script.pages t.script.size t.script.start c t.frame t.under noted page
          (noted - t.script.pages) t.stands.reached t.top at now sum (other (noted - t.script.pages) sum) in
          omega (arith, moved, sum, now))
          (λ early. omega (arith, early, now))

  loses_with : (noted page lost : ℕ) (next : Core)
      → t.frame.phase ≡ claiming noted page
      → noted ≡ c.opened
      → (c.head < c.done) × (c.opened ≡ c.head + t.script.pages)
      → t.after ≡ next
      → next.frames ≡ record t.frame { phase = looking_next owner noted page } ∷ t.under
      → next.history ≡ c.history
      → window_of next ≡ window_after (window_of c) loses
      → Made t
  loses_with noted page lost next at now (unread, full) is frames h w =
      let needs = needed t (ap noted_fill at ∙ ap (λ (o : ℕ). Some o) now) in
      stays_with t (loses ∷ []) t.told (record t.frame { phase = looking_next owner noted page })
      (events_are t (loses ∷ []) refl (ap (λ (d : Core). d.history) is ∙ h ∙ sym (append-nil c.history))
      ((unread, full), sym (ap window_of is ∙ w)))
      (there t, refl) (due_one t loses (needs.0, can_have t (omega (arith, unread, full)) needs.1, unread, full))
      (makes t (claiming noted page) loses t.told (moving noted 2) at (now, refl)
      (ap (λ (o : ℕ). moving o 2) now ∙ ap (λ (v : Window). moving v.opened 2) (sym (ap window_of is ∙ w))))
      (ap (λ (d : Core). d.frames) is ∙ frames) refl
      (stand_in t (looking_next owner noted page)) (there t)
      (λ closing waits o e.
      t.fresh t.frame t.under o t.top closing waits (ap noted_fill at ∙ e)
      ∙ ap (λ (v : Window). v.opened) (sym (ap window_of is ∙ w)))

  -- a fill was closed, and not the last, or the last
  closes_on : {next : Core}
      → t.after ≡ next
      → next.done + 1 < next.opened
      → closing_fills ≡ at_rest (window_of t.after) [] None
  closes_on {next = next} is more =
      sym (cond-false ((next.done + 1) == next.opened) asking closing_fills (ne_eqb (next.done + 1) next.opened
      (λ e. omega (arith, e, more))))
      ∙ sym (ap (λ (d : Core). at_rest (window_of d) [] None) is)

  closes_last : {next : Core}
      → t.after ≡ next
      → next.done + 1 ≡ next.opened
      → asking ≡ at_rest (window_of t.after) [] None
  closes_last {next = next} is last =
      sym (cond-true ((next.done + 1) == next.opened) asking closing_fills (eq-eqb (next.done + 1) next.opened last))
      ∙ sym (ap (λ (d : Core). at_rest (window_of d) [] None) is)

  frame_does : (phase : Phase)
      → t.frame.phase ≡ phase
      → (t.frame.state ≡ waiting) ⊎ (t.frame.state ≡ left)
      → FrameStep t.script.pages t.script.size c t.frame t.under phase t.answer t.after
      → Made t
  frame_does idle at active it = idle_does t t.frame.state refl active at it
  frame_does (looking o) at active (load_link_late again) = late t (looking o) o to_look at refl refl active again
  frame_does (looking o) at active (sees_free page now link a is) =
      on t (looking o) (opening o page) _ at (looks_free o page now link) is refl refl refl (λ x e. e)
  frame_does (looking o) at active (sees_header page lost now sum link a is) =
      on t (looking o) (claiming o page) _ at (looks_full o page lost now sum link) is refl refl refl (λ x e. e)
  frame_does (looking o) at active (sees_update page lost now sum link a is) =
      on t (looking o) (looking_next helper o page) _ at (looks_moved o page lost at now sum link) is refl refl refl
      (λ x e. e)
  frame_does (claiming o page) at active (claim_late again) =
      late t (claiming o page) o to_lose at refl refl active again
  frame_does (claiming o page) at active (claims lost now sum link a is) =
      let (open_yet, begun_yet, room, small) =
      (subst (PhaseKept t.script.pages c.links c.order c.head c.done c.opened) at
      (top_kept t.script.pages c t.frame t.under (kept t).links t.top)).noted o
      refl in
      let unread = (kept t).links.head_le in let within = (kept t).links.opened_le in
      let (here, page_is, head_at) = header_inside t.script.pages c (kept t).links o page lost (omega arith)
      (omega arith) sum link in
      loses_with o page lost _ at now (omega arith, omega arith) is refl refl refl
  frame_does (claiming o page) at active (claim_fails now other a is) =
      on t (claiming o page) (looking o) _ at (loses_none o page at now other) is refl refl refl (λ x e. e)
  frame_does (looking_next role o page) at active (load_next_late helps again) =
      late t (looking_next role o page) o (to_begin 2) at (ap (λ (r : Role). stage_of (looking_next r o page)) helps)
      refl active again
  frame_does (looking_next role o page) at active (sees_normal lost next may sum link a is) =
      on t (looking_next role o page) (marking role o page next) _ at (next_passes role o page next may).0
      is refl refl refl (λ x e. e)
  frame_does (looking_next role o page) at active (sees_other lost may sum other a is) =
      on t (looking_next role o page) (after_next role o page) _ at (next_passes role o page 0 may).1
      is refl refl refl (λ x e. sym (next_noted role o page) ∙ e)
  frame_does (marking role o page next) at active (mark_late helps again) =
      late t (marking role o page next) o (to_begin 1) at (ap (λ (r : Role). stage_of (marking r o page next)) helps)
      refl active again
  frame_does (marking role o page next) at active (marks lost may sum link a is) =
      on t (marking role o page next) (after_next role o page) _ at (next_passes role o page next may).2
      is refl refl refl (λ x e. sym (next_noted role o page) ∙ e)
  frame_does (marking role o page next) at active (mark_fails lost may sum other a is) =
      on t (marking role o page next) (after_next role o page) _ at (next_passes role o page next may).2
      is refl refl refl (λ x e. sym (next_noted role o page) ∙ e)
  frame_does (clearing o page) at active (clears lost sum link a is) =
      on t (clearing o page) (opening o page) _ at refl is refl refl refl (λ x e. e)
  frame_does (opening o page) at active (open_late again) =
      late t (opening o page) o (to_begin 0) at refl refl active again
  frame_does (opening o page) at active (opens now a is) = begins t page o at now active is
  frame_does releasing at active (releases alone more a is) =
      closes_with releasing _ at alone (omega (arith, more)) is
      (t.top ∙ ap (λ (phase : Phase). record t.frame { phase = phase } ∷ t.under) at) refl refl
      (closes_on is (omega (arith, more)))
  frame_does releasing at active (releases_last alone last a is) =
      closes_with wishing _ at alone (omega (arith, last)) is refl refl refl
      (closes_last is (omega (arith, last)))
  frame_does wishing at active (grants alone granted a is) = wishes_with _ at alone granted is refl refl refl
  frame_does wishing at active (closes_more alone denied more a is) =
      on t wishing releasing _ at (not_granted denied, inl (refl, more)) is refl refl refl (λ x e. e)
  frame_does wishing at active (goes_away alone denied last a is) =
      goes_away_with _ at alone denied last is refl refl refl

  -- its record is reserved, so it ends
  ends_with : (number : ℕ)
      → t.frame.state ≡ reserved number
      → Step t.script.pages t.script.size c (ends (padded t.payload)) t.answer t.after
      → Made t
  ends_with number at ending =
      let e = top_ends (padded t.payload) t.frame t.under number t.top at ending in
      let stack = stack_reserved t.script.pages t.script.start c t.frame t.under (kept t).history t.top number at
      ∙ ap (λ (k : Purpose). pushed_frame k (reserved number) ∷ pushed_frames t.under) e.kind_is in
      let rests = (subst (λ (st : Progress). MayBeIn t.frame.kind st t.frame.phase) at
      (top_agrees c t.frame t.under (kept t).stack t.top).0).1 in
      leaves_with t (acts (leave (Some (padded t.payload))) ∷ []) c
      (events_are t (acts (leave (Some (padded t.payload))) ∷ []) refl (ap (λ (d : Core). d.history) e.after_is)
      (tt, sym (ap window_of e.after_is)))
      ((t.payload, t.one.unwritten (not_left t (reserved number) (λ z. cc) at), refl), refl)
      (due_one t (acts (leave (Some (padded t.payload))))
      (subst (λ (st : List PushedFrame). Leaves s st (Some (padded t.payload)))
      (sym stack) tt))
      (λ to. makes t idle (acts (leave (Some (padded t.payload)))) None to rests
      (λ needs. absurd (subst (IsFillNeededFor s) stack needs)))
      (ap window_of e.after_is)
      (ap (λ (d : Core). d.frames) e.after_is)

  pub step_does : t.event ≡ event_on_top c.frames t.before.payloads → Made t
  step_does is = by_state t.frame.state refl (is ∙ (λ i. event_on_top (t.top i) (t.paid i)))
    where
      by_state : (st : Progress) → t.frame.state ≡ st → t.event ≡ event_in st (t.payload ∷ t.payloads) → Made t
      by_state waiting at e = frame_does t.frame.phase refl (inl at)
          (top_step t.frame t.under t.frame.phase t.top refl
          (subst (λ (x : Event). Step t.script.pages t.script.size c x t.answer t.after) e t.step))
      by_state (reserved number) at e =
          ends_with number at (subst (λ (x : Event). Step t.script.pages t.script.size c x t.answer t.after) e t.step)
      by_state left at e = frame_does t.frame.phase refl (inr at)
          (top_step t.frame t.under t.frame.phase t.top refl
          (subst (λ (x : Event). Step t.script.pages t.script.size c x t.answer t.after) e t.step))
