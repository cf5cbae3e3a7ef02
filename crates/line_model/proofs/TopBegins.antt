-- One step of the frame on top, beside an account, if it begins a fill, or if it is at its first step.
use Rattle.std.proofs.Common.{◌≡◌, ℕ, ◌+◌, ◌<◌, ◌≤◌, ◌⊎◌, List, [], ◌∷◌, ◌++◌, length, Some, None}
use Rattle.std.proofs.Common.{refl, sym, ap, ◌∙◌, subst, inl, inr, ⊎_elim, arith, append_assoc}
use Rattle.trace_model.specs.declared.limits.TheConstants.{LINK_FILLS}
use Rattle.trace_model.specs.History.{open_fill, reserve, leave, Reservation, PushedFrame, close_frame}
use Rattle.trace_model.specs.History.{reserved_records, reservation_for}
use Rattle.trace_model.proofs.histories.NextEvent.{opened_stack}
use Rattle.trace_model.specs.Packing.{tail_of, fill_len}
use Rattle.trace_model.specs.Window.{acts, window_after}
use Rattle.trace_model.specs.Frames.{Purpose, for_record, for_close, Progress, waiting, reserved, left, Phase, idle}
use Rattle.trace_model.specs.Frames.{looking, opening, noted_fill, pushed_frames}
use Rattle.trace_model.specs.Ring.{Core, window_of}
use Rattle.trace_model.specs.Steps.{closing_phase, with_new_tail, after_begin}
use Rattle.trace_model.proofs.steps.StepCases.{IdleStep, reserves, finds_nothing, is_crowded, is_worn, notes}
use Rattle.ring_model.specs.KeptLinks.{PhaseKept}
use Rattle.ring_model.proofs.links.FrameChanges.{top_kept}
use Rattle.ring_model.proofs.seats.FrameEnds.{opened_tail}
use Rattle.line_model.specs.Due.{Situation, situation_after, pushed_in, IsFillNeededFor, IsFillNeeded, HasNoRecord}
use Rattle.line_model.specs.Due.{Leaves, IsDue}
use Rattle.line_model.specs.Accounts.{to_look, resting, searching, LineFrame, at_rest}
use Rattle.line_model.proofs.Standing.{stage_of}
use Rattle.line_model.proofs.DueRuns.{situation_of, situation_moved, situation_next}
use Rattle.line_model.proofs.StepDoes.{TopStep, Made, closing_notes, closing_is}
use Rattle.line_model.proofs.TopStays.{kept, sit, needed, can_have, stack_of_kind, needs_there, leave_due, due_one}
use Rattle.line_model.proofs.TopStays.{events_are, passes, makes, stays_with}
use Rattle.line_model.proofs.TopMoves.{held, not_left, there, stand_in, goes, leaves_with, leaves_none}

module _ (t : TopStep) where
  abbrev c : Core
  c = t.before.core

  abbrev s : Situation
  s = situation_of t.script c

  -- a fill is begun
  pub begins : (page noted : ℕ)
      → t.frame.phase ≡ opening noted page
      → noted ≡ c.opened
      → (t.frame.state ≡ waiting) ⊎ (t.frame.state ≡ left)
      → t.after ≡ after_begin t.frame.kind t.frame.state (with_new_tail c page) t.frame t.under
      → Made t
  begins page noted at now active after_is = by_kind t.frame.kind t.frame.state refl refl active after_is
    where
      needs : IsFillNeeded s × (c.opened + t.script.pages < LINK_FILLS)
      needs = needed t (ap noted_fill at ∙ ap (λ (o : ℕ). Some o) now)

      room : c.opened < c.head + t.script.pages
      room = let (open_yet, inside, page_is) =
          (subst (PhaseKept t.script.pages c.links c.order c.head c.done c.opened) at
          (top_kept t.script.pages c t.frame t.under (kept t).links t.top)).passed
          noted page refl in omega (arith, inside, now)

      due : IsDue s (acts open_fill)
      due = (needs.0, can_have t (let low = (kept t).links.head_le in omega (arith, room, low)) needs.1, room)

      goes_to : (to : Phase) (next : Core)
          → t.after ≡ next
          → next.frames ≡ record t.frame { phase = to } ∷ t.under
          → next.history ≡ c.history ++ open_fill ∷ []
          → window_of next ≡ window_after (window_of c) (acts open_fill)
          → ((o : ℕ) → noted_fill to ≡ Some o → ⊥)
          → stage_of to ≡ at_rest (window_of t.after) t.below t.told
          → Made t
      goes_to to next is frames h w unnoted rests =
          stays_with t (acts open_fill ∷ []) t.told (record t.frame { phase = to })
          (events_are t (acts open_fill ∷ []) refl (ap (λ (d : Core). d.history) is ∙ h)
          (room, sym (ap window_of is ∙ w)))
          (there t, refl) (due_one t (acts open_fill) due)
          (makes t (opening noted page) (acts open_fill) t.told (stage_of to) at (now, refl) rests)
          (ap (λ (d : Core). d.frames) is ∙ frames) refl
          (stand_in t to) (there t) (λ closing waits o e. absurd (unnoted o e))

      by_kind : (kind : Purpose) (st : Progress)
          → t.frame.kind ≡ kind
          → t.frame.state ≡ st
          → (st ≡ waiting) ⊎ (st ≡ left)
          → t.after ≡ after_begin kind st (with_new_tail c page) t.frame t.under
          → Made t
      by_kind (for_record moment len) waiting k w which is =
          goes_to idle _ is refl refl refl (λ o e. cc)
          (sym (ap (at_rest (window_of t.after) t.below) (t.one.unwritten (not_left t waiting (λ e. cc) w))))
      by_kind for_close waiting k w which is =
          leaves_with t (acts open_fill ∷ acts (leave None) ∷ []) (with_new_tail c page)
          (events_are t (acts open_fill ∷ acts (leave None) ∷ []) refl
          (ap (λ (d : Core). d.history) is ∙ append_assoc c.history (open_fill ∷ []) (leave None ∷ []))
          (room, (tt, sym (ap window_of is))))
          (there t, (held t (not_left t waiting (λ e. cc) w), refl))
          (subst (λ (x : Situation). IsDue x (acts open_fill)) (sym (sit t)) due, (second, tt))
          (λ to to_is not. absurd (not k)) (ap window_of is)
          (ap (λ (d : Core). d.frames) is)
        where
          afterwards : IsDue (situation_moved s (acts open_fill)) (acts (leave None))
          afterwards =
              let st = opened_stack c.history (close_frame ∷ pushed_frames t.under) (stack_of_kind t for_close k w) in
              subst (λ (xs : List PushedFrame). Leaves (situation_moved s (acts open_fill)) xs None) (sym st)
              (λ again.
              absurd
              (subst (IsFillNeededFor (situation_moved s (acts open_fill))) st again (opened_tail c.history)))

          second : IsDue (situation_after t.script t.state.wish (t.state.events ++ acts open_fill ∷ []))
              (acts (leave None))
          second = subst (λ (x : Situation). IsDue x (acts (leave None)))
              (sym (situation_next t.script t.state.wish t.state.events (acts open_fill)
              ∙ ap (λ (x : Situation). situation_moved x (acts open_fill)) (sit t))) afterwards
      by_kind kind (reserved number) k w (inl e) is = absurd (let no : ⊥ = cc in no)
      by_kind kind (reserved number) k w (inr e) is = absurd (let no : ⊥ = cc in no)
      by_kind kind left k w which is =
          goes_to (closing_phase (with_new_tail c page)) _ is refl refl refl (closing_notes (with_new_tail c page))
          (let (told, bottom) = t.one.has_left w in
          closing_is (with_new_tail c page) (window_of t.after) (ap window_of is)
          ∙ sym (ap (λ (lines : List LineFrame). at_rest (window_of t.after) lines None) bottom)
          ∙ sym (ap (at_rest (window_of t.after) t.below) told))

  -- ---- a frame at its first step, or after a fill that another frame began

  reserves_one : (moment len : ℕ) (r : Reservation) (next : Core) (number : ℕ)
      → t.frame.kind ≡ for_record moment len
      → t.frame.state ≡ waiting
      → t.frame.phase ≡ idle
      → r ≡ reservation_for moment len (reserved_records c.history)
      → fill_len (tail_of c.history ++ r ∷ []) ≤ t.script.size
      → t.after ≡ next
      → next.frames ≡ record t.frame { state = reserved number; phase = idle } ∷ t.under
      → next.history ≡ c.history ++ reserve ∷ []
      → window_of next ≡ window_of c
      → Made t
  reserves_one moment len r next number k w at r_is fits is frames h win =
      stays_with t (acts reserve ∷ []) t.told (record t.frame { state = reserved number; phase = idle })
      (events_are t (acts reserve ∷ []) refl (ap (λ (d : Core). d.history) is ∙ h) (tt, sym (ap window_of is ∙ win)))
      (held t (not_left t waiting (λ e. cc) w), refl)
      (due_one t (acts reserve) due)
      (makes t idle (acts reserve) t.told resting at (λ needs. absurd (due.1 needs))
      (sym (ap (at_rest (window_of t.after) t.below) (t.one.unwritten (not_left t waiting (λ e. cc) w)))))
      (ap (λ (d : Core). d.frames) is ∙ frames) refl
      record {
        unwritten = λ not. t.one.unwritten (not_left t waiting (λ e. cc) w);
        has_left = λ e. absurd (let no : ⊥ = cc in no);
        stage = refl;
      } (inl (held t (not_left t waiting (λ e. cc) w))) (λ closing waits o e. absurd (let no : ⊥ = cc in no))
    where
      due : HasNoRecord (pushed_in s) × (IsFillNeeded s → ⊥)
      due = subst (λ (st : List PushedFrame). HasNoRecord st × (IsFillNeededFor s st → ⊥))
          (sym (stack_of_kind t (for_record moment len) k w)) (
            tt,
            λ needs.
                let low =
                subst (λ (x : Reservation). fill_len (tail_of c.history ++ x ∷ []) ≤ t.script.size) r_is fits in
                omega (arith, low, needs),
          )

  pub idle_does : (st : Progress)
      → t.frame.state ≡ st
      → (st ≡ waiting) ⊎ (st ≡ left)
      → t.frame.phase ≡ idle
      → IdleStep t.script.pages t.script.size c t.frame t.under st t.answer t.after
      → Made t
  idle_does waiting w active at (reserves moment len r k r_is fits a is) =
      reserves_one moment len r _ (length (reserved_records c.history)) k w at r_is fits is refl refl refl
  idle_does waiting w active at (finds_nothing k bare a is) =
      leaves_none t for_close _ k w (λ to to_is not. absurd (not k))
      (subst (λ (st : List PushedFrame). Leaves s st None) (sym (stack_of_kind t for_close k w))
      (λ needs. absurd (subst (IsFillNeededFor s) (stack_of_kind t for_close k w) needs bare)))
      is refl refl refl
  idle_does waiting w active at (is_crowded needs full a is) =
      let here = needs_there t t.frame.kind refl w needs in
      leaves_none t t.frame.kind _ refl w (λ to. makes t idle (acts (leave None)) None to at (λ need. inl full))
      (leave_due t t.frame.kind refl w here (inl full)) is refl refl refl
  idle_does waiting w active at (is_worn needs room last a is) =
      let here = needs_there t t.frame.kind refl w needs in
      leaves_none t t.frame.kind _ refl w (λ to. makes t idle (acts (leave None)) None to at (λ need. inr last))
      (leave_due t t.frame.kind refl w here (inr last)) is refl refl refl
  idle_does waiting w active at (notes needs room small a is) =
      goes t (looking c.opened) _
      (passes t idle (searching c.opened to_look) at (
        refl,
        needs_there t t.frame.kind refl w needs,
        λ none. ⊎_elim (λ full. absurd (room full)) (λ last. (let no : ⊥ = omega (arith, small, last) in no)) none,
      )) is
      refl refl refl (λ closing waits o e. cc)
  idle_does (reserved number) w (inl e) at it = absurd (let no : ⊥ = cc in no)
  idle_does (reserved number) w (inr e) at it = absurd (let no : ⊥ = cc in no)
  idle_does left w active at it = absurd it
