-- One step of the frame on top, beside an account, by what it does: it goes on, it leaves, or it looks again, since
-- another frame has begun the fill that it noted.
use Rattle.std.proofs.Common.{◌≡◌, ◌≢◌, ℕ, ◌⊎◌, List, [], ◌∷◌, ◌++◌, Some}
use Rattle.std.proofs.Common.{None, refl, sym, ap, ◌∙◌, subst, inl, inr}
use Rattle.trace_model.specs.History.{leave}
use Rattle.trace_model.specs.Window.{Window, RingEvent, acts}
use Rattle.trace_model.specs.Frames.{Purpose, for_record, for_close, Progress, waiting, reserved, left, Phase, idle}
use Rattle.trace_model.specs.Frames.{noted_fill, Frame}
use Rattle.trace_model.specs.Ring.{Core, window_of}
use Rattle.trace_model.specs.Steps.{closing_phase, frames_after_leave, after_begin}
use Rattle.trace_model.proofs.steps.StepCases.{BeginsAgain}
use Rattle.world_model.specs.RunEvents.{AreEventsOf}
use Rattle.line_model.specs.Due.{Situation, IsDue}
use Rattle.line_model.specs.Accounts.{Search, Stage, resting, searching, off, LineFrame, IsThere, Does, at_rest}
use Rattle.line_model.specs.Accounts.{MayPass}
use Rattle.line_model.proofs.Standing.{FrameStands, FramesStand, stage_of}
use Rattle.line_model.proofs.DueRuns.{situation_of, DueFrom}
use Rattle.line_model.proofs.StepDoes.{line, TopStep, Made, none_below, some_below, none_own, closing_notes}
use Rattle.line_model.proofs.StepDoes.{closing_is, off_nested}
use Rattle.line_model.proofs.TopStays.{due_one, events_are, no_event, Brief, passes, stays_with, goes_with}

module _ (t : TopStep) where
  abbrev c : Core
  c = t.before.core

  abbrev s : Situation
  s = situation_of t.script c

  pub held : t.frame.state ≢ left → t.told ≢ None
  held not e = let both : Some t.payload ≡ None = sym (t.one.unwritten not) ∙ e in cc

  pub not_left : (st : Progress) → st ≢ left → t.frame.state ≡ st → t.frame.state ≢ left
  not_left st not is e = not (sym is ∙ e)

  there_in : (st : Progress) → t.frame.state ≡ st → IsThere t.below (line t.told t.stage)
  there_in waiting is = inl (held (not_left waiting (λ e. cc) is))
  there_in (reserved number) is = inl (held (not_left (reserved number) (λ e. cc) is))
  there_in left is = inr (t.one.has_left is).1

  pub there : IsThere t.below (line t.told t.stage)
  there = there_in t.frame.state refl

  -- it is in another phase
  pub stand_in : (phase : Phase)
      → FrameStands (record t.frame { phase = phase }) t.payload t.below (line t.told (stage_of phase))
  stand_in phase = record { unwritten = t.one.unwritten; has_left = t.one.has_left; stage = refl }

  -- it goes on, and does nothing
  pub goes : (to : Phase) (next : Core)
      → Brief t [] t.told (stage_of to)
      → t.after ≡ next
      → next.frames ≡ record t.frame { phase = to } ∷ t.under
      → next.history ≡ c.history
      → window_of next ≡ window_of c
      → (t.frame.kind ≡ for_close → t.frame.state ≡ waiting → (o : ℕ) → noted_fill to ≡ Some o → o ≡ c.opened)
      → Made t
  goes to next brief is frames h w up =
      let windows = ap window_of is ∙ w in
      stays_with t [] t.told (record t.frame { phase = to })
      (no_event t (ap (λ (d : Core). d.history) is ∙ h) windows) refl tt brief
      (ap (λ (d : Core). d.frames) is ∙ frames) refl (stand_in to) there
      (λ closing waits o noted. up closing waits o noted ∙ ap (λ (v : Window). v.opened) (sym windows))

  pub on : (from to : Phase) (next : Core)
      → t.frame.phase ≡ from
      → MayPass s t.below t.told (stage_of from) (stage_of to)
      → t.after ≡ next
      → next.frames ≡ record t.frame { phase = to } ∷ t.under
      → next.history ≡ c.history
      → window_of next ≡ window_of c
      → ((o : ℕ) → noted_fill to ≡ Some o → noted_fill from ≡ Some o)
      → Made t
  on from to next at may is frames h w noted =
      goes to next (passes t from (stage_of to) at may) is frames h w
      (λ closing waits o to_it. t.fresh t.frame t.under o t.top closing waits (ap noted_fill at ∙ noted o to_it))

  -- it leaves
  pub leaves_with : (own : List RingEvent) (d : Core)
      → AreEventsOf t.script.pages c own t.after
      → Does t.below (line t.told t.stage) own (line None t.stage)
      → DueFrom t.script t.state.wish t.state.events own
      → ((to : Stage) → to ≡ at_rest (window_of t.after) t.below None → Brief t own None to)
      → window_of t.after ≡ window_of d
      → t.after.frames ≡ frames_after_leave d t.frame t.under
      → Made t
  leaves_with own d are does due brief window is = by_below t.under refl is
    where
      by_below : (under : List Frame) → t.under ≡ under → t.after.frames ≡ frames_after_leave d t.frame under → Made t
      by_below [] alone left_is =
          let bottom = none_below t.payloads t.below
          (subst (λ (xs : List Frame). FramesStand xs t.payloads t.below) alone t.others) in
          stays_with t own None (record t.frame { state = left; phase = closing_phase d }) are does due
          (brief (stage_of (closing_phase d)) (closing_is d (window_of t.after) window
          ∙ sym (ap (λ (lines : List LineFrame). at_rest (window_of t.after) lines None) bottom)))
          (left_is
          ∙ ap (λ (xs : List Frame). record t.frame { state = left; phase = closing_phase d } ∷ xs) (sym alone))
          refl
          record {
            unwritten = λ not. absurd (not refl);
            has_left = λ e. (refl, bottom);
            stage = refl;
          } (inr bottom) (λ closing waits o noted. absurd (closing_notes d o noted))
      by_below (next ∷ under) nested left_is =
          let some = some_below next under t.payloads t.below
          (subst (λ (xs : List Frame). FramesStand xs t.payloads t.below) nested t.others) in
          goes_with t own are does due (brief off (off_nested (window_of t.after) t.below some))
          (left_is ∙ sym nested)
          (λ what is_own its_due. none_own t.below off what some is_own)

  -- it leaves without a record, and does nothing else
  pub leaves_none : (kind : Purpose) (next : Core)
      → t.frame.kind ≡ kind
      → t.frame.state ≡ waiting
      → ((to : Stage) → to ≡ at_rest (window_of t.after) t.below None → Brief t (acts (leave None) ∷ []) None to)
      → IsDue s (acts (leave None))
      → t.after ≡ next
      → next.frames ≡ frames_after_leave c t.frame t.under
      → next.history ≡ c.history ++ leave None ∷ []
      → window_of next ≡ window_of c
      → Made t
  leaves_none kind next is_kind waits brief due is frames h w =
      leaves_with (acts (leave None) ∷ []) c
      (events_are t (acts (leave None) ∷ []) refl (ap (λ (d : Core). d.history) is ∙ h) (tt, sym (ap window_of is ∙ w)))
      (held (not_left waiting (λ e. cc) waits), refl) (due_one t (acts (leave None)) due) brief (ap window_of is ∙ w)
      (ap (λ (d : Core). d.frames) is ∙ frames)

  -- another frame has begun a fill: so it is no close frame that waits
  pub late : (from : Phase) (noted : ℕ) (search : Search)
      → t.frame.phase ≡ from
      → stage_of from ≡ searching noted search
      → noted_fill from ≡ Some noted
      → (t.frame.state ≡ waiting) ⊎ (t.frame.state ≡ left)
      → BeginsAgain c t.frame t.under noted t.answer t.after
      → Made t
  late from noted search at searches noted_is active again =
      by_kind t.frame.kind t.frame.state refl refl active again.after_is
    where
      -- the search is over
      over : (to : Stage) → to ≡ at_rest (window_of c) t.below t.told → MayPass s t.below t.told (stage_of from) to
      over to is = subst (λ (st : Stage). MayPass s t.below t.told st to) (sym searches) (inl (again.passed, is))

      leaving : t.frame.state ≡ left → stage_of (closing_phase c) ≡ at_rest (window_of c) t.below t.told
      leaving w =
          let (told, bottom) = t.one.has_left w in
          closing_is c (window_of c) refl
          ∙ sym (ap (λ (lines : List LineFrame). at_rest (window_of c) lines None) bottom)
          ∙ sym (ap (at_rest (window_of c) t.below) told)

      by_kind : (kind : Purpose) (st : Progress)
          → t.frame.kind ≡ kind
          → t.frame.state ≡ st
          → (st ≡ waiting) ⊎ (st ≡ left)
          → t.after ≡ after_begin kind st c t.frame t.under
          → Made t
      by_kind (for_record moment len) waiting k w which is =
          on from idle _ at
          (over resting (sym (ap (at_rest (window_of c) t.below) (t.one.unwritten (not_left waiting (λ e. cc) w)))))
          is refl refl refl (λ o e. absurd (let no : ⊥ = cc in no))
      by_kind for_close waiting k w which is =
          absurd (again.passed (t.fresh t.frame t.under noted t.top k w (ap noted_fill at ∙ noted_is)))
      by_kind kind (reserved number) k w (inl e) is = absurd (let no : ⊥ = cc in no)
      by_kind kind (reserved number) k w (inr e) is = absurd (let no : ⊥ = cc in no)
      by_kind kind left k w which is =
          on from (closing_phase c) _ at (over (stage_of (closing_phase c)) (leaving w)) is refl refl refl
          (λ o e. absurd (closing_notes c o e))
