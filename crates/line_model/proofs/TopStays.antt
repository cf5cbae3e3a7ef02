-- One step of the frame on top, beside an account: what is needed and due, and what holds after the step, if the frame
-- is still there or has gone.
use Rattle.std.proofs.Common.{◌≡◌, ◌≢◌, ℕ, suc, ◌+◌, ◌<◌, ◌≤◌, ◌⊎◌, List, [], ◌∷◌, ◌++◌, length, Option, Some}
use Rattle.std.proofs.Common.{None, refl, sym, ap, ◌∙◌, subst, inl, inr, arith, append-nil}
use mathlib.Core.Logic.{dite}
use native.Mathlib.Decide.{dec_le}
use Rattle.trace_model.specs.declared.limits.TheConstants.{LINK_FILLS}
use Rattle.trace_model.specs.History.{leave, Reservation, PushedFrame, writer_after, reserved_records}
use Rattle.trace_model.specs.History.{reservation_for}
use Rattle.trace_model.specs.Packing.{opens_of, tail_of, fill_len, is_wished}
use Rattle.trace_model.specs.Fitting.{NeedsFill}
use Rattle.trace_model.specs.Window.{Window, first_window, RingEvent, acts, history_events_of}
use Rattle.trace_model.specs.Window.{WindowRunFrom}
use Rattle.trace_model.specs.Frames.{Purpose, for_record, for_close, Progress, waiting, reserved, left, Phase}
use Rattle.trace_model.specs.Frames.{noted_fill, pushed_frame, pushed_onto, Frame, pushed_frames}
use Rattle.trace_model.specs.Ring.{Reader, Core, window_of}
use Rattle.trace_model.specs.Steps.{NeedsPage}
use Rattle.trace_model.proofs.packing.PackedHistories.{tail_is}
use Rattle.trace_model.proofs.steps.StepSound.{cases_of}
use Rattle.ring_model.specs.KeptPacking.{FramesNeed}
use Rattle.ring_model.specs.RingKept.{IsRingKept}
use Rattle.ring_model.specs.RunsAsEvents.{fills_taken, numbers_of}
use Rattle.ring_model.specs.Seats.{ReaderStays}
use Rattle.ring_model.proofs.histories.HistorySteps.{top_agrees, stack_waiting, top_stack}
use Rattle.ring_model.proofs.links.FrameChanges.{top_kept}
use Rattle.ring_model.proofs.partition.RingsKept.{reached_kept, reached_further}
use Rattle.ring_model.proofs.seats.SeatSteps.{writer_leaves_reader}
use Rattle.world_model.specs.Lanes.{lane_behind, payloads_left}
use Rattle.world_model.specs.RunEvents.{AreEventsOf}
use Rattle.world_model.proofs.FramesMove.{step_moves}
use Rattle.world_model.proofs.LanePayloads.{fit_moved}
use Rattle.line_model.specs.CallEvents.{IsRecordOnTop}
use Rattle.line_model.specs.Due.{Situation, situation_after, window_at, IsFillNeededFor, IsFillNeeded, HasNoFill}
use Rattle.line_model.specs.Due.{Leaves, IsDue}
use Rattle.line_model.specs.Accounts.{Stage, off, LineFrame, IsThere, IsOwn, Does, with_own, stage_after, MayDo}
use Rattle.line_model.specs.Accounts.{MayPass, stepped}
use Rattle.line_model.proofs.AccountWindows.{run_leads}
use Rattle.line_model.proofs.Standing.{FrameStands, FramesStand, take_of, stage_of, Stands, OneStep}
use Rattle.line_model.proofs.DueRuns.{situation_of, situation_is, run_on, DueFrom}
use Rattle.line_model.proofs.StepDoes.{line, never_off, TopStep, Made, stand_counted, kept_payloads, popped_payloads}
use Rattle.line_model.proofs.StepDoes.{first_frame}

module _ (t : TopStep) where
  abbrev c : Core
  c = t.before.core

  abbrev s : Situation
  s = situation_of t.script c

  pub kept : IsRingKept t.script.pages t.script.size t.script.start c
  kept = reached_kept t.script.pages t.script.size t.script.start c t.stands.reached

  stays : ReaderStays c t.after
  stays = writer_leaves_reader t.script.pages t.script.size c t.event t.answer t.after t.writes t.step

  pub sit : situation_after t.script t.state.wish t.state.events ≡ s
  sit = situation_is t.script t.state.wish c t.state.events t.stands.run t.stands.wish

  -- ---- what is needed, and what is due

  needs_of : (kind : Purpose) (st : Progress)
      → (st ≡ left → t.under ≡ [])
      → NeedsFill t.script.size (opens_of c.history) (reserved_records c.history) (is_wished c.history) kind st
      → IsFillNeededFor s (pushed_onto kind st (pushed_frames t.under))
  needs_of (for_record moment len) waiting alone needs =
      let r : Reservation = reservation_for moment len (reserved_records c.history) in
      let same = ap (λ (xs : List Reservation). fill_len (xs ++ r ∷ [])) (tail_is c.history) in
      dite (dec_le (fill_len (tail_of c.history ++ r ∷ [])) t.script.size)
      (λ fits. absurd (needs (subst (λ (k : ℕ). k ≤ t.script.size) same fits)))
      (λ high. omega (arith, high))
  needs_of for_close waiting alone needs = λ bare. needs (sym (tail_is c.history) ∙ bare)
  needs_of (for_record moment len) (reserved number) alone needs = absurd needs
  needs_of for_close (reserved number) alone needs = absurd needs
  needs_of kind left alone (some, holds) =
      subst (λ (xs : List Frame). IsFillNeededFor s (pushed_frames xs)) (sym (alone refl))
      (holds, λ bare. some (sym (tail_is c.history) ∙ bare))

  -- a frame that has noted the next fill needs it, and it has a number
  pub needed : noted_fill t.frame.phase ≡ Some c.opened → IsFillNeeded s × (c.opened + t.script.pages < LINK_FILLS)
  needed noted =
      let needs = (subst
      (FramesNeed t.script.size (opens_of c.history) (reserved_records c.history) (is_wished c.history) c.opened)
      t.top kept.packed.needs).1 noted in (
        subst (IsFillNeededFor s) (sym (top_stack t.script.pages t.script.start c t.frame t.under kept.history t.top))
            (needs_of t.frame.kind t.frame.state (top_agrees c t.frame t.under kept.stack t.top).1 needs),
        ((top_kept t.script.pages c t.frame t.under kept.links t.top).noted c.opened noted).3,
      )

  pub can_have : c.opened < c.done + t.script.pages → c.opened + t.script.pages < LINK_FILLS → HasNoFill s → ⊥
  can_have room small (inl full) = omega (arith, room, full)
  can_have room small (inr last) = omega (arith, small, last)

  pub stack_of_kind : (kind : Purpose)
      → t.frame.kind ≡ kind
      → t.frame.state ≡ waiting
      → (writer_after c.history).stack ≡ pushed_frame kind waiting ∷ pushed_frames t.under
  stack_of_kind kind is waits = stack_waiting t.script.pages t.script.start c t.frame t.under kept.history t.top waits
      ∙ ap (λ (k : Purpose). pushed_frame k waiting ∷ pushed_frames t.under) is

  pub needs_there : (kind : Purpose)
      → t.frame.kind ≡ kind
      → t.frame.state ≡ waiting
      → NeedsPage t.script.size c kind
      → IsFillNeeded s
  needs_there (for_record moment len) is waits needs =
      subst (IsFillNeededFor s) (sym (stack_of_kind (for_record moment len) is waits))
      (let r : Reservation = reservation_for moment len (reserved_records c.history) in
      dite (dec_le (fill_len (tail_of c.history ++ r ∷ [])) t.script.size)
      (λ fits. absurd (needs fits))
      (λ high. omega (arith, high)))
  needs_there for_close is waits needs = subst (IsFillNeededFor s) (sym (stack_of_kind for_close is waits)) needs

  -- a leave without a record is due
  pub leave_due : (kind : Purpose)
      → t.frame.kind ≡ kind
      → t.frame.state ≡ waiting
      → IsFillNeeded s
      → HasNoFill s
      → IsDue s (acts (leave None))
  leave_due (for_record moment len) is waits needs full =
      subst (λ (st : List PushedFrame). Leaves s st None) (sym (stack_of_kind (for_record moment len) is waits))
      (needs, full)
  leave_due for_close is waits needs full =
      subst (λ (st : List PushedFrame). Leaves s st None) (sym (stack_of_kind for_close is waits)) (λ again. full)

  pub due_one : (what : RingEvent) → IsDue s what → DueFrom t.script t.state.wish t.state.events (what ∷ [])
  due_one what due = (subst (λ (x : Situation). IsDue x what) (sym sit) due, tt)

  -- ---- what holds after the step

  pub events_are : (own : List RingEvent)
      → fills_taken c.head own ≡ []
      → t.after.history ≡ c.history ++ history_events_of own
      → WindowRunFrom t.script.pages c.history (window_of c) own (window_of t.after)
      → AreEventsOf t.script.pages c own t.after
  events_are own untaken h w = record {
    history_events = h;
    window = w;
    took = ap (λ (r : Reader). numbers_of r.taken) stays.reader
        ∙ sym (append-nil (numbers_of c.reader.taken))
        ∙ ap (λ (xs : List ℕ). numbers_of c.reader.taken ++ xs) (sym untaken);
  }

  pub no_event : t.after.history ≡ c.history → window_of t.after ≡ window_of c → AreEventsOf t.script.pages c [] t.after
  no_event h w = events_are [] refl (h ∙ sym (append-nil c.history)) (sym w)

  stands_after : (own : List RingEvent) (lines : List LineFrame)
      → AreEventsOf t.script.pages c own t.after
      → FramesStand t.after.frames (payloads_left t.after.frames t.before.payloads) lines
      → Stands t.script (lane_behind t.before t.after) (with_own t.state own lines)
  stands_after own lines are stack = record {
    reached =
        reached_further t.script.pages t.script.size t.script.start c t.event t.answer t.after t.stands.reached t.step;
    payloads = fit_moved c.frames t.after.frames t.before.payloads t.stands.payloads
        (step_moves t.script.pages t.script.size c t.event t.answer t.after t.none (cases_of t.step));
    run = run_on t.script.pages t.script.start c t.after t.state.events own t.stands.run are;
    frames = stack;
    seen = t.stands.seen ∙ sym (ap (λ (r : Reader). r.seen) stays.reader);
    hint = t.stands.hint ∙ sym (ap (λ (r : Reader). r.hint) stays.reader);
    take = t.stands.take ∙ sym (ap (λ (r : Reader). take_of r.phase) stays.reader);
    wish = t.stands.wish ∙ sym stays.wish;
  }

  -- the stage of a frame in this phase
  pub at_stage : (phase : Phase) → t.frame.phase ≡ phase → t.stage ≡ stage_of phase
  at_stage phase at = t.one.stage ∙ ap stage_of at

  -- What a record frame does in its step, to be in this stage with this payload: nothing, or one event.
  abbrev pub Turns : List RingEvent → Option (List ℕ) → Stage → Type 0
  Turns own q to =
      ((own ≡ []) × MayPass s t.below t.told t.stage to)
      ⊎ ((event : RingEvent)
      × (own ≡ event ∷ [])
      × MayDo s t.stage event
      × (to ≡ stage_after (window_of t.after) t.below q event))

  abbrev pub Brief : List RingEvent → Option (List ℕ) → Stage → Type 0
  Brief own q to = t.frame.kind ≢ for_close → Turns own q to

  -- in this phase it does nothing
  pub passes : (phase : Phase) (to : Stage)
      → t.frame.phase ≡ phase
      → MayPass s t.below t.told (stage_of phase) to
      → Brief [] t.told to
  passes phase to at may = λ k. inl (
    refl,
    subst (λ (st : Stage). MayPass s t.below t.told st to) (sym (at_stage phase at)) may,
  )

  -- in this phase it does this
  pub makes : (phase : Phase) (event : RingEvent) (q : Option (List ℕ)) (to : Stage)
      → t.frame.phase ≡ phase
      → MayDo s (stage_of phase) event
      → to ≡ stage_after (window_of t.after) t.below q event
      → Brief (event ∷ []) q to
  makes phase event q to at may is = λ k. inr (
    event,
    refl,
    subst (λ (st : Stage). MayDo s st event) (sym (at_stage phase at)) may,
    is,
  )

  window_then : (own : List RingEvent)
      → AreEventsOf t.script.pages c own t.after
      → window_at t.script.start (t.state.events ++ own) ≡ window_of t.after
  window_then own are =
      run_leads t.script.pages [] (first_window t.script.start) (window_of t.after) (t.state.events ++ own)
      (run_on t.script.pages t.script.start c t.after t.state.events own t.stands.run are).window

  one_step : (own : List RingEvent) (q : Option (List ℕ)) (to : Stage)
      → AreEventsOf t.script.pages c own t.after
      → Does t.below (line t.told t.stage) own (line q t.stage)
      → Brief own q to
      → IsRecordOnTop c.frames
      → OneStep t.script t.state.wish t.below t.state.events (line t.told t.stage) own (line q to)
  one_step own q to are does brief on_top = by_turn (brief (subst IsRecordOnTop t.top on_top))
    where
      by_turn : Turns own q to
          → OneStep t.script t.state.wish t.below t.state.events (line t.told t.stage) own (line q to)
      by_turn (inl (none, may)) =
          let same : line q t.stage ≡ line t.told t.stage =
          subst (λ (xs : List RingEvent). Does t.below (line t.told t.stage) xs (line q t.stage)) none
          does in
          inl (
            none,
            to,
            subst (λ (x : Situation). MayPass x t.below t.told t.stage to) (sym (sit)) may,
            ap (λ (f : LineFrame). let g : LineFrame = record f { stage = to } in g) (sym same),
          )
      by_turn (inr (event, is, may, to_is)) =
          let (own_one, same) =
          subst (λ (xs : List RingEvent). Does t.below (line t.told t.stage) xs (line q t.stage)) is does in
          let window : window_at t.script.start (t.state.events ++ event ∷ []) ≡ window_of t.after =
          ap (λ (xs : List RingEvent). window_at t.script.start (t.state.events ++ xs)) (sym is)
          ∙ window_then own are in
          inr (
            event,
            is,
            own_one,
            subst (λ (x : Situation). MayDo x t.stage event) (sym (sit)) may,
            ap (λ (w : Window). stepped w t.below (line t.told t.stage) event) window
                ∙ ap
                (λ (f : LineFrame).
                let g : LineFrame = record f { stage = stage_after (window_of t.after) t.below f.payload event } in g)
                (sym same)
                ∙ ap (line q) (sym to_is),
          )

  -- it is still there
  pub stays_with : (own : List RingEvent) (q : Option (List ℕ)) (next : Frame)
      → AreEventsOf t.script.pages c own t.after
      → Does t.below (line t.told t.stage) own (line q t.stage)
      → DueFrom t.script t.state.wish t.state.events own
      → Brief own q (stage_of next.phase)
      → t.after.frames ≡ next ∷ t.under
      → next.kind ≡ t.frame.kind
      → FrameStands next t.payload t.below (line q (stage_of next.phase))
      → IsThere t.below (line q (stage_of next.phase))
      → (next.kind ≡ for_close
      → next.state ≡ waiting
      → (o : ℕ)
      → noted_fill next.phase ≡ Some o
      → o ≡ t.after.opened)
      → Made t
  stays_with own q next are does due brief is kind stand there up = record {
    own = own;
    payload_after = q;
    stage_after = stage_of next.phase;
    does = does;
    due = due;
    step = one_step own q (stage_of next.phase) are does brief;
    fresh = λ same other under o at closing waits noted.
        let it : other ≡ next = ap (first_frame next) (sym at ∙ is) in
        up (ap (λ (f : Frame). f.kind) (sym it) ∙ closing) (ap (λ (f : Frame). f.state) (sym it) ∙ waits) o
        (ap (λ (f : Frame). noted_fill f.phase) (sym it) ∙ noted);
    record_kept = λ same on_top. subst IsRecordOnTop (sym is) (λ e. subst IsRecordOnTop t.top on_top (sym kind ∙ e));
    ends = inl (
      there,
      never_off next.phase,
      ap (λ (xs : List Frame). length xs) is ∙ sym (ap (λ (xs : List Frame). length xs) t.top),
      stands_after own (line q (stage_of next.phase) ∷ t.below) are
          (subst
          (λ (xs : List Frame).
          FramesStand xs (payloads_left xs t.before.payloads) (line q (stage_of next.phase) ∷ t.below))
          (sym is)
          (subst (λ (xs : List (List ℕ)). FramesStand (next ∷ t.under) xs (line q (stage_of next.phase) ∷ t.below))
          (sym (ap (payloads_left (next ∷ t.under)) t.paid
          ∙ kept_payloads (next ∷ t.under) (t.payload ∷ t.payloads)
          (ap suc (stand_counted t.under t.payloads t.below t.others)))) (stand, t.others))),
    );
  }

  -- it has gone
  pub goes_with : (own : List RingEvent)
      → AreEventsOf t.script.pages c own t.after
      → Does t.below (line t.told t.stage) own (line None t.stage)
      → DueFrom t.script t.state.wish t.state.events own
      → Brief own None off
      → t.after.frames ≡ t.under
      → ((what : RingEvent)
      → IsOwn t.below (line None off) what
      → IsDue (situation_after t.script t.state.wish (t.state.events ++ own)) what
      → ⊥)
      → Made t
  goes_with own are does due brief is rests = record {
    own = own;
    payload_after = None;
    stage_after = off;
    does = does;
    due = due;
    step = one_step own None off are does brief;
    fresh = λ same. absurd (fewer same);
    record_kept = λ same. absurd (fewer same);
    ends = inr (
      (refl, rests),
      refl,
      (let long = ap (λ (xs : List Frame). length xs) is in
          let high = ap (λ (xs : List Frame). length xs) t.top in omega (arith, long, high)),
      stands_after own t.below are
          (subst (λ (xs : List Frame). FramesStand xs (payloads_left xs t.before.payloads) t.below) (sym is)
          (subst (λ (xs : List (List ℕ)). FramesStand t.under xs t.below)
          (sym (ap (payloads_left t.under) t.paid
          ∙ popped_payloads t.under t.payload t.payloads
          (stand_counted t.under t.payloads t.below t.others)))
          t.others)),
    );
  }
    where
      fewer : length t.after.frames ≡ length c.frames → ⊥
      fewer same = let long = ap (λ (xs : List Frame). length xs) is in
          let high = ap (λ (xs : List Frame). length xs) t.top in omega (arith, same, long, high)
