-- The lines of a writer, from a ring that matches an account: they are lines of the account, and it matches again.
use Rattle.std.proofs.Common.{◌≡◌, ◌≢◌, ℕ, ◌≤◌, List, [], ◌∷◌, ◌++◌, length, Some, None, refl, sym, ap, ◌∙◌, subst, inl}
use Rattle.std.proofs.Common.{inr, ⊎_elim, arith, append_assoc}
use Rattle.trace_model.specs.declared.limits.TheConstants.{MAX_FRAMES}
use Rattle.trace_model.specs.History.{HistoryEvent, push, push_close}
use Rattle.trace_model.specs.Frames.{Purpose, for_record, for_close, idle, noted_fill, Frame, WriteFault}
use Rattle.trace_model.specs.Window.{RingEvent, acts}
use Rattle.trace_model.specs.Ring.{Core}
use Rattle.trace_model.specs.Steps.{pushes, pushes_close, Answer, pushed, refused, with_history_event, with_frame}
use Rattle.trace_model.specs.Steps.{Exchange}
use Rattle.trace_model.proofs.steps.StepSound.{cases_of}
use Rattle.ring_model.specs.Reached.{IsReached}
use Rattle.ring_model.proofs.partition.RingsKept.{reached_further}
use Rattle.text_model.specs.Script.{Script}
use Rattle.world_model.specs.Lanes.{Lane, FitsKind, lane_with, FrameRun, IsGone, StepsFrame, lacks_to_step, steps_on}
use Rattle.world_model.specs.Lanes.{FinishesFrame, lacks_to_finish, finishes, PushesFrame, FinishesPushed, WritesFrame}
use Rattle.line_model.specs.Due.{Situation, situation_after, IsDue}
use Rattle.line_model.specs.Accounts.{Stage, resting, searching, moving, closing_fills, asking, off, LineFrame}
use Rattle.line_model.specs.Accounts.{CpuState, Does, HasGone, with_own, IsIdle, new_frame, IsRefused, Begins}
use Rattle.line_model.specs.Accounts.{refuses_frame, pushes_frame, Steps, with_top, StepsTop, FinishesTop, finishes_it}
use Rattle.line_model.specs.Accounts.{WritesWhole, refuses_whole, writes_it}
use Rattle.line_model.specs.CallEvents.{IsRecordOnTop}
use Rattle.line_model.specs.LineParts.{AreForRecords}
use Rattle.line_model.proofs.Standing.{FramesStand, Stands, AreDue, IsFresh, StaysOrGoes, TopDoes}
use Rattle.line_model.proofs.StepDoes.{idle_of, gone_with}
use Rattle.line_model.proofs.TopsDo.{tops_do}
use Rattle.line_model.proofs.StandingKept.{no_lines, some_lines, frames_count, BeginsNone, run_acts}
use Rattle.line_model.proofs.PushCases.{PushCases, is_pushed, is_refused, Refuses, record_push, close_push}
use Rattle.line_model.proofs.RecordsStand.{HasRecords}
use Rattle.line_model.proofs.ReaderStands.{PartStands, none_due, more_due}

-- ---- a push

module _ (script : Script) (lane : Lane) (state : CpuState) (stands : Stands script lane state) where
  -- the state, after a push of this event
  abbrev with_pushed : HistoryEvent → List ℕ → CpuState
  with_pushed event payload = with_own state (acts event ∷ []) (new_frame payload ∷ state.frames)

  -- the ring after it
  abbrev pushed_lane : Purpose → HistoryEvent → List ℕ → Lane
  pushed_lane kind event payload =
      record { core = with_history_event (with_frame lane.core kind) event; payloads = payload ∷ lane.payloads }

  pushed_stands : (kind : Purpose) (event : HistoryEvent) (payload : List ℕ)
      → FitsKind kind payload
      → BeginsNone event
      → IsReached script.pages script.size script.start (pushed_lane kind event payload).core
      → Stands script (pushed_lane kind event payload) (with_pushed event payload)
  pushed_stands kind event payload fits quiet reached = record {
    reached = reached;
    payloads = (fits, stands.payloads);
    run = run_acts script.pages script.start lane.core (pushed_lane kind event payload).core state.events stands.run
        event quiet refl refl refl;
    frames = (
      record {
        unwritten = λ not. refl;
        has_left = λ e. cc;
        stage = refl;
      },
      stands.frames,
    );
    seen = stands.seen;
    hint = stands.hint;
    take = stands.take;
    wish = stands.wish;
  }

  -- A push: the ring matches the account with the frame, or it was refused, and nothing is done.
  data PushStands (Refused : Type 0) (event : HistoryEvent) (payload : List ℕ) (answer : Answer) (between : Lane)
      : Type 0 where
    now_pushed : answer ≡ pushed
        → (Refused → ⊥)
        → Stands script between (with_pushed event payload)
        → PushStands Refused event payload answer between
    now_refused : (why : WriteFault)
        → answer ≡ refused why
        → Refused
        → between ≡ lane
        → PushStands Refused event payload answer between

  push_stands : (Why Refused : Type 0) (kind : Purpose) (event : HistoryEvent) (payload : List ℕ) (answer : Answer)
      (between : Lane) (core : Core)
      → FitsKind kind payload
      → BeginsNone event
      → (Why → Refused)
      → (Refused → Why)
      → IsReached script.pages script.size script.start core
      → between ≡ lane_with lane payload answer core
      → PushCases Why kind event lane.core answer core
      → PushStands Refused event payload answer between
  push_stands Why Refused kind event payload answer between core fits quiet to back reached is
      (is_pushed a may core_is) =
      now_pushed a (λ no. may (back no))
      (subst (λ (l : Lane). Stands script l (with_pushed event payload))
      (sym (is ∙ (λ i. lane_with lane payload (a i) (core_is i))))
      (pushed_stands kind event payload fits quiet
      (subst (λ (c : Core). IsReached script.pages script.size script.start c) core_is reached)))
  push_stands Why Refused kind event payload answer between core fits quiet to back reached is
      (is_refused why a because core_is) =
      now_refused why a (to because) (is ∙ (λ i. lane_with lane payload (a i) (core_is i)))

  many : length state.frames ≡ length lane.core.frames
  many = frames_count script lane state stands

  record_pushes : (moment : ℕ) (payload : List ℕ) (x : Exchange) (between : Lane)
      → PushesFrame script.pages script.size (pushes moment (length payload)) payload lane x between
      → PushStands (IsRefused script.size moment (length payload) state.frames) (push moment (length payload)) payload
      x.answer between
  record_pushes moment payload x between p =
      push_stands (Refuses script.size moment (length payload) (length lane.core.frames)) _
      (for_record moment (length payload)) _ payload x.answer between p.core refl (λ n h w. (tt, refl))
      (λ why. subst (Refuses script.size moment (length payload)) (sym many) why)
      (λ why. subst (Refuses script.size moment (length payload)) many why)
      (reached_further script.pages script.size script.start lane.core _ x.answer p.core stands.reached p.step)
      p.after_is
      (record_push script.pages script.size lane.core moment (length payload) x.answer p.core (cases_of p.step))

  close_pushes : (x : Exchange) (between : Lane)
      → PushesFrame script.pages script.size pushes_close [] lane x between
      → PushStands (MAX_FRAMES ≤ length state.frames) push_close [] x.answer between
  close_pushes x between p =
      push_stands (MAX_FRAMES ≤ length lane.core.frames) _ for_close _ [] x.answer between p.core refl
      (λ n h w. (tt, refl))
      (λ why. subst (λ (k : ℕ). MAX_FRAMES ≤ k) (sym many) why) (λ why. subst (λ (k : ℕ). MAX_FRAMES ≤ k) many why)
      (reached_further script.pages script.size script.start lane.core _ x.answer p.core stands.reached p.step)
      p.after_is
      (close_push script.pages script.size lane.core x.answer p.core (cases_of p.step))

  -- nothing is done
  abbrev idle_stands : (Part : CpuState → List RingEvent → CpuState → Type 0) (next : Lane)
      → next ≡ lane
      → (IsIdle state [] state → Part state [] state)
      → PartStands script Part state next
  idle_stands Part next same part = record {
    own = [];
    after = state;
    part = part (refl, refl);
    due = none_due script state.wish state.events;
    stands = subst (λ (l : Lane). Stands script l state) (sym same) stands;
  }

  -- `b`
  begin_stands : (Refused : Type 0) (event : HistoryEvent) (payload : List ℕ) (answer : Answer) (next : Lane)
      → ((s : Situation) → IsDue s (acts event))
      → PushStands Refused event payload answer next
      → PartStands script (Begins Refused event payload) state next
  begin_stands Refused event payload answer next any (now_pushed a may pushed_so) = record {
    own = acts event ∷ [];
    after = with_pushed event payload;
    part = pushes_frame may refl refl;
    due = more_due script state.wish state.events [] (acts event) (any (situation_after script state.wish state.events))
        (none_due script state.wish (state.events ++ acts event ∷ []));
    stands = pushed_so;
  }
  begin_stands Refused event payload answer next any (now_refused why a because same) =
      idle_stands (Begins Refused event payload) next same (λ idle. refuses_frame because idle)

  pub begins_stand : (moment : ℕ) (payload : List ℕ) (x : Exchange) (next : Lane)
      → PushesFrame script.pages script.size (pushes moment (length payload)) payload lane x next
      → PartStands script
      (Begins (IsRefused script.size moment (length payload) state.frames) (push moment (length payload)) payload) state
      next
  begins_stand moment payload x next p =
      begin_stands _ _ payload x.answer next (λ s. tt) (record_pushes moment payload x next p)

  -- ---- the frame on top

  -- a frame that rests, or is a record frame, has noted no fill for a close frame
  records_fresh : (frames : List Frame) (frame : Frame) (below : List Frame)
      → AreForRecords frames
      → frames ≡ frame ∷ below
      → frame.kind ≢ for_close
  records_fresh frames frame below are at closing =
      let ((moment, len, is), rest) = subst AreForRecords at are in
      let both : for_record moment len ≡ for_close = sym is ∙ closing in cc

  resting_idle : (frame : Frame) (under : List Frame) (payloads : List (List ℕ)) (top : LineFrame)
      (below : List LineFrame)
      → FramesStand (frame ∷ under) payloads (top ∷ below)
      → top.stage ≡ resting
      → frame.phase ≡ idle
  resting_idle frame under [] top below stand rests = absurd stand
  resting_idle frame under (payload ∷ payloads) top below stand rests =
      idle_of frame.phase (sym stand.0.stage ∙ rests)

  record_fresh : HasRecords lane → IsFresh lane.core
  record_fresh are = λ frame below o at closing waits noted.
      absurd (records_fresh lane.core.frames frame below are at closing)

  resting_fresh : (top : LineFrame) (below : List LineFrame)
      → state.frames ≡ top ∷ below
      → top.stage ≡ resting
      → IsFresh lane.core
  resting_fresh top below is none = λ frame under o at closing waits noted.
      (let stand : FramesStand (frame ∷ under) lane.payloads (top ∷ below) =
      subst (λ (frames : List Frame). FramesStand frames lane.payloads (top ∷ below)) at
      (subst (λ (lines : List LineFrame). FramesStand lane.core.frames lane.payloads lines) is stands.frames) in
      let phase = resting_idle frame under lane.payloads top below stand none in
      let both : None ≡ Some o = ap noted_fill (sym phase) ∙ noted in cc)

  record_on_top : (frames : List Frame) → frames ≢ [] → AreForRecords frames → IsRecordOnTop frames
  record_on_top [] some are = absurd (some refl)
  record_on_top (frame ∷ below) some ((moment, len, is), rest) =
      λ closing. (let both : for_record moment len ≡ for_close = sym is ∙ closing in cc)

  -- `s`
  pub steps_stand : (count : ℕ) (next : Lane) (xs : List Exchange)
      → HasRecords lane
      → StepsFrame script.pages script.size count lane xs next
      → PartStands script (StepsTop script count) state next
  steps_stand count next xs are (lacks_to_step h) =
      idle_stands (StepsTop script count) next h.stays
      (λ idle. StepsTop.lacks_to_step (no_lines lane.core.frames lane.payloads state.frames stands.frames h.none) idle)
  steps_stand count next xs are (steps_on some run stop) =
      let (top, below, is) = some_lines lane.core.frames lane.payloads state.frames stands.frames some in
      by_top top below is (tops_do script lane state top below xs next stands is (record_fresh are) run)
    where
      on_stack : (stage : Stage) (frame : LineFrame) (below : List LineFrame)
          → stage ≢ off
          → frame ∷ below ≡ with_top stage frame below
      on_stack resting frame below on = refl
      on_stack (searching fill search) frame below on = refl
      on_stack (moving fill left) frame below on = refl
      on_stack closing_fills frame below on = refl
      on_stack asking frame below on = refl
      on_stack off frame below on = absurd (on refl)

      by_top : (top : LineFrame) (below : List LineFrame)
          → state.frames ≡ top ∷ below
          → TopDoes script lane state top below xs next
          → PartStands script (StepsTop script count) state next
      by_top top below is d = by_end d.ends
        where
          steps : Steps script state.wish below (length xs) state.events top d.own d.next
          steps = d.steps (record_on_top lane.core.frames some are)

          by_end : StaysOrGoes script lane state d.own d.next below next
              → PartStands script (StepsTop script count) state next
          by_end (inl (there, on, deep, again)) =
              let all : length xs ≡ count =
              ⊎_elim (λ same. same) (λ gone. absurd (let no : ⊥ = omega (arith, gone, deep) in no)) stop.1 in record {
                own = d.own;
                after = with_own state d.own (d.next ∷ below);
                part = StepsTop.steps_on (length xs) top d.next below is stop.0 (inl all) steps
                    (ap (with_own state d.own) (on_stack d.next.stage d.next below on));
                due = d.due;
                stands = again;
              }
          by_end (inr (gone, is_off, less, again)) = record {
            own = d.own;
            after = with_own state d.own below;
            part = StepsTop.steps_on (length xs) top d.next below is stop.0 (inr is_off) steps
                (ap (λ (stage : Stage). with_own state d.own (with_top stage d.next below)) (sym is_off));
            due = d.due;
            stands = again;
          }

  -- a run until the frame on top is gone
  record Goes (top : LineFrame) (below : List LineFrame) (next : Lane) : Type 0 where
    own : List RingEvent
    last : LineFrame
    does : Does below top own last
    due : AreDue script state.wish state.events own
    gone : HasGone (situation_after script state.wish (state.events ++ own)) below last
    again : Stands script next (with_own state own below)

  goes_away : (top : LineFrame) (below : List LineFrame) (next : Lane) (xs : List Exchange)
      → state.frames ≡ top ∷ below
      → IsFresh lane.core
      → FrameRun script.pages script.size (length lane.core.frames) lane xs next
      → IsGone (length lane.core.frames) next
      → Goes top below next
  goes_away top below next xs is fresh run ended = by_end d.ends
    where
      d : TopDoes script lane state top below xs next
      d = tops_do script lane state top below xs next stands is fresh run

      by_end : StaysOrGoes script lane state d.own d.next below next → Goes top below next
      by_end (inl (there, on, deep, again)) = absurd (let no : ⊥ = omega (arith, deep, ended) in no)
      by_end (inr (gone, is_off, less, again)) = record {
        own = d.own;
        last = record d.next { stage = top.stage };
        does = d.does;
        due = d.due;
        gone = gone_with below top.stage (situation_after script state.wish (state.events ++ d.own)) d.next gone;
        again = again;
      }

  -- `f`
  pub finish_stands : (next : Lane) (xs : List Exchange)
      → HasRecords lane
      → FinishesFrame script.pages script.size lane xs next
      → PartStands script (FinishesTop script) state next
  finish_stands next xs are (lacks_to_finish h) =
      idle_stands (FinishesTop script) next h.stays
      (λ idle.
      FinishesTop.lacks_to_finish (no_lines lane.core.frames lane.payloads state.frames stands.frames h.none) idle)
  finish_stands next xs are (finishes some run ended) =
      let (top, below, is) = some_lines lane.core.frames lane.payloads state.frames stands.frames some in
      let g = goes_away top below next xs is (record_fresh are) run ended in record {
        own = g.own;
        after = with_own state g.own below;
        part = finishes_it top g.last below is g.does g.gone refl;
        due = g.due;
        stands = g.again;
      }

-- ---- whole lines

module _ (script : Script) (lane : Lane) (state : CpuState) (stands : Stands script lane state)
    (event : HistoryEvent) (payload : List ℕ) (any : (s : Situation) → IsDue s (acts event)) where
  -- the frame that was pushed is finished
  module _ (between next : Lane) (rest : List Exchange)
      (pushed_so : Stands script between (with_pushed script lane state stands event payload)) (Refused : Type 0)
      (may : Refused → ⊥) where
    abbrev pushed_state : CpuState
    pushed_state = with_pushed script lane state stands event payload

    wholly : Goes script between pushed_state pushed_so (new_frame payload) state.frames next
        → PartStands script (WritesWhole script Refused event payload) state next
    wholly g =
        let same : pushed_state.events ++ g.own ≡ state.events ++ acts event ∷ g.own =
        append_assoc state.events (acts event ∷ []) g.own in record {
          own = acts event ∷ g.own;
          after = with_own state (acts event ∷ g.own) state.frames;
          part = writes_it g.own g.last may refl g.does
              (subst (λ (l : List RingEvent). HasGone (situation_after script state.wish l) state.frames g.last) same
              g.gone)
              refl;
          due = more_due script state.wish state.events g.own (acts event)
              (any (situation_after script state.wish state.events)) g.due;
          stands = subst
              (λ (l : List RingEvent). Stands script next
              (record state { events = l; frames = state.frames })) same
              g.again;
        }

    finished : FinishesFrame script.pages script.size between rest next
        → PartStands script (WritesWhole script Refused event payload) state next
    finished (lacks_to_finish h) =
        let count = frames_count script between pushed_state pushed_so in
        let none = ap (λ (l : List Frame). length l) h.none in
        absurd (let no : ⊥ = omega (arith, count, none) in no)
    finished (finishes some run ended) =
        wholly (goes_away script between pushed_state pushed_so (new_frame payload) state.frames next rest refl
        (resting_fresh script between pushed_state pushed_so (new_frame payload) state.frames refl refl) run ended)

  writes_stand : (Refused : Type 0) (between next : Lane) (answer : Answer) (rest : List Exchange)
      → PushStands script lane state stands Refused event payload answer between
      → FinishesPushed script.pages script.size answer between rest next
      → PartStands script (WritesWhole script Refused event payload) state next
  writes_stand Refused between next answer rest (now_pushed a may pushed_so) fin =
      finished between next rest pushed_so Refused may
      (subst (λ (b : Answer). FinishesPushed script.pages script.size b between rest next) a fin)
  writes_stand Refused between next answer rest (now_refused why a because same) fin =
      idle_stands script lane state stands (WritesWhole script Refused event payload) next
      ((subst (λ (b : Answer). FinishesPushed script.pages script.size b between rest next) a fin).1 ∙ same)
      (λ idle. refuses_whole because idle)

-- `w`
pub write_stands : (script : Script) (lane next : Lane) (state : CpuState) (xs : List Exchange)
    (moment : ℕ) (payload : List ℕ)
    → Stands script lane state
    → WritesFrame script.pages script.size (pushes moment (length payload)) payload lane xs next
    → PartStands script
    (WritesWhole script (IsRefused script.size moment (length payload) state.frames) (push moment (length payload))
    payload) state next
write_stands script lane next state xs moment payload stands w =
    writes_stand script lane state stands (push moment (length payload)) payload (λ s. tt) _ w.between next
    w.push.answer w.rest (record_pushes script lane state stands moment payload w.push w.between w.pushes) w.finishes

-- `c`
pub close_stands : (script : Script) (lane next : Lane) (state : CpuState) (xs : List Exchange)
    → Stands script lane state
    → WritesFrame script.pages script.size pushes_close [] lane xs next
    → PartStands script (WritesWhole script (MAX_FRAMES ≤ length state.frames) push_close []) state next
close_stands script lane next state xs stands w =
    writes_stand script lane state stands push_close [] (λ s. tt) _ w.between next w.push.answer w.rest
    (close_pushes script lane state stands w.push w.between w.pushes) w.finishes
