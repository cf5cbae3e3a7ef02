-- What the frame on top does in a run, beside an account: what it does in its steps, one after the other.
use Rattle.std.proofs.Common.{◌≡◌, ◌≢◌, ℕ, suc, ◌<◌, List, [], ◌∷◌, ◌++◌, length, Option, Some, None}
use Rattle.std.proofs.Common.{refl, sym, ap, ◌∙◌, subst, inl, inr, ⊎_elim, arith, append_assoc, append-nil}
use Rattle.trace_model.specs.Window.{RingEvent}
use Rattle.trace_model.specs.Frames.{Progress, waiting, reserved, left, Frame}
use Rattle.trace_model.specs.Ring.{Core}
use Rattle.trace_model.specs.Steps.{Exchange}
use Rattle.text_model.specs.Script.{Script}
use Rattle.ring_model.specs.Seats.{IsOfReader}
use Rattle.world_model.specs.Lanes.{Lane, lane_behind, event_in, event_on_top, FrameRun}
use Rattle.world_model.proofs.FramesMove.{PushesNone}
use Rattle.world_model.proofs.LanePayloads.{pushes_none}
use Rattle.line_model.specs.CallEvents.{IsRecordOnTop}
use Rattle.line_model.specs.Due.{situation_after}
use Rattle.line_model.specs.Accounts.{Stage, LineFrame, CpuState, IsThere, frame_after, Does, HasGone}
use Rattle.line_model.specs.Accounts.{with_own, Steps}
use Rattle.line_model.proofs.Standing.{FrameStands, FramesStand, Stands, IsFresh, OneStep, StaysOrGoes, TopsDo}
use Rattle.line_model.proofs.DueRuns.{DueFrom, due_append, are_due}
use Rattle.line_model.proofs.StepDoes.{line, does_with, never_off, StepDoes}
use Rattle.line_model.proofs.TopSteps.{step_does}

-- What the frame on top does in these exchanges.
record RunDoes (script : Script) (before : Lane) (state : CpuState) (payload : Option (List ℕ))
    (stage : Stage) (below : List LineFrame) (exchanges : List Exchange) (after : Lane)
    : Type 0 where
  own : List RingEvent
  payload_after : Option (List ℕ)
  stage_after : Stage
  does : Does below (line payload stage) own (line payload_after stage)
  due : DueFrom script state.wish state.events own
  steps : IsRecordOnTop before.core.frames
      → Steps script state.wish below (length exchanges) state.events (line payload stage) own
      (line payload_after stage_after)
  ends : StaysOrGoes script before state own (line payload_after stage_after) below after

-- ---- the stack

-- the frame on top, beside that of the account
record HasTop (frames : List Frame) (payloads : List (List ℕ)) (first : LineFrame) (below : List LineFrame)
    : Type 0 where
  frame : Frame
  under : List Frame
  payload : List ℕ
  rest : List (List ℕ)
  top : frames ≡ frame ∷ under
  paid : payloads ≡ payload ∷ rest
  one : FrameStands frame payload below first
  others : FramesStand under rest below

has_top : (frames : List Frame) (payloads : List (List ℕ)) (first : LineFrame) (below : List LineFrame)
    → FramesStand frames payloads (first ∷ below)
    → HasTop frames payloads first below
has_top [] [] first below stand = absurd stand
has_top [] (payload ∷ payloads) first below stand = absurd stand
has_top (frame ∷ under) [] first below stand = absurd stand
has_top (frame ∷ under) (payload ∷ payloads) first below stand = record {
  frame = frame;
  under = under;
  payload = payload;
  rest = payloads;
  top = refl;
  paid = refl;
  one = stand.0;
  others = stand.1;
}

-- it is still there
there_of : (frame : Frame) (payload : List ℕ) (below : List LineFrame) (first : LineFrame)
    → FrameStands frame payload below first
    → IsThere below first
there_of frame payload below first one = by_state frame.state refl
  where
    unwritten : (st : Progress) → st ≢ left → frame.state ≡ st → first.payload ≢ None
    unwritten st not is none =
        let both : Some payload ≡ None = sym (one.unwritten (λ e. not (sym is ∙ e))) ∙ none in cc

    by_state : (st : Progress) → frame.state ≡ st → IsThere below first
    by_state waiting is = inl (unwritten waiting (λ e. cc) is)
    by_state (reserved number) is = inl (unwritten (reserved number) (λ e. cc) is)
    by_state left is = inr (one.has_left is).1

-- ---- runs

does_append : (below : List LineFrame) (frame between last : LineFrame) (own more : List RingEvent)
    → Does below frame own between
    → Does below between more last
    → Does below frame (own ++ more) last
does_append below frame between last [] more same rest = subst (λ (x : LineFrame). Does below x more last) same rest
does_append below frame between last (event ∷ own) more (is_own, does) rest =
    (is_own, does_append below (frame_after frame event) between last own more does rest)

-- a step before others, and the last one
module _ (script : Script) (asked : ℕ) (below : List LineFrame) (before : List RingEvent) (frame : LineFrame) where
  step_on : (count : ℕ) (own more : List RingEvent) (between next : LineFrame)
      → OneStep script asked below before frame own between
      → Steps script asked below count (before ++ own) between more next
      → Steps script asked below (suc count) before frame (own ++ more) next
  step_on count own more between next (inl (none, stage, may, same)) rest = inl (
    stage,
    may,
    subst (λ (f : LineFrame). Steps script asked below count before f (own ++ more) next) (sym same)
        (subst (λ (xs : List RingEvent). Steps script asked below count before between (xs ++ more) next) (sym none)
        (subst (λ (xs : List RingEvent). Steps script asked below count xs between more next)
        (ap (λ (xs : List RingEvent). before ++ xs) none ∙ append-nil before) rest)),
  )
  step_on count own more between next (inr (event, is, is_own, may, same)) rest = inr (
    event,
    more,
    ap (λ (xs : List RingEvent). xs ++ more) is,
    is_own,
    may,
    subst (λ (f : LineFrame). Steps script asked below count (before ++ event ∷ []) f more next) (sym same)
        (subst (λ (xs : List RingEvent). Steps script asked below count (before ++ xs) between more next) is rest),
  )

  last_step : (own : List RingEvent) (next : LineFrame)
      → OneStep script asked below before frame own next
      → Steps script asked below 1 before frame own next
  last_step own next (inl (none, stage, may, same)) = inl (stage, may, (none, same))
  last_step own next (inr (event, is, is_own, may, same)) = inr (event, [], is, is_own, may, (refl, same))

of_writer : (frames : List Frame) (payloads : List (List ℕ)) → IsOfReader (event_on_top frames payloads) → ⊥
of_writer [] payloads of = of
of_writer (frame ∷ below) payloads of = in_state frame.state payloads of
  where
    in_state : (state : Progress) (ps : List (List ℕ)) → IsOfReader (event_in state ps) → ⊥
    in_state waiting ps of = of
    in_state (reserved number) [] of = of
    in_state (reserved number) (payload ∷ ps) of = of
    in_state left ps of = of

module _ (script : Script) (below : List LineFrame) (depth : ℕ) where
  -- no step is made
  no_run : (before : Lane) (state : CpuState) (payload : Option (List ℕ)) (stage : Stage)
      (after : Lane)
      → Stands script before (record state { frames = line payload stage ∷ below })
      → before ≡ after
      → RunDoes script before state payload stage below [] after
  no_run before state payload stage after stands same =
      let t = has_top before.core.frames before.payloads (line payload stage) below stands.frames in
      record {
        own = [];
        payload_after = payload;
        stage_after = stage;
        does = refl;
        due = tt;
        steps = λ on_top. (refl, refl);
        ends = subst (StaysOrGoes script before state [] (line payload stage) below) same
            (inl (
              there_of t.frame t.payload below (line payload stage) t.one,
              (λ is. never_off t.frame.phase (sym t.one.stage ∙ is)),
              refl,
              subst (λ (xs : List RingEvent). Stands script before
                  (record state { events = xs; frames = line payload stage ∷ below }))
                  (sym (append-nil state.events)) stands,
            ));
      }

  module _ (before : Lane) (state : CpuState) (payload : Option (List ℕ)) (stage : Stage)
      (x : Exchange) (core : Core)
      (d : StepDoes script before state payload stage below (lane_behind before core)) where
    abbrev later : CpuState
    later = record state { events = state.events ++ d.own }

    -- the state after these events and those
    after_both : (more : List RingEvent) (frames : List LineFrame)
        → with_own later more frames ≡ with_own state (d.own ++ more) frames
    after_both more frames = λ i. record state {
      events = append_assoc state.events d.own more i;
      frames = frames;
    }

    -- it is still there after the step
    goes_on : (exchanges : List Exchange) (after : Lane)
        → length core.frames ≡ length before.core.frames
        → RunDoes script (lane_behind before core) later d.payload_after d.stage_after below exchanges
        after
        → RunDoes script before state payload stage below (x ∷ exchanges) after
    goes_on exchanges after long r = record {
      own = d.own ++ r.own;
      payload_after = r.payload_after;
      stage_after = r.stage_after;
      does = does_append below (line payload stage) (line d.payload_after stage)
          (line r.payload_after stage) d.own r.own d.does
          (does_with below d.stage_after stage r.own (line d.payload_after stage)
          (line r.payload_after d.stage_after) r.does);
      due = due_append script state.wish state.events d.own r.own d.due r.due;
      steps = λ on_top.
          step_on script state.wish below state.events (line payload stage) (length exchanges) d.own r.own
          (line d.payload_after d.stage_after) (line r.payload_after r.stage_after)
          (d.step on_top) (r.steps (d.record_kept long on_top));
      ends = ⊎_elim
          (λ (there, on, same, stands). inl (
            there,
            on,
            same ∙ long,
            subst (Stands script after)
                (after_both r.own (line r.payload_after r.stage_after ∷ below)) stands,
          ))
          (λ (gone, is_off, fewer, stands). inr (
            subst (λ (xs : List RingEvent). HasGone (situation_after script state.wish xs) below
                (line r.payload_after r.stage_after))
                (append_assoc state.events d.own r.own) gone,
            is_off,
            omega (arith, fewer, long),
            subst (Stands script after) (after_both r.own below) stands,
          ))
          r.ends;
    }

    -- it has gone, and makes no further step
    has_gone : (exchanges : List Exchange) (after : Lane)
        → length core.frames < length before.core.frames
        → length before.core.frames ≡ depth
        → FrameRun script.pages script.size depth (lane_behind before core) exchanges after
        → RunDoes script before state payload stage below (x ∷ exchanges) after
    has_gone [] after fewer count same = record {
      own = d.own;
      payload_after = d.payload_after;
      stage_after = d.stage_after;
      does = d.does;
      due = d.due;
      steps = λ on_top. last_step script state.wish below state.events (line payload stage) d.own
          (line d.payload_after d.stage_after) (d.step on_top);
      ends =
          subst (StaysOrGoes script before state d.own (line d.payload_after d.stage_after) below) same
          d.ends;
    }
    has_gone (y ∷ exchanges) after fewer count (again, asked, next, step, more) =
        absurd (let no : ⊥ = omega (arith, fewer, count, again) in no)

  run_does : (exchanges : List Exchange) (before : Lane) (state : CpuState) (payload : Option (List ℕ))
      (stage : Stage) (after : Lane)
      → Stands script before (record state { frames = line payload stage ∷ below })
      → IsFresh before.core
      → length before.core.frames ≡ depth
      → FrameRun script.pages script.size depth before exchanges after
      → RunDoes script before state payload stage below exchanges after
  run_does [] before state payload stage after stands fresh count same =
      no_run before state payload stage after stands same
  run_does (x ∷ exchanges) before state payload stage after stands fresh count
      (here, event, core, step, run) =
      let t = has_top before.core.frames before.payloads (line payload stage) below stands.frames in
      let d = step_does
      (record {
        script = script;
        before = before;
        state = state;
        told = payload;
        stage = stage;
        below = below;
        frame = t.frame;
        under = t.under;
        payload = t.payload;
        payloads = t.rest;
        event = x.event;
        answer = x.answer;
        after = core;
        stands = stands;
        top = t.top;
        paid = t.paid;
        one = t.one;
        others = t.others;
        fresh = fresh;
        none = subst PushesNone (sym event) (pushes_none before.core.frames before.payloads);
        writes = λ of. of_writer before.core.frames before.payloads (subst IsOfReader event of);
        step = step;
      }) event in
      ⊎_elim
      (λ (there, on_it, long, on). goes_on before state payload stage x core d exchanges after long
      (run_does exchanges (lane_behind before core)
      (record state { events = state.events ++ d.own }) d.payload_after
      d.stage_after after on (d.fresh long) (long ∙ count) run))
      (λ (gone, is_off, fewer, on). has_gone before state payload stage x core d exchanges after fewer count run)
      d.ends

-- The frame on top does what an account says.
pub tops_do : TopsDo
tops_do script before state top below exchanges after stands is fresh run =
    let r = run_does script below (length before.core.frames) exchanges before state top.payload top.stage
    after
    record {
      reached = stands.reached;
      payloads = stands.payloads;
      run = stands.run;
      frames = subst (FramesStand before.core.frames before.payloads) is stands.frames;
      seen = stands.seen;
      hint = stands.hint;
      take = stands.take;
      wish = stands.wish;
    } fresh refl run in
    record {
      own = r.own;
      next = line r.payload_after r.stage_after;
      does = r.does;
      due = are_due script state.wish state.events r.own r.due;
      steps = r.steps;
      ends = r.ends;
    }
