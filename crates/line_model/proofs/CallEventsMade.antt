-- Each call for the top frame makes events.
use Rattle.std.proofs.Common.{◌≡◌, ◌≢◌, ℕ, ◌+◌, ◌-◌, ◌<◌, ◌⊎◌, true, List, [], ◌∷◌, length, Some, None, refl, sym, ap}
use Rattle.std.proofs.Common.{◌∙◌, subst, inl, inr, arith}
use Rattle.std.specs.Prelude.{IsTrue}
use Rattle.trace_model.specs.Words.{padded}
use Rattle.trace_model.specs.History.{HistoryEvent, push, push_close, open_fill, reserve, leave, wished, is_settled}
use Rattle.trace_model.specs.Packing.{tail_of, FitsBehind, next_reservation}
use Rattle.trace_model.specs.Window.{Window, history_events_of, IsWindow, RingEvent, closes, takes, loses, acts}
use Rattle.trace_model.specs.Frames.{Progress, waiting, reserved, left, number_of, Frame, pushed_onto, pushed_frames}
use Rattle.trace_model.specs.Ring.{Core}
use Rattle.trace_model.specs.Steps.{Event, pushes, pushes_close, steps, ends, reads, wishes, Answer, Exchange}
use Rattle.trace_model.specs.Steps.{after_leave, Step}
use Rattle.trace_model.proofs.steps.StepCases.{StepCases, push_step, push_refused, close_step, close_refused}
use Rattle.trace_model.proofs.steps.StepCases.{frame_step, frame_lacks, end_step, end_lacks, end_early, read_step}
use Rattle.trace_model.proofs.steps.StepCases.{store_wish_step}
use Rattle.trace_model.proofs.histories.NextEvent.{settled_at_rest}
use Rattle.trace_model.proofs.steps.StepSound.{cases_of}
use Rattle.trace_model.proofs.steps.EventKinds.{IsEnds}
use Rattle.ring_model.specs.RingKept.{IsRingKept}
use Rattle.ring_model.specs.WindowLaws.{MovesWindow, WindowStays}
use Rattle.ring_model.proofs.histories.HistorySteps.{step_owed}
use Rattle.ring_model.proofs.partition.RingsKept.{reached_kept}
use Rattle.world_model.specs.Lanes.{event_in, event_on_top, payloads_left}
use Rattle.line_model.specs.Lines.{LineState, OpenFrame, with_top_stepped, TopRun, ReservesFirst}
use Rattle.line_model.specs.WriterCalls.{LineWriting, writer_of}
use Rattle.line_model.specs.CallEvents.{IsFinishing, IsTop, IsRecordOnTop, AreOpenFrames, Agrees, stepped, MakesEvents}
use Rattle.line_model.specs.CallEvents.{CallsMakeEvents}
use Rattle.line_model.proofs.StepsMake.{steps_make}
use Rattle.line_model.proofs.EventsMade.{Does, last_makes, top_makes, top_leaves}

-- ---- an end, whatever frames are below

abbrev payload_of : List ℕ → Event → List ℕ
payload_of other (pushes moment len) = other
payload_of other pushes_close = other
payload_of other steps = other
payload_of other (ends payload) = payload
payload_of other reads = other
payload_of other wishes = other

abbrev pub first_of : Frame → List Frame → Frame
first_of frame [] = frame
first_of frame (first ∷ others) = first

abbrev others_of : List Frame → List Frame
others_of [] = []
others_of (first ∷ others) = others

module _ (n size : ℕ) (c : Core) (frame : Frame) (below : List Frame) (number : ℕ) (payload : List ℕ) (answer : Answer)
    (after : Core) (top : c.frames ≡ frame ∷ below) (at : frame.state ≡ reserved number) where
  pub ends_make : StepCases n size c (ends payload) answer after → after ≡ after_leave c frame below (Some payload)
  ends_make (push_step moment len e few short early a is) = absurd (subst IsEnds e tt)
  ends_make (push_refused moment len why e denied a is) = absurd (subst IsEnds e tt)
  ends_make (close_step e few a is) = absurd (subst IsEnds e tt)
  ends_make (close_refused e many a is) = absurd (subst IsEnds e tt)
  ends_make (frame_step f fs e held made) = absurd (subst IsEnds e tt)
  ends_make (frame_lacks e none a is) = absurd (subst IsEnds e tt)
  ends_make (end_step paid f fs num moment len e held state k slot a is) =
      let same : f ∷ fs ≡ frame ∷ below = sym held ∙ top in
      let pays : paid ≡ payload = sym (ap (payload_of []) e) in
      is ∙ (λ i. after_leave c (ap (first_of frame) same i) (ap others_of same i) (Some (pays i)))
  ends_make (end_lacks paid e none a is) =
      absurd (let z = ap (λ (l : List Frame). length l) (sym none ∙ top) in omega arith)
  ends_make (end_early paid f fs e held early a is) =
      let same : f ∷ fs ≡ frame ∷ below = sym held ∙ top in
      absurd (let none : None ≡ Some number = sym early
      ∙ ap (λ (x : Frame). number_of x.state) (ap (first_of frame) same) ∙ ap number_of at in cc)
  ends_make (read_step e made) = absurd (subst IsEnds e tt)
  ends_make (store_wish_step e a is) = absurd (subst IsEnds e tt)

-- ---- a fill is begun only if a page is released

room_in : (n size start : ℕ) (c : Core) (event : Event) (answer : Answer) (after : Core)
    → IsRingKept n size start c
    → Step n size c event answer after
    → c.opened < after.opened
    → c.opened < c.done + n
room_in n size start c event answer after r step grown =
    by_window (step_owed n size start c event answer after r.links r.stack r.history (cases_of step)).window
  where
    by_window_event : (what : RingEvent) → MovesWindow n c what after → c.opened < c.done + n
    by_window_event (acts (push moment len)) h = absurd h.shown
    by_window_event (acts push_close) h = absurd h.shown
    by_window_event (acts reserve) h = absurd h.shown
    by_window_event (acts (leave payload)) h = absurd h.shown
    by_window_event (acts wished) h = absurd h.shown
    by_window_event (acts open_fill) h = let low = h.step.may in let le = r.links.head_le in omega arith
    by_window_event closes h = absurd (let e = ap (λ (w : Window). w.opened) h.step.after_is in omega arith)
    by_window_event takes h = absurd (let e = ap (λ (w : Window). w.opened) h.step.after_is in omega arith)
    by_window_event loses h = absurd (let e = ap (λ (w : Window). w.opened) h.step.after_is in omega arith)

    by_window : WindowStays c after ⊎ ((what : RingEvent) × MovesWindow n c what after) → c.opened < c.done + n
    by_window (inl stays) = absurd (let e = ap (λ (w : Window). w.opened) stays.0 in omega arith)
    by_window (inr (what, h)) = by_window_event what h

module _ (n size start : ℕ) (c : Core) (x : Exchange) (after : Core) (r : IsRingKept n size start c)
    (step : Step n size c x.event x.answer after) (payloads : List (List ℕ)) (p : LineState)
    (agrees : Agrees n p payloads (writer_of c)) where
  abbrev MadeEvents : Type 0
  MadeEvents = MakesEvents n size (writer_of c) (writer_of after) payloads p

  own_window : IsWindow n record { head = p.window.head; done = c.done; opened = c.opened }
  own_window = record {
    head_le = let a = agrees.done in let b = agrees.window.head_le in omega arith;
    done_lt = let a = agrees.done in let o = agrees.opened in let b = agrees.window.done_lt in omega arith;
    opened_le = let o = agrees.opened in let b = agrees.window.opened_le in omega arith;
  }

  as_event : (frames : List Frame) (e : Event)
      → c.frames ≡ frames
      → x.event ≡ event_on_top c.frames payloads
      → event_on_top frames payloads ≡ e
      → Step n size c e x.answer after
  as_event frames e top is same =
      subst (λ (v : Event). Step n size c v x.answer after)
      (is ∙ ap (λ (fs : List Frame). event_on_top fs payloads) top ∙ same) step

  deep : (frame : Frame) (below : List Frame) → c.frames ≡ frame ∷ below → length c.frames - 1 ≡ length below
  deep frame below top = let e = ap (λ (fs : List Frame). length fs) top in omega arith

  -- from a state that is the stepped one
  from_does : (frame : Frame) (below : List Frame) (ps : List (List ℕ)) (from : LineState)
      → c.frames ≡ frame ∷ below
      → (does : Does n size (length c.frames - 1) c frame ps from (writer_of after))
      → stepped p ≡ from
      → Agrees n does.behind (payloads_left after.frames payloads) (writer_of after)
      → ReservesFirst size p p.frames (history_events_of does.events)
      → MadeEvents
  from_does frame below ps from top does path behind_agrees first = record {
    events = does.events;
    reached = does.reached;
    behind = does.behind;
    run = subst (λ (q : LineState). TopRun n size (length c.frames - 1) q does.events does.reached) (sym path) does.run;
    goes = does.goes;
    agrees = behind_agrees;
    first = first;
    on = λ e. ap (λ (xs : List OpenFrame). let q : LineState = record does.behind { frames = xs } in q)
        (does.on (let t = ap (λ (fs : List Frame). length fs) top in omega arith));
    few = λ is_record. does.few (subst IsRecordOnTop top is_record);
  }

  -- the bottom frame has left
  by_last : (frame : Frame) (below : List Frame)
      → c.frames ≡ frame ∷ below
      → IsFinishing frame below payloads p.frames p.finishing
      → x.event ≡ event_on_top c.frames payloads
      → MadeEvents
  by_last frame below top last is =
      let step2 = as_event (frame ∷ below) steps top is (ap (λ (s : Progress). event_in s payloads) last.has_left) in
      let settled : IsTrue (is_settled c.history) =
      settled_at_rest c.history
      (r.history.stack ∙ ap pushed_frames top
      ∙ (λ i. pushed_onto frame.kind (last.has_left i) (pushed_frames (last.below_none i)))) in
      let does =
      last_makes n size (length c.frames - 1) c frame below
      (deep frame below top) p.window.head own_window payloads last.has_left last.below_none last.one after settled
      (steps_make n size start c frame below x.answer after r top (inr last.has_left) step2)
      (room_in n size start c steps x.answer after r step2) in
      let path : stepped
      p ≡ record {
        history = c.history;
        window = record { head = p.window.head; done = c.done; opened = c.opened };
        frames = [];
        finishing = true;
      }
      = (λ i. record {
        history = agrees.history i;
        window = record { head = p.window.head; done = agrees.done i; opened = agrees.opened i };
        frames = with_top_stepped (last.open_none i);
        finishing = last.finishing_is i;
      }) in
      from_does frame below payloads _ top does path does.agrees
      (subst (λ (xs : List OpenFrame). ReservesFirst size p xs (history_events_of does.events)) (sym last.open_none) tt)

  module _ (frame : Frame) (below : List Frame) (on_top : c.frames ≡ frame ∷ below) (top : OpenFrame)
      (rest : List OpenFrame) (others : List (List ℕ)) (is : IsTop frame payloads p.frames top rest others) where
    -- from the state in the form in which it is computed
    by_does : Does n size (length c.frames - 1) c frame
        (top.payload ∷ others)
        record {
          history = c.history;
          window = record { head = p.window.head; done = c.done; opened = c.opened };
          frames = record { payload = top.payload; stepped = true } ∷ rest;
          finishing = p.finishing;
        } (writer_of after)
        → MadeEvents
    by_does does =
        let path : stepped
        p ≡ record {
          history = c.history;
          window = record { head = p.window.head; done = c.done; opened = c.opened };
          frames = record { payload = top.payload; stepped = true } ∷ rest;
          finishing = p.finishing;
        }
        = (λ i. record {
          history = agrees.history i;
          window = record { head = p.window.head; done = agrees.done i; opened = agrees.opened i };
          frames = with_top_stepped (is.open_is i);
          finishing = p.finishing;
        }) in
        let history_is : p.history ≡ c.history = agrees.history in
        from_does frame below (top.payload ∷ others) _ on_top does path
        (subst (λ (ps : List (List ℕ)). Agrees n does.behind (payloads_left after.frames ps) (writer_of after))
        (sym is.payloads_are) does.agrees)
        (subst (λ (xs : List OpenFrame). ReservesFirst size p xs (history_events_of does.events)) (sym is.open_is)
        (λ fresh res wants fits. does.first (is.fresh fresh).0 (is.fresh fresh).1 res
        (sym (ap next_reservation history_is) ∙ wants)
        (subst (λ (h : List HistoryEvent). FitsBehind size (tail_of h) res) history_is fits)))

    by_state : (state : Progress)
        → frame.state ≡ state
        → AreOpenFrames below others rest p.finishing
        → x.event ≡ event_on_top c.frames payloads
        → MadeEvents
    by_state waiting at more e =
        let step2 = as_event (frame ∷ below) steps on_top e (ap (λ (s : Progress). event_in s payloads) at) in
        by_does (top_makes n size (length c.frames - 1) c frame below
        (deep frame below on_top) p.window.head own_window top rest others p.finishing is.not_left more after
        (steps_make n size start c frame below x.answer after r on_top (inl at) step2)
        (room_in n size start c steps x.answer after r step2))
    by_state (reserved number) at more e =
        let step2 =
        as_event (frame ∷ below) (ends (padded top.payload)) on_top e (λ i. event_in (at i) (is.payloads_are i)) in
        let after_is =
        ends_make n size c frame below number (padded top.payload) x.answer after on_top at (cases_of step2) in
        by_does (subst (Does n size (length c.frames - 1) c frame (top.payload ∷ others) _)
        (sym (ap writer_of after_is))
        (top_leaves n size (length c.frames - 1) c frame below
        (deep frame below on_top) p.window.head own_window top rest others p.finishing is.not_left more
        (Some (padded top.payload)) refl
        (λ waits idles res wants fits. absurd (let both : reserved number ≡ waiting = sym at ∙ waits in cc))))
    by_state left at more e = absurd (is.not_left at)

  by_frames : (frames : List Frame)
      → c.frames ≡ frames
      → c.frames ≢ []
      → AreOpenFrames frames payloads p.frames p.finishing
      → x.event ≡ event_on_top c.frames payloads
      → MadeEvents
  by_frames [] top some st e = absurd (some top)
  by_frames (frame ∷ below) top some (inl last) e = by_last frame below top last e
  by_frames (frame ∷ below) top some (inr (t, rest, others, is, more)) e =
      by_state frame below top t rest others is frame.state refl more e

pub calls_make_events : CallsMakeEvents
calls_make_events n size start s x t payloads p call some e agrees =
    subst (λ (v : LineWriting). MakesEvents n size s v payloads p) call.after_is
    (subst (λ (v : LineWriting). MakesEvents n size v (writer_of call.next) payloads p) call.before_is
    (let here : Agrees n p payloads (writer_of call.core) = subst (Agrees n p payloads) (sym call.before_is) agrees in
    by_frames n size start call.core x call.next
    (reached_kept n size start call.core call.reached) call.step payloads p here call.core.frames refl
    (subst (λ (v : LineWriting). v.frames ≢ []) (sym call.before_is) some) here.frames
    (subst (λ (v : LineWriting). x.event ≡ event_on_top v.frames payloads) (sym call.before_is) e)))
