-- Every run of a ring is a run of its window: each step is described by events.
use Rattle.std.proofs.Common.{◌≡◌, ℕ, ◌+◌, ◌<◌, ◌≤◌, List, [], ◌∷◌, ◌++◌, None, Some, refl, sym, ap, ◌∙◌, subst, arith}
use Rattle.std.proofs.Common.{append_assoc, append-nil}
use Rattle.trace_model.specs.History.{HistoryEvent, push, push_close, open_fill, reserve, leave, wished}
use Rattle.trace_model.proofs.histories.NextEvent.{settled_at_rest}
use Rattle.trace_model.specs.Frames.{Purpose, for_record, for_close, Progress, waiting, reserved, left, Phase, idle}
use Rattle.trace_model.specs.Frames.{looking, claiming, looking_next, marking, clearing, opening, releasing, wishing}
use Rattle.trace_model.specs.Frames.{Frame}
use Rattle.trace_model.specs.Window.{first_window, closes, window_after, RingEvent, acts, takes, loses}
use Rattle.trace_model.specs.Window.{history_events_of, MayMove, WindowRunFrom}
use Rattle.trace_model.specs.Ring.{ReaderPhase, loading_head, loading_done, storing_spare_link, swapping, Reader, Core}
use Rattle.trace_model.specs.Ring.{IsStart, window_of}
use Rattle.trace_model.specs.Steps.{Event, Answer, with_new_tail, after_begin, taken_fill, Exchange, Run}
use Rattle.trace_model.proofs.steps.StepCases.{StepCases, BeginsAgain, reserves, finds_nothing, is_crowded, is_worn}
use Rattle.trace_model.proofs.steps.StepCases.{notes, IdleStep, load_link_late, sees_free, sees_header, sees_update}
use Rattle.trace_model.proofs.steps.StepCases.{claim_late, claims, claim_fails, load_next_late, sees_normal, sees_other}
use Rattle.trace_model.proofs.steps.StepCases.{mark_late, marks, mark_fails, clears, open_late, opens, releases}
use Rattle.trace_model.proofs.steps.StepCases.{releases_last, grants, closes_more, goes_away, FrameStep, push_step}
use Rattle.trace_model.proofs.steps.StepCases.{push_refused, close_step, close_refused, frame_step, frame_lacks}
use Rattle.trace_model.proofs.steps.StepCases.{end_step, end_lacks, end_early, read_step, store_wish_step, loads_header}
use Rattle.trace_model.proofs.steps.StepCases.{loads_update, loads_owed, loads_passed, finds_none, finds_closed, swaps}
use Rattle.trace_model.proofs.steps.StepCases.{swap_fails, ReadStep}
use Rattle.trace_model.proofs.steps.StepSound.{cases_of}
use Rattle.ring_model.specs.KeptLinks.{PhaseKept, ReaderKept, LinksKept}
use Rattle.ring_model.specs.KeptStack.{StackKept}
use Rattle.ring_model.specs.KeptHistory.{HistoryKept}
use Rattle.ring_model.specs.RingKept.{IsRingKept}
use Rattle.ring_model.specs.Reached.{IsReached}
use Rattle.ring_model.specs.RunsAsEvents.{fills_taken, numbers_of, AreEventsOfRun}
use Rattle.ring_model.proofs.links.LinkFills.{header_inside, header_reports, fill_at}
use Rattle.ring_model.proofs.links.FrameChanges.{top_kept}
use Rattle.ring_model.proofs.histories.HistorySteps.{rest_releasing}
use Rattle.ring_model.proofs.histories.WindowRuns.{run_rises, run-append, taken-append, history_events-append}
use Rattle.ring_model.proofs.histories.WindowRuns.{numbers-push}
use Rattle.ring_model.proofs.partition.RingsKept.{ring_start, ring_step}

-- the events lead from one state to another
pub record Leads (n : ℕ) (c after : Core) : Type 0 where
  pub events : List RingEvent
  pub history_events : after.history ≡ c.history ++ history_events_of events
  pub window : WindowRunFrom n c.history (window_of c) events (window_of after)
  pub took : numbers_of after.reader.taken ≡ numbers_of c.reader.taken ++ fills_taken c.head events

-- no event
no_event : (n : ℕ) (c after : Core) → after.history ≡ c.history → window_of after ≡ window_of c
    → numbers_of after.reader.taken ≡ numbers_of c.reader.taken → Leads n c after
no_event n c after h w t =
    record {
      events = [];
      history_events = h ∙ sym (append-nil c.history);
      window = sym w;
      took = t ∙ sym (append-nil (numbers_of c.reader.taken));
    }

-- a history event of a frame, and what happens with it
does : (n : ℕ) (c after : Core) (a : HistoryEvent) → MayMove n c.history (window_of c) (acts a)
    → after.history ≡ c.history ++ a ∷ [] → window_of after ≡ window_after (window_of c) (acts a)
    → numbers_of after.reader.taken ≡ numbers_of c.reader.taken → Leads n c after
does n c after a may h w t =
    record {
      events = acts a ∷ [];
      history_events = h;
      window = (may, sym w);
      took = t ∙ sym (append-nil (numbers_of c.reader.taken));
    }

leads_again : (n : ℕ) (c : Core) (frame : Frame) (below : List Frame) (kind : Purpose) (state : Progress)
    → Leads n c (after_begin kind state c frame below)
leads_again n c frame below (for_record moment len) waiting = no_event n c _ refl refl refl
leads_again n c frame below for_close waiting = does n c _ (leave None) tt refl refl refl
leads_again n c frame below kind (reserved number) = no_event n c _ refl refl refl
leads_again n c frame below kind left = no_event n c _ refl refl refl

again : (n : ℕ) (c : Core) (frame : Frame) (below : List Frame) (noted : ℕ) (answer : Answer) (after : Core)
    → BeginsAgain c frame below noted answer after → Leads n c after
again n c frame below noted answer after step =
    subst (Leads n c) (sym step.after_is) (leads_again n c frame below frame.kind frame.state)

leads_begun : (n : ℕ) (c : Core) (frame : Frame) (below : List Frame) (page : ℕ) (kind : Purpose) (state : Progress)
    → c.opened < c.head + n → Leads n c (after_begin kind state (with_new_tail c page) frame below)
leads_begun n c frame below page (for_record moment len) waiting room = does n c _ open_fill room refl refl refl
leads_begun n c frame below page for_close waiting room = record {
  events = acts open_fill ∷ acts (leave None) ∷ [];
  history_events = append_assoc c.history (open_fill ∷ []) (leave None ∷ []);
  window = (room, (tt, refl));
  took = sym (append-nil (numbers_of c.reader.taken));
}
leads_begun n c frame below page kind (reserved number) room = does n c _ open_fill room refl refl refl
leads_begun n c frame below page kind left room = does n c _ open_fill room refl refl refl

module _ (n size start : ℕ) (c : Core) (frame : Frame) (below : List Frame) (k : LinksKept n c) (s : StackKept c)
    (h : HistoryKept n start c) (top : c.frames ≡ frame ∷ below) where
  leads_idle : (state : Progress) (answer : Answer) (after : Core) → IdleStep n size c frame below state answer after
      → Leads n c after
  leads_idle waiting answer after (reserves moment len r kind r_is fits a is) =
      subst (Leads n c) (sym is) (does n c _ reserve tt refl refl refl)
  leads_idle waiting answer after (finds_nothing kind none a is) =
      subst (Leads n c) (sym is) (does n c _ (leave None) tt refl refl refl)
  leads_idle waiting answer after (is_crowded needs full a is) =
      subst (Leads n c) (sym is) (does n c _ (leave None) tt refl refl refl)
  leads_idle waiting answer after (is_worn needs full last a is) =
      subst (Leads n c) (sym is) (does n c _ (leave None) tt refl refl refl)
  leads_idle waiting answer after (notes needs room small a is) =
      subst (Leads n c) (sym is) (no_event n c _ refl refl refl)
  leads_idle (reserved number) answer after step = subst (Leads n c) (sym step.1) (no_event n c c refl refl refl)
  leads_idle left answer after step = absurd step

  -- the oldest fill that isn't closed is closed
  leads_closed : (answer : Answer) (after : Core) → frame.phase ≡ releasing → c.done + 1 < c.opened
      → after.history ≡ c.history → window_of after ≡ window_after (window_of c) closes
      → numbers_of after.reader.taken ≡ numbers_of c.reader.taken → Leads n c after
  leads_closed answer after same more h' w t = record {
    events = closes ∷ [];
    history_events = h' ∙ sym (append-nil c.history);
    window = ((more, settled_at_rest c.history (rest_releasing n size start c frame below k s h top same)), sym w);
    took = t ∙ sym (append-nil (numbers_of c.reader.taken));
  }

  leads_frame : (phase : Phase) (answer : Answer) (after : Core) → frame.phase ≡ phase
      → FrameStep n size c frame below phase answer after → Leads n c after
  leads_frame idle answer after same step = leads_idle frame.state answer after step
  leads_frame (looking noted) answer after same (load_link_late step) = again n c frame below noted answer after step
  leads_frame (looking noted) answer after same (sees_free page now at a is) =
      subst (Leads n c) (sym is) (no_event n c _ refl refl refl)
  leads_frame (looking noted) answer after same (sees_header page lost now sum at a is) =
      subst (Leads n c) (sym is) (no_event n c _ refl refl refl)
  leads_frame (looking noted) answer after same (sees_update page lost now sum at a is) =
      subst (Leads n c) (sym is) (no_event n c _ refl refl refl)
  leads_frame (claiming noted page) answer after same (claim_late step) = again n c frame below noted answer after step
  leads_frame (claiming noted page) answer after same (claims lost now sum at a is) =
      let (open_yet, begun_yet, room, small) =
      (subst (PhaseKept n c.links c.order c.head c.done c.opened) same (top_kept n c frame below k top)).noted noted
      refl in
      let unread = k.head_le in let within = k.opened_le in
      let (here, page_is, head_at) = header_inside n c k noted page lost (omega arith) (omega arith) sum at in
      subst (Leads n c) (sym is)
      record {
        events = loses ∷ [];
        history_events = sym (append-nil c.history);
        window = ((omega arith, omega arith), refl);
        took = sym (append-nil (numbers_of c.reader.taken));
      }
  leads_frame (claiming noted page) answer after same (claim_fails now other a is) =
      subst (Leads n c) (sym is) (no_event n c _ refl refl refl)
  leads_frame (looking_next role noted page) answer after same (load_next_late helps step) =
      again n c frame below noted answer after step
  leads_frame (looking_next role noted page) answer after same (sees_normal lost next goes_on sum at a is) =
      subst (Leads n c) (sym is) (no_event n c _ refl refl refl)
  leads_frame (looking_next role noted page) answer after same (sees_other lost goes_on sum other a is) =
      subst (Leads n c) (sym is) (no_event n c _ refl refl refl)
  leads_frame (marking role noted page next) answer after same (mark_late helps step) =
      again n c frame below noted answer after step
  leads_frame (marking role noted page next) answer after same (marks lost goes_on sum at a is) =
      subst (Leads n c) (sym is) (no_event n c _ refl refl refl)
  leads_frame (marking role noted page next) answer after same (mark_fails lost goes_on sum other a is) =
      subst (Leads n c) (sym is) (no_event n c _ refl refl refl)
  leads_frame (clearing noted page) answer after same (clears lost sum at a is) =
      subst (Leads n c) (sym is) (no_event n c _ refl refl refl)
  leads_frame (opening noted page) answer after same (open_late step) = again n c frame below noted answer after step
  leads_frame (opening noted page) answer after same (opens now a is) =
      let (open_yet, inside, page_is) =
      (subst (PhaseKept n c.links c.order c.head c.done c.opened) same (top_kept n c frame below k top)).passed
      noted page refl in
      subst (Leads n c) (sym is) (leads_begun n c frame below page frame.kind frame.state (omega arith))
  leads_frame releasing answer after same (releases alone more a is) =
      subst (Leads n c) (sym is) (leads_closed answer _ same (omega arith) refl refl refl)
  leads_frame releasing answer after same (releases_last alone last a is) =
      subst (Leads n c) (sym is) (leads_closed answer _ same (omega arith) refl refl refl)
  leads_frame wishing answer after same (grants alone granted a is) =
      subst (Leads n c) (sym is) (does n c _ wished tt refl refl refl)
  leads_frame wishing answer after same (closes_more alone not_granted more a is) =
      subst (Leads n c) (sym is) (no_event n c _ refl refl refl)
  leads_frame wishing answer after same (goes_away alone not_granted last a is) =
      subst (Leads n c) (sym is) (no_event n c _ refl refl refl)

leads_read : (n : ℕ) (c : Core) (phase : ReaderPhase) (answer : Answer) (after : Core) → LinksKept n c
    → ReaderKept n c.links c.order c.spare_link c.head c.done c.reader.hint phase → ReadStep n c phase answer after
    → Leads n c after
leads_read n c loading_head answer after k facts (loads_header page fill at a is) =
    subst (Leads n c) (sym is) (no_event n c _ refl refl refl)
leads_read n c loading_head answer after k facts (loads_update page lost at a is) =
    subst (Leads n c) (sym is) (no_event n c _ refl refl refl)
leads_read n c loading_head answer after k facts (loads_owed page at a is) =
    subst (Leads n c) (sym is) (no_event n c _ refl refl refl)
leads_read n c loading_head answer after k facts (loads_passed page fill least at more sum a is) =
    subst (Leads n c) (sym is) (no_event n c _ refl refl refl)
leads_read n c (loading_done page fill) answer after k facts (finds_none le a is) =
    subst (Leads n c) (sym is) (no_event n c _ refl refl refl)
leads_read n c (loading_done page fill) answer after k facts (finds_closed below a is) =
    subst (Leads n c) (sym is) (no_event n c _ refl refl refl)
leads_read n c (storing_spare_link page fill) answer after k facts step =
    subst (Leads n c) (sym step.after_is) (no_event n c _ refl refl refl)
leads_read n c (swapping page fill) answer after k facts (swaps at a is) =
    let (g, low_g, high_g, same, link) = fill_at n c k fill in
    let reported = header_reports n c.links c.order c.head c.frames g page fill link (same ∙ at) in
    let here : fill ≡ c.head = reported.0 ∙ reported.1 in let closed = facts.1 in
    subst (Leads n c) (sym is) record {
      events = takes ∷ [];
      history_events = sym (append-nil c.history);
      window = (omega arith, refl);
      took =
          numbers-push c.reader.taken (taken_fill c page fill)
          ∙ ap (λ (f : ℕ). numbers_of c.reader.taken ++ f ∷ []) here;
    }
leads_read n c (swapping page fill) answer after k facts (swap_fails at a is) =
    subst (Leads n c) (sym is) (no_event n c _ refl refl refl)

pub leads_step : (n size start : ℕ) (c : Core) (event : Event) (answer : Answer) (after : Core) → LinksKept n c
    → StackKept c → HistoryKept n start c → StepCases n size c event answer after → Leads n c after
leads_step n size start c event answer after k s h (push_step moment len e few fits early a is) =
    subst (Leads n c) (sym is) (does n c _ (push moment len) tt refl refl refl)
leads_step n size start c event answer after k s h (push_refused moment len why e refused a is) =
    subst (Leads n c) (sym is) (no_event n c c refl refl refl)
leads_step n size start c event answer after k s h (close_step e few a is) =
    subst (Leads n c) (sym is) (does n c _ push_close tt refl refl refl)
leads_step n size start c event answer after k s h (close_refused e many a is) =
    subst (Leads n c) (sym is) (no_event n c c refl refl refl)
leads_step n size start c event answer after k s h (frame_step frame below e top step) =
    leads_frame n size start c frame below k s h top frame.phase answer after refl step
leads_step n size start c event answer after k s h (frame_lacks e none a is) =
    subst (Leads n c) (sym is) (no_event n c c refl refl refl)
leads_step n size start c event answer after k s h
    (end_step payload frame below number moment len e top state kind slot a is) =
    subst (Leads n c) (sym is) (does n c _ (leave (Some payload)) tt refl refl refl)
leads_step n size start c event answer after k s h (end_lacks payload e none a is) =
    subst (Leads n c) (sym is) (no_event n c c refl refl refl)
leads_step n size start c event answer after k s h (end_early payload frame below e top none a is) =
    subst (Leads n c) (sym is) (no_event n c c refl refl refl)
leads_step n size start c event answer after k s h (read_step e step) =
    leads_read n c c.reader.phase answer after k k.reader step
leads_step n size start c event answer after k s h (store_wish_step e a is) =
    subst (Leads n c) (sym is) (no_event n c _ refl refl refl)

-- ---- runs

leads_on : (n : ℕ) (c between after : Core) → Leads n c between → Leads n between after → Leads n c after
leads_on n c between after x y = record {
  events = x.events ++ y.events;
  history_events =
      y.history_events ∙ ap (λ (h : List HistoryEvent). h ++ history_events_of y.events) x.history_events
      ∙ append_assoc c.history (history_events_of x.events) (history_events_of y.events)
      ∙ ap (λ (h : List HistoryEvent). c.history ++ h) (sym (history_events-append x.events y.events));
  window =
      run-append n c.history (window_of c) (window_of between) (window_of after) x.events y.events x.window
      (subst (λ (h : List HistoryEvent). WindowRunFrom n h (window_of between) y.events (window_of after))
      x.history_events y.window);
  took =
      y.took ∙ ap (λ (l : List ℕ). l ++ fills_taken between.head y.events) x.took
      ∙ append_assoc (numbers_of c.reader.taken) (fills_taken c.head x.events) (fills_taken between.head y.events)
      ∙ ap (λ (l : List ℕ). numbers_of c.reader.taken ++ l)
      (sym (taken-append n c.history (window_of c) (window_of between) x.events y.events x.window));
}

pub leads_run : (n size start : ℕ) (c after : Core) (exchanges : List Exchange) → IsRingKept n size start c
    → Run n size c exchanges after → Leads n c after
leads_run n size start c after [] r run = subst (Leads n c) run (no_event n c c refl refl refl)
leads_run n size start c after (x ∷ exchanges) r (between, step, run) =
    leads_on n c between after
    (leads_step n size start c x.event x.answer between r.links r.stack r.history (cases_of step))
    (leads_run n size start between after exchanges (ring_step n size start c x.event x.answer between r step) run)

-- events that describe a state, and those that lead on from there, describe the later one
reported_on : (n start : ℕ) (c after : Core) (events : List RingEvent) → AreEventsOfRun n start c events
    → (x : Leads n c after) → AreEventsOfRun n start after (events ++ x.events)
reported_on n start c after events t x = record {
  history_events =
      history_events-append events x.events
      ∙ ap (λ (h : List HistoryEvent). h ++ history_events_of x.events) t.history_events ∙ sym x.history_events;
  window =
      run-append n [] (first_window start) (window_of c) (window_of after) events x.events t.window
      (subst (λ (h : List HistoryEvent). WindowRunFrom n h (window_of c) x.events (window_of after))
      (sym t.history_events) x.window);
  took =
      taken-append n [] (first_window start) (window_of c) events x.events t.window
      ∙ ap (λ (l : List ℕ). l ++ fills_taken c.head x.events) t.took ∙ sym x.took;
}

-- the events of a longer run go on from those of a shorter one
pub run_extends : (n size start : ℕ) (c after : Core) (exchanges : List Exchange) (events : List RingEvent)
    → IsRingKept n size start c → AreEventsOfRun n start c events → Run n size c exchanges after
    → (more : List RingEvent) × AreEventsOfRun n start after (events ++ more)
run_extends n size start c after exchanges events r reported run =
    let x =
    leads_run n size start c after exchanges r run in
    (x.events, reported_on n start c after events reported x)

-- a new ring is described by no events
start_reported : (n start : ℕ) (c : Core) → IsStart n start c → AreEventsOfRun n start c []
start_reported n start c s = record {
  history_events = sym s.history;
  window = λ i. record { head = (sym s.head) i; done = (sym s.done) i; opened = (sym s.opened) i };
  took = ap (λ (r : Reader). numbers_of r.taken) (sym s.reader);
}

pub run_reported : (n size start : ℕ) (c : Core) → IsReached n size start c
    → (events : List RingEvent) × AreEventsOfRun n start c events
run_reported n size start c r =
    run_extends n size start r.from c r.exchanges [] (ring_start n size start r.from r.may_start r.is_new)
    (start_reported n start r.from r.is_new) r.run

pub counts_rise : (n size start : ℕ) (c after : Core) (exchanges : List Exchange) → IsRingKept n size start c
    → Run n size c exchanges after → (c.head ≤ after.head) × (c.done ≤ after.done) × (c.opened ≤ after.opened)
counts_rise n size start c after exchanges r run = let x = leads_run n size start c after exchanges r run in
    let k = run_rises n c.history (window_of c) (window_of after) x.events x.window in (k.head, k.done, k.opened)
