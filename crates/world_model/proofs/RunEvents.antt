-- Every run of a ring has events, step by step, and together they determine the state that it leads to.
use Rattle.std.proofs.Common.{◌≡◌, ℕ, ◌+◌, ◌<◌, ◌≤◌, List, [], ◌∷◌, ◌++◌, length, refl, sym, ap, ◌∙◌, subst, ⊎_elim}
use Rattle.std.proofs.Common.{arith, append_assoc, append-nil}
use Rattle.std.specs.Prelude.{Contains}
use Rattle.std.proofs.lemmas.List.{length-append}
use Rattle.trace_model.specs.History.{HistoryEvent}
use Rattle.trace_model.specs.Window.{RingEvent, history_events_of, Window, first_window, WindowRunFrom}
use Rattle.trace_model.specs.Ring.{Reader, Core, IsStart, window_of}
use Rattle.trace_model.specs.Steps.{Exchange, Run}
use Rattle.trace_model.proofs.steps.StepSound.{cases_of}
use Rattle.ring_model.specs.RingKept.{IsRingKept}
use Rattle.ring_model.specs.RunsAsEvents.{fills_taken, numbers_of, AreEventsOfRun}
use Rattle.ring_model.proofs.partition.RingsKept.{ring_step}
use Rattle.ring_model.proofs.histories.StepsAsEvents.{leads_step}
use Rattle.ring_model.proofs.histories.WindowRuns.{has_none, passed_by, lost_closed, history_events-append, run-append}
use Rattle.ring_model.proofs.histories.WindowRuns.{taken-append}
use Rattle.world_model.specs.RunEvents.{AreEventsOf, AreEventsOfSteps}

-- each step has its events
pub run_events : (n size start : ℕ) (c after : Core) (exchanges : List Exchange) → IsRingKept n size start c
    → Run n size c exchanges after → (events : List RingEvent) × AreEventsOfSteps n size c exchanges events after
run_events n size start c after [] r run = ([], (run, refl))
run_events n size start c after (x ∷ exchanges) r (between, step, run) =
    let l = leads_step n size start c x.event x.answer between r.links r.stack r.history (cases_of step) in
    let (rest, more) =
    run_events n size start between after exchanges (ring_step n size start c x.event x.answer between r step)
    run in (
      l.events ++ rest,
      (
        between,
        step,
        l.events,
        record { history_events = l.history_events; window = l.window; took = l.took },
        rest,
        refl,
        more,
      ),
    )

-- events, and the events from there on
events_on : (n : ℕ) (c between after : Core) (own rest : List RingEvent) → AreEventsOf n c own between
    → AreEventsOf n between rest after → AreEventsOf n c (own ++ rest) after
events_on n c between after own rest x y = record {
  history_events =
      y.history_events ∙ ap (λ (h : List HistoryEvent). h ++ history_events_of rest) x.history_events
      ∙ append_assoc c.history (history_events_of own) (history_events_of rest)
      ∙ ap (λ (h : List HistoryEvent). c.history ++ h) (sym (history_events-append own rest));
  window =
      run-append n c.history (window_of c) (window_of between) (window_of after) own rest x.window
      (subst (λ (h : List HistoryEvent). WindowRunFrom n h (window_of between) rest (window_of after))
      x.history_events y.window);
  took =
      y.took ∙ ap (λ (l : List ℕ). l ++ fills_taken between.head rest) x.took
      ∙ append_assoc (numbers_of c.reader.taken) (fills_taken c.head own) (fills_taken between.head rest)
      ∙ ap (λ (l : List ℕ). numbers_of c.reader.taken ++ l)
      (sym (taken-append n c.history (window_of c) (window_of between) own rest x.window));
}

no_events : (n : ℕ) (c : Core) → AreEventsOf n c [] c
no_events n c =
    record {
      history_events = sym (append-nil c.history);
      window = refl;
      took = sym (append-nil (numbers_of c.reader.taken));
    }

-- those of all steps are those of the run
pub run_has : (n size : ℕ) (c after : Core) (exchanges : List Exchange) (events : List RingEvent)
    → AreEventsOfSteps n size c exchanges events after → AreEventsOf n c events after
run_has n size c after [] events (same, none) =
    subst (λ (ds : List RingEvent). AreEventsOf n c ds after) (sym none)
    (subst (AreEventsOf n c []) same (no_events n c))
run_has n size c after (x ∷ exchanges) events (between, step, own, here, rest, all, more) =
    subst (λ (ds : List RingEvent). AreEventsOf n c ds after) (sym all)
    (events_on n c between after own rest here (run_has n size between after exchanges rest more))

pub run_reports : (n size start : ℕ) (from c : Core) (exchanges : List Exchange) (events : List RingEvent)
    → IsStart n start from → AreEventsOfSteps n size from exchanges events c → AreEventsOfRun n start c events
run_reports n size start from c exchanges events s run = let d = run_has n size from c exchanges events run in
    let new : window_of from ≡ first_window start =
    λ i. record { head = s.head i; done = s.done i; opened = s.opened i } in
    let none : numbers_of from.reader.taken ≡ [] = ap (λ (r : Reader). numbers_of r.taken) s.reader in record {
      history_events = sym (d.history_events ∙ ap (λ (h : List HistoryEvent). h ++ history_events_of events) s.history);
      window =
          subst (λ (w : Window). WindowRunFrom n [] w events (window_of c)) new
          (subst (λ (h : List HistoryEvent). WindowRunFrom n h (window_of from) events (window_of c)) s.history
          d.window);
      took =
          sym
          (d.took ∙ ap (λ (l : List ℕ). l ++ fills_taken from.head events) none
          ∙ ap (λ (h : ℕ). fills_taken h events) s.head);
    }

-- ---- what passes the head without a take

none_more : (xs ys zs : List ℕ) → xs ≡ ys ++ zs → xs ≡ ys → zs ≡ []
none_more xs ys [] all same = refl
none_more xs ys (z ∷ zs) all same = let sum = length-append ys (z ∷ zs) in
    let one = ap (λ (l : List ℕ). length l) all in
    let two = ap (λ (l : List ℕ). length l) same in
    absurd (omega arith)

pub lost_in_full : (n : ℕ) (before after : Core) (events : List RingEvent) → AreEventsOf n before events after
    → after.reader.taken ≡ before.reader.taken → before.head < after.head
    → (before.head < after.done) × (before.head + n ≤ after.opened)
lost_in_full n before after events d same passed =
    let none =
    none_more (numbers_of after.reader.taken) (numbers_of before.reader.taken) (fills_taken before.head events)
    d.took (ap numbers_of same) in
    let lost =
    ⊎_elim (λ taken. has_none before.head (subst (λ (l : List ℕ). Contains l before.head) none taken))
    (λ lost. lost)
    (passed_by n before.history (window_of before) (window_of after) events before.head d.window (omega arith)
    passed) in
    let (low, high, closed, round) =
    lost_closed n before.history (window_of before) (window_of after) events before.head d.window lost in
    (closed, round)
