-- The events of a ring and its situation: how each event moves it, and events that are due one after the other.
use Rattle.std.proofs.Common.{◌≡◌, ℕ, List, [], ◌∷◌, ◌++◌, refl, sym, ap, ◌∙◌, subst, append_assoc, append-nil}
use Rattle.std.specs.Prelude.{⊤, fold}
use Rattle.std.proofs.lemmas.List.Sums.{fold-append}
use Rattle.trace_model.specs.History.{HistoryEvent, push, push_close, open_fill, reserve, leave, wished}
use Rattle.trace_model.specs.Window.{Window, first_window, closes, takes, loses, window_after, RingEvent, acts}
use Rattle.trace_model.specs.Window.{history_events_of, WindowRunFrom}
use Rattle.trace_model.specs.Ring.{Core, window_of}
use Rattle.text_model.specs.Script.{Script}
use Rattle.ring_model.specs.RunsAsEvents.{fills_taken, AreEventsOfRun}
use Rattle.ring_model.proofs.histories.WindowRuns.{history_events-append, run-append, taken-append}
use Rattle.world_model.specs.RunEvents.{AreEventsOf}
use Rattle.line_model.specs.Due.{Situation, situation_after, IsDue}
use Rattle.line_model.proofs.Standing.{AreDue}

-- ---- the window

act_moves : (w : Window) (a : HistoryEvent) → window_after w (acts a) ≡ window_after w (acts a)
act_moves w (push moment len) = refl
act_moves w push_close = refl
act_moves w open_fill = refl
act_moves w reserve = refl
act_moves w (leave payload) = refl
act_moves w wished = refl

-- a run leads to the window of its events
pub run_leads : (n : ℕ) (h : List HistoryEvent) (w after : Window) (events : List RingEvent)
    → WindowRunFrom n h w events after
    → fold window_after w events ≡ after
run_leads n h w after [] run = run
run_leads n h w after (acts a ∷ events) run =
    subst (λ (v : Window). fold window_after v events ≡ after) (act_moves w a)
    (run_leads n (h ++ a ∷ []) (window_after w (acts a)) after events run.1)
run_leads n h w after (closes ∷ events) run = run_leads n h (window_after w closes) after events run.1
run_leads n h w after (takes ∷ events) run = run_leads n h (window_after w takes) after events run.1
run_leads n h w after (loses ∷ events) run = run_leads n h (window_after w loses) after events run.1

-- ---- the situation

-- the situation of a ring
abbrev pub situation_of : Script → Core → Situation
situation_of script c = record {
  pages = script.pages;
  size = script.size;
  history = c.history;
  window = window_of c;
  wish = c.wish;
}

-- the situation after one event more
abbrev pub situation_moved : Situation → RingEvent → Situation
situation_moved s event = record s {
  history = s.history ++ history_events_of (event ∷ []);
  window = window_after s.window event;
}

pub situation_next : (script : Script) (asked : ℕ) (events : List RingEvent) (event : RingEvent)
    → situation_after script asked (events ++ event ∷ []) ≡ situation_moved (situation_after script asked events) event
situation_next script asked events event =
    let h = history_events-append events (event ∷ []) in
    let w = fold-append window_after (first_window script.start) events (event ∷ []) in
    λ i. record { pages = script.pages; size = script.size; history = h i; window = w i; wish = asked }

-- the situation of a ring is that after its events
pub situation_is : (script : Script) (asked : ℕ) (c : Core) (events : List RingEvent)
    → AreEventsOfRun script.pages script.start c events
    → asked ≡ c.wish
    → situation_after script asked events ≡ situation_of script c
situation_is script asked c events run wish =
    let h = run.history_events in
    let w = run_leads script.pages [] (first_window script.start) (window_of c) events run.window in
    λ i. record { pages = script.pages; size = script.size; history = h i; window = w i; wish = wish i }

-- ---- more events of a run

pub run_on : (n start : ℕ) (c after : Core) (events own : List RingEvent)
    → AreEventsOfRun n start c events
    → AreEventsOf n c own after
    → AreEventsOfRun n start after (events ++ own)
run_on n start c after events own run are = record {
  history_events = history_events-append events own
      ∙ ap (λ (h : List HistoryEvent). h ++ history_events_of own) run.history_events
      ∙ sym are.history_events;
  window = run-append n [] (first_window start) (window_of c) (window_of after) events own run.window
      (subst (λ (h : List HistoryEvent). WindowRunFrom n h (window_of c) own (window_of after))
      (sym run.history_events) are.window);
  took = taken-append n [] (first_window start) (window_of c) events own run.window
      ∙ ap (λ (l : List ℕ). l ++ fills_taken c.head own) run.took
      ∙ sym are.took;
}

-- ---- events that are due, one after the other

-- the first one is due, and each other one after those before it
abbrev pub DueFrom : Script → (asked : ℕ) → (before own : List RingEvent) → Type 0
DueFrom script asked before [] = ⊤
DueFrom script asked before (event ∷ own) =
    IsDue (situation_after script asked before) event × DueFrom script asked (before ++ event ∷ []) own

module _ (script : Script) (asked : ℕ) where
  pub due_append : (before own more : List RingEvent)
      → DueFrom script asked before own
      → DueFrom script asked (before ++ own) more
      → DueFrom script asked before (own ++ more)
  due_append before [] more due rest =
      subst (λ (l : List RingEvent). DueFrom script asked l more) (append-nil before) rest
  due_append before (event ∷ own) more due rest = (
    due.0,
    due_append (before ++ event ∷ []) own more due.1
        (subst (λ (l : List RingEvent). DueFrom script asked l more) (sym (append_assoc before (event ∷ []) own)) rest),
  )

  abbrev first_of : RingEvent → List RingEvent → RingEvent
  first_of other [] = other
  first_of other (event ∷ events) = event

  abbrev rest_of : List RingEvent → List RingEvent
  rest_of [] = []
  rest_of (event ∷ events) = events

  pub are_due : (before own : List RingEvent) → DueFrom script asked before own → AreDue script asked before own
  are_due before [] due [] rest event is = absurd (let no : ⊥ = cc in no)
  are_due before [] due (first ∷ front) rest event is = absurd (let no : ⊥ = cc in no)
  are_due before (first ∷ own) due [] rest event is =
      subst (λ (l : List RingEvent). IsDue (situation_after script asked l) event) (sym (append-nil before))
      (subst (IsDue (situation_after script asked before)) (ap (first_of first) is) due.0)
  are_due before (first ∷ own) due (other ∷ front) rest event is =
      subst (λ (l : List RingEvent). IsDue (situation_after script asked l) event)
      (append_assoc before (first ∷ []) front ∙ ap (λ (x : RingEvent). before ++ x ∷ front) (ap (first_of first) is))
      (are_due (before ++ first ∷ []) own due.1 front rest event (ap rest_of is))

  -- events that are due at their places are due one after the other
  pub all_due : (before own : List RingEvent) → AreDue script asked before own → DueFrom script asked before own
  all_due before [] due = tt
  all_due before (event ∷ own) due = (
    subst (λ (l : List RingEvent). IsDue (situation_after script asked l) event) (append-nil before)
        (due [] own event refl),
    all_due (before ++ event ∷ []) own (λ front rest later is.
        subst (λ (l : List RingEvent). IsDue (situation_after script asked l) later)
        (sym (append_assoc before (event ∷ []) front))
        (due (event ∷ front) rest later (ap (λ (l : List RingEvent). event ∷ l) is))),
  )
