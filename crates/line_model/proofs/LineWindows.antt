-- What the lines of a writer do is a run of the window, from the start, and its history events are the history.
use Rattle.std.proofs.Common.{◌≡◌, ℕ, zero, suc, List, [], ◌∷◌, ◌++◌, sym, ap, ◌∙◌, subst, refl, append_assoc}
use Rattle.std.proofs.Common.{append-nil}
use Rattle.trace_model.specs.History.{HistoryEvent, push_close}
use Rattle.trace_model.specs.Window.{Window, RingEvent, acts, closes, takes, loses, history_events_of, window_after}
use Rattle.trace_model.specs.Window.{WindowRunFrom, WindowRun}
use Rattle.text_model.specs.Script.{Command, begin_frame, step_frame, finish_frame, write, close, step_reader}
use Rattle.text_model.specs.Script.{take_page, wish, deliver}
use Rattle.ring_model.proofs.histories.WindowRuns.{history_events-append, run-append}
use Rattle.line_model.specs.Lines.{LineState, first_state, state_after, state_moved, IsQuiet, IsPush, TopRun, MayGo}
use Rattle.line_model.specs.Lines.{stays_on, goes, TopPart, BeginPart, begins, begins_none, WholePart, writes}
use Rattle.line_model.specs.Lines.{writes_none, LinePart, LineParts, FinishParts, IsMadeByLines}

-- events that lead from one state to another, as the window and the history say
pub record Leads (n : ℕ) (before : LineState) (events : List RingEvent) (after : LineState) : Type 0 where
  pub window : WindowRunFrom n before.history before.window events after.window
  pub history : after.history ≡ before.history ++ history_events_of events

leads_none : (n : ℕ) (p : LineState) → Leads n p [] p
leads_none n p = record { window = refl; history = sym (append-nil p.history) }

pub leads_joined : (n : ℕ) (before between after : LineState) (xs ys : List RingEvent)
    → Leads n before xs between
    → Leads n between ys after
    → Leads n before (xs ++ ys) after
leads_joined n before between after xs ys one two = record {
  window = run-append n before.history before.window between.window after.window xs ys one.window
      (subst (λ (l : List HistoryEvent). WindowRunFrom n l between.window ys after.window) one.history two.window);
  history = two.history
      ∙ ap (λ (l : List HistoryEvent). l ++ history_events_of ys) one.history
      ∙ append_assoc before.history (history_events_of xs) (history_events_of ys)
      ∙ ap (λ (l : List HistoryEvent). before.history ++ l) (sym (history_events-append xs ys));
}

leads_quiet : (n : ℕ) (before after : LineState) (events : List RingEvent)
    → IsQuiet n before events after
    → Leads n before events after
leads_quiet n before after events q = record {
  window = q.window;
  history = ap (λ (p : LineState). p.history) q.after_is
      ∙ sym (append-nil before.history)
      ∙ ap (λ (l : List HistoryEvent). before.history ++ l) (sym q.acts_none);
}

pub leads_push : (n : ℕ) (a : HistoryEvent) (payload : List ℕ) (before after : LineState) (events : List RingEvent)
    → IsPush n a payload before events after
    → Leads n before events after
leads_push n a payload before after events q = record {
  window = q.window;
  history = ap (λ (p : LineState). p.history) q.after_is
      ∙ ap (λ (l : List HistoryEvent). before.history ++ l) (sym q.acts_one);
}

leads_top : (n size depth : ℕ) (before after : LineState) (events : List RingEvent)
    → TopRun n size depth before events after
    → Leads n before events after
leads_top n size depth before after [] run = subst (λ (p : LineState). Leads n before [] p) run (leads_none n before)
leads_top n size depth before after (acts a ∷ events) (count, of_top, may, run) =
    let rest = leads_top n size depth (state_after before a) after events run in record {
      window = (may, rest.window);
      history = rest.history ∙ append_assoc before.history (a ∷ []) (history_events_of events);
    }
leads_top n size depth before after (closes ∷ events) (may, run) =
    let moved : LineState = state_moved before (window_after before.window closes) in
    let rest = leads_top n size depth moved after events run in record {
      window = (may, rest.window);
      history = rest.history;
    }
leads_top n size depth before after (takes ∷ events) (may, run) =
    let moved : LineState = state_moved before (window_after before.window takes) in
    let rest = leads_top n size depth moved after events run in record {
      window = (may, rest.window);
      history = rest.history;
    }
leads_top n size depth before after (loses ∷ events) (may, run) =
    let moved : LineState = state_moved before (window_after before.window loses) in
    let rest = leads_top n size depth moved after events run in record {
      window = (may, rest.window);
      history = rest.history;
    }

leads_on : (n : ℕ) (before reached after : LineState) (events : List RingEvent)
    → MayGo reached after
    → Leads n before events reached
    → Leads n before events after
leads_on n before reached after events (stays_on e) l = subst (Leads n before events) (sym e) l
leads_on n before reached after events (goes none finishing last e) l =
    subst (Leads n before events) (sym e) record { window = l.window; history = l.history }

leads_part : (n size : ℕ) (before after : LineState) (events : List RingEvent)
    → TopPart n size before events after
    → Leads n before events after
leads_part n size before after events part =
    let run = leads_top n size _ _ part.reached events part.run in
    leads_on n before part.reached after events part.goes record { window = run.window; history = run.history }

leads_begin : (n size moment : ℕ) (payload : List ℕ) (before after : LineState) (events : List RingEvent)
    → BeginPart n size moment payload before events after
    → Leads n before events after
leads_begin n size moment payload before after events (begins may push_is) =
    leads_push n _ payload before after events push_is
leads_begin n size moment payload before after events (begins_none why quiet) =
    leads_quiet n before after events quiet

leads_whole : (n size : ℕ) (a : HistoryEvent) (payload : List ℕ) (Refused : Type 0) (before after : LineState)
    (events : List RingEvent)
    → WholePart n size a payload Refused before events after
    → Leads n before events after
leads_whole n size a payload Refused before after events (writes front behind between may cut push_is finish) =
    subst (λ (l : List RingEvent). Leads n before l after) (sym cut) (leads_joined n before between after front behind
    (leads_push n a payload before between front push_is)
    (leads_part n size between after behind finish.top))
leads_whole n size a payload Refused before after events (writes_none why quiet) =
    leads_quiet n before after events quiet

pub leads_line : (n size : ℕ) (line : Command) (before after : LineState) (events : List RingEvent)
    → LinePart n size line before events after
    → Leads n before events after
leads_line n size (begin_frame cpu moment payload) before after events part =
    leads_begin n size moment payload before after events part
leads_line n size (step_frame cpu count) before after events part = leads_part n size before after events part.top
leads_line n size (finish_frame cpu) before after events part = leads_part n size before after events part.top
leads_line n size (write cpu moment payload) before after events part =
    leads_whole n size _ payload _ before after events part
leads_line n size (close cpu) before after events part = leads_whole n size push_close [] _ before after events part
leads_line n size (step_reader cpu count) before after events part = leads_quiet n before after events part
leads_line n size (take_page cpu) before after events part = leads_quiet n before after events part
leads_line n size (wish cpu) before after events part = leads_quiet n before after events part
leads_line n size (deliver collector cpu fill) before after events part = leads_quiet n before after events part

-- without events the state is the same
leads_same : (n : ℕ) (before after : LineState) (events : List RingEvent)
    → events ≡ []
    → before ≡ after
    → Leads n before events after
leads_same n before after events none e =
    subst (λ (l : List RingEvent). Leads n before l after) (sym none)
    (subst (Leads n before []) e (leads_none n before))

pub leads_lines : (n size : ℕ) (lines : List Command) (before after : LineState) (events : List RingEvent)
    → LineParts n size lines before events after
    → Leads n before events after
leads_lines n size [] before after events (none, e) = leads_same n before after events none e
leads_lines n size (line ∷ lines) before after events (front, behind, between, cut, part, parts) =
    subst (λ (l : List RingEvent). Leads n before l after) (sym cut) (leads_joined n before between after front behind
    (leads_line n size line before between front part)
    (leads_lines n size lines between after behind parts))

pub leads_rest : (n size count : ℕ) (before after : LineState) (events : List RingEvent)
    → FinishParts n size count before events after
    → Leads n before events after
leads_rest n size zero before after events (none, e) = leads_same n before after events none e
leads_rest n size (suc count) before after events (front, behind, between, cut, part, parts) =
    subst (λ (l : List RingEvent). Leads n before l after) (sym cut) (leads_joined n before between after front behind
    (leads_part n size before between front part.top)
    (leads_rest n size count between after behind parts))

-- the events of all lines are one run of the window, whose history events are the history
pub lines_run : (n size start : ℕ) (lines : List Command) (h : List HistoryEvent)
    → IsMadeByLines n size start lines h
    → (events : List RingEvent) × (w : Window) × WindowRun n start events w × (history_events_of events ≡ h)
lines_run n size start lines h is =
    let by_lines = leads_lines n size lines (first_state start) is.behind is.by_lines is.parts in
    let by_rest = leads_rest n size is.count is.behind is.last is.by_rest is.rest in
    let all = leads_joined n (first_state start) is.behind is.last is.by_lines is.by_rest by_lines by_rest in
    (is.by_lines ++ is.by_rest, is.last.window, all.window, sym all.history ∙ sym is.history_is)
