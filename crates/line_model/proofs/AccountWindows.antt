-- The window that events lead to, by the events alone: runs lead to it, and the events of an account are a run.
use Rattle.std.proofs.Common.{◌≡◌, ℕ, zero, suc, ◌<◌, ◌⊎◌, List, [], ◌∷◌, ◌++◌, length, Some, refl, sym, ap, ◌∙◌, subst}
use Rattle.std.proofs.Common.{inl, inr, ⊎_elim, arith, append_assoc, append-nil}
use Rattle.std.specs.Prelude.{IsTrue, fold}
use Rattle.std.specs.List.{slice_get}
use Rattle.std.proofs.lemmas.List.Sums.{fold-append}
use Rattle.std.proofs.lemmas.Option.{slice_get_cases}
use Rattle.trace_model.specs.History.{HistoryEvent, push, push_close, open_fill, reserve, leave, wished, writer_after}
use Rattle.trace_model.specs.History.{is_settled}
use Rattle.trace_model.specs.Window.{Window, first_window, closes, takes, loses, window_after, MayMove, RingEvent, acts}
use Rattle.trace_model.specs.Window.{history_events_of, WindowRun, WindowRunFrom}
use Rattle.ring_model.proofs.histories.WindowRuns.{history_events-append, run-append}
use Rattle.text_model.specs.Script.{Command, begin_frame, step_frame, finish_frame, write, close, step_reader}
use Rattle.text_model.specs.Script.{take_page, wish, deliver, Script}
use Rattle.line_model.specs.Due.{window_at, situation_after, IsDue}
use Rattle.line_model.specs.Accounts.{CpuState, IsIdle, Begins, refuses_frame, pushes_frame, StepsTop, lacks_to_step}
use Rattle.line_model.specs.Accounts.{steps_on, FinishesTop, lacks_to_finish, finishes_it, WritesWhole, refuses_whole}
use Rattle.line_model.specs.Accounts.{writes_it, Take, to_find, to_see, to_prepare, to_take, GoesOn, EndsTake, ReadsOn}
use Rattle.line_model.specs.Accounts.{TakesPage, StepsReader, reads_on, ends_before, Asks, Adds, IsAccount}
use Rattle.line_model.proofs.Standing.{AreDue}

act_moves : (w : Window) (a : HistoryEvent) → window_after w (acts a) ≡ window_after w (acts a)
act_moves w (push moment len) = refl
act_moves w push_close = refl
act_moves w open_fill = refl
act_moves w reserve = refl
act_moves w (leave payload) = refl
act_moves w wished = refl

-- a run leads to the window of its events
pub run_leads : (n : ℕ) (h : List HistoryEvent) (w after : Window) (events : List RingEvent)
    → WindowRunFrom n h w events after
    → fold window_after w events ≡ after
run_leads n h w after [] run = run
run_leads n h w after (acts a ∷ events) run =
    subst (λ (v : Window). fold window_after v events ≡ after) (act_moves w a)
    (run_leads n (h ++ a ∷ []) (window_after w (acts a)) after events run.1)
run_leads n h w after (closes ∷ events) run = run_leads n h (window_after w closes) after events run.1
run_leads n h w after (takes ∷ events) run = run_leads n h (window_after w takes) after events run.1
run_leads n h w after (loses ∷ events) run = run_leads n h (window_after w loses) after events run.1

-- ---- events that are due are a run

settled_none : (h : List HistoryEvent) → (writer_after h).stack ≡ [] → IsTrue (is_settled h)
settled_none h e = rw (is_settled, e) refl

module _ (script : Script) (asked : ℕ) where
  abbrev RunsOn : List HistoryEvent → Window → List RingEvent → Type 0
  RunsOn h w behind = WindowRunFrom script.pages h w behind (fold window_after w behind)

  abbrev Due : List RingEvent → RingEvent → Type 0
  Due front event = IsDue (situation_after script asked front) event

  acts_due : (front : List RingEvent) (a : HistoryEvent)
      → Due front (acts a)
      → MayMove script.pages (history_events_of front) (window_at script.start front) (acts a)
  acts_due front open_fill may = may.2
  acts_due front (push moment len) may = tt
  acts_due front push_close may = tt
  acts_due front reserve may = tt
  acts_due front (leave payload) may = tt
  acts_due front wished may = tt

  -- the run after an event, by its history and window
  from_there : (front : List RingEvent) (event : RingEvent) (behind : List RingEvent) (h : List HistoryEvent)
      (w : Window)
      → history_events_of (front ++ event ∷ []) ≡ h
      → window_after (window_at script.start front) event ≡ w
      → RunsOn (history_events_of (front ++ event ∷ [])) (window_at script.start (front ++ event ∷ [])) behind
      → RunsOn h w behind
  from_there front event behind h w history window run =
      subst (λ (v : Window). RunsOn h v behind)
      (fold-append window_after (first_window script.start) front (event ∷ []) ∙ window)
      (subst (λ (l : List HistoryEvent). RunsOn l (window_at script.start (front ++ event ∷ [])) behind) history run)

  abbrev same_history : (front : List RingEvent) (event : RingEvent)
      → history_events_of (event ∷ []) ≡ []
      → history_events_of (front ++ event ∷ []) ≡ history_events_of front
  same_history front event none =
      history_events-append front (event ∷ [])
      ∙ ap (λ (l : List HistoryEvent). history_events_of front ++ l) none
      ∙ append-nil (history_events_of front)

  abbrev After : List RingEvent → List RingEvent → Type 0
  After front behind = RunsOn (history_events_of front) (window_at script.start front) behind

  -- one event, and the run after it
  passes : (front : List RingEvent) (event : RingEvent) (behind : List RingEvent)
      → Due front event
      → After (front ++ event ∷ []) behind
      → After front (event ∷ behind)
  passes front (acts a) behind due run = (
    acts_due front a due,
    subst
        (λ (v : Window). WindowRunFrom script.pages (history_events_of front ++ a ∷ []) v behind
        (fold window_after (window_after (window_at script.start front) (acts a)) behind))
        (sym (act_moves (window_at script.start front) a))
        (from_there front (acts a) behind (history_events_of front ++ a ∷ [])
        (window_after (window_at script.start front) (acts a)) (history_events-append front (acts a ∷ [])) refl run),
  )
  passes front closes behind due run = (
    (due.1, settled_none (history_events_of front) due.0),
    from_there front closes behind (history_events_of front) (window_after (window_at script.start front) closes)
        (same_history front closes refl) refl run,
  )
  passes front takes behind due run = (
    due,
    from_there front takes behind (history_events_of front) (window_after (window_at script.start front) takes)
        (same_history front takes refl) refl run,
  )
  passes front loses behind due run = (
    (due.2, due.3),
    from_there front loses behind (history_events_of front) (window_after (window_at script.start front) loses)
        (same_history front loses refl) refl run,
  )

  pub due_run : (before own : List RingEvent) → AreDue script asked before own → After before own
  due_run before own due =
      subst (λ (l : List RingEvent). After l own) (append-nil before) (runs_on [] own refl)
    where
      runs_on : (front behind : List RingEvent) → own ≡ front ++ behind → After (before ++ front) behind
      runs_on front [] is = refl
      runs_on front (event ∷ behind) is =
          passes (before ++ front) event behind (due front behind event is)
          (subst (λ (l : List RingEvent). After l behind) (sym (append_assoc before front (event ∷ [])))
          (runs_on (front ++ event ∷ []) behind (is ∙ sym (append_assoc front (event ∷ []) behind))))

-- ---- what a line adds are its own events

abbrev IsBehind : CpuState → List RingEvent → CpuState → Type 0
IsBehind before own after = after.events ≡ before.events ++ own

idle_adds : (before after : CpuState) (own : List RingEvent) → IsIdle before own after → IsBehind before own after
idle_adds before after own (none, same) =
    ap (λ (s : CpuState). s.events) same
    ∙ sym (append-nil before.events)
    ∙ ap (λ (l : List RingEvent). before.events ++ l) (sym none)

begins_adds : (Refused : Type 0) (event : HistoryEvent) (payload : List ℕ) (before after : CpuState)
    (own : List RingEvent)
    → Begins Refused event payload before own after
    → IsBehind before own after
begins_adds Refused event payload before after own (refuses_frame why idle) = idle_adds before after own idle
begins_adds Refused event payload before after own (pushes_frame may is after_is) =
    ap (λ (s : CpuState). s.events) after_is

steps_add : (script : Script) (count : ℕ) (before after : CpuState) (own : List RingEvent)
    → StepsTop script count before own after
    → IsBehind before own after
steps_add script count before after own (lacks_to_step none idle) = idle_adds before after own idle
steps_add script count before after own (steps_on made top next below is most all steps after_is) =
    ap (λ (s : CpuState). s.events) after_is

finish_adds : (script : Script) (before after : CpuState) (own : List RingEvent)
    → FinishesTop script before own after
    → IsBehind before own after
finish_adds script before after own (lacks_to_finish none idle) = idle_adds before after own idle
finish_adds script before after own (finishes_it top next below is does gone after_is) =
    ap (λ (s : CpuState). s.events) after_is

writes_add : (script : Script) (Refused : Type 0) (event : HistoryEvent) (payload : List ℕ) (before after : CpuState)
    (own : List RingEvent)
    → WritesWhole script Refused event payload before own after
    → IsBehind before own after
writes_add script Refused event payload before after own (refuses_whole why idle) = idle_adds before after own idle
writes_add script Refused event payload before after own (writes_it rest next may is does gone after_is) =
    ap (λ (s : CpuState). s.events) after_is

at_adds : {Here Mine : Type 0} (before after : CpuState) (own : List RingEvent)
    → (Here → IsBehind before own after)
    → ((Mine × Here) ⊎ ((Mine → ⊥) × IsIdle before own after))
    → IsBehind before own after
at_adds before after own part (inl here) = part here.1
at_adds before after own part (inr there) = idle_adds before after own there.1

asks_adds : (before after : CpuState) (own : List RingEvent) → Asks before own after → IsBehind before own after
asks_adds before after own (none, is) =
    ap (λ (s : CpuState). s.events) is
    ∙ sym (append-nil before.events)
    ∙ ap (λ (l : List RingEvent). before.events ++ l) (sym none)

-- no event, or these: what the reader knows is no event
adds_none : (before after : CpuState) (own : List RingEvent)
    → own ≡ []
    → after.events ≡ before.events
    → IsBehind before own after
adds_none before after own none same =
    same ∙ sym (append-nil before.events) ∙ ap (λ (l : List RingEvent). before.events ++ l) (sym none)

adds_one : (before after : CpuState) (own : List RingEvent)
    → own ≡ takes ∷ []
    → after.events ≡ before.events ++ takes ∷ []
    → IsBehind before own after
adds_one before after own one same = same ∙ ap (λ (l : List RingEvent). before.events ++ l) (sym one)

-- what a step of a take that isn't its last leaves as it was
pub record IsSame (before after : CpuState) : Type 0 where
  pub events : after.events ≡ before.events
  pub frames : after.frames ≡ before.frames
  pub wish : after.wish ≡ before.wish

module _ (pages : ℕ) (w : Window) (before : CpuState) where
  same_by : (after next : CpuState)
      → after ≡ next
      → next.events ≡ before.events
      → next.frames ≡ before.frames
      → next.wish ≡ before.wish
      → IsSame before after
  same_by after next is events frames asks = record {
    events = ap (λ (s : CpuState). s.events) is ∙ events;
    frames = ap (λ (s : CpuState). s.frames) is ∙ frames;
    wish = ap (λ (s : CpuState). s.wish) is ∙ asks;
  }

  pub goes_same : (take : Take) (after : CpuState) → GoesOn pages w take before after → IsSame before after
  goes_same to_find after (inl (at, is)) = same_by after _ is refl refl refl
  goes_same to_find after (inr (fill, at, more, later, apart, is)) = same_by after _ is refl refl refl
  goes_same to_see after (closed, is) = same_by after _ is refl refl refl
  goes_same to_prepare after is = same_by after _ is refl refl refl
  goes_same to_take after (away, is) = same_by after _ is refl refl refl

reads_on_adds : (script : Script) (count : ℕ) (before after : CpuState)
    → ReadsOn script count before after
    → after.events ≡ before.events
reads_on_adds script zero before after same = ap (λ (s : CpuState). s.events) (sym same)
reads_on_adds script (suc count) before after (between, going, rest) =
    reads_on_adds script count between after rest
    ∙ (goes_same script.pages (window_at script.start before.events) before before.take between going).events

ends_adds : (pages : ℕ) (w : Window) (take : Take) (before after : CpuState) (own : List RingEvent)
    → EndsTake pages w take before own after
    → IsBehind before own after
ends_adds pages w to_find before after own (none, inl (fill, at, moved, is)) =
    adds_none before after own none (ap (λ (s : CpuState). s.events) is)
ends_adds pages w to_find before after own (none, inr (here, moved, is)) =
    adds_none before after own none (ap (λ (s : CpuState). s.events) is)
ends_adds pages w to_see before after own (up, none, is) =
    adds_none before after own none (ap (λ (s : CpuState). s.events) is)
ends_adds pages w to_prepare before after own none = absurd none
ends_adds pages w to_take before after own (here, one, is) =
    adds_one before after own one (ap (λ (s : CpuState). s.events) is)

take_adds : (script : Script) (before after : CpuState) (own : List RingEvent)
    → TakesPage script before own after
    → IsBehind before own after
take_adds script before after own t =
    ends_adds script.pages (window_at script.start t.between.events) t.between.take t.between after own t.ends
    ∙ ap (λ (l : List RingEvent). l ++ own) (reads_on_adds script t.count before t.between t.reads)

reads_add : (script : Script) (count : ℕ) (before after : CpuState) (own : List RingEvent)
    → StepsReader script count before own after
    → IsBehind before own after
reads_add script count before after own (reads_on none on) =
    adds_none before after own none (reads_on_adds script count before after on)
reads_add script count before after own (ends_before take few) = take_adds script before after own take

pub line_adds : (script : Script) (cpu : ℕ) (command : Command) (before after : CpuState) (own : List RingEvent)
    → Adds script cpu command before own after
    → after.events ≡ before.events ++ own
line_adds script cpu (begin_frame at moment payload) before after own adds =
    at_adds before after own (begins_adds _ _ _ before after own) adds
line_adds script cpu (step_frame at count) before after own adds =
    at_adds before after own (steps_add script count before after own) adds
line_adds script cpu (finish_frame at) before after own adds =
    at_adds before after own (finish_adds script before after own) adds
line_adds script cpu (write at moment payload) before after own adds =
    at_adds before after own (writes_add script _ _ _ before after own) adds
line_adds script cpu (close at) before after own adds =
    at_adds before after own (writes_add script _ _ _ before after own) adds
line_adds script cpu (step_reader at count) before after own adds =
    at_adds before after own (reads_add script count before after own) adds
line_adds script cpu (take_page at) before after own adds =
    at_adds before after own (take_adds script before after own) adds
line_adds script cpu (wish at) before after own adds =
    at_adds before after own (asks_adds before after own) adds
line_adds script cpu (deliver collector at fill) before after own adds = idle_adds before after own adds

-- ---- the events of an account

module _ (script : Script) (cpu : ℕ) (states : ℕ → CpuState) (account : IsAccount script cpu states) where
  abbrev events : ℕ → List RingEvent
  events k = (states k).events

  abbrev IsRun : List RingEvent → Type 0
  IsRun so_far = WindowRun script.pages script.start so_far (window_at script.start so_far)

  no_run : events 0 ≡ [] → IsRun (events 0)
  no_run none = subst IsRun (sym none) refl

  more_run : (k line : ℕ) (command : Command)
      → slice_get script.commands k ≡ Some (line, command)
      → IsRun (events k)
      → IsRun (events (suc k))
  more_run k line command at run =
      let l = account.lines k line command at in
      let is = line_adds script cpu command (states k) (states (suc k)) l.own l.adds in
      subst IsRun (sym is)
      (subst (λ (v : Window). WindowRun script.pages script.start (events k ++ l.own) v)
      (sym (fold-append window_after (first_window script.start) (events k) l.own))
      (run-append script.pages [] (first_window script.start) (window_at script.start (events k))
      (fold window_after (window_at script.start (events k)) l.own) (events k) l.own run
      (due_run script (states k).wish (events k) l.own l.due)))

  runs : (k : ℕ) → k < suc (length script.commands) → IsRun (events k)
  runs zero low = no_run (ap (λ (s : CpuState). s.events) account.first)
  runs (suc k) low = ⊎_elim
      (λ ((line, command), within, at, is). more_run k line command at (runs k (omega (arith, low))))
      (λ (past, none). absurd (let no : ⊥ = omega (arith, past, low) in no))
      (slice_get_cases script.commands k).1

pub accounts_are_window_runs : (script : Script) (cpu : ℕ) (states : ℕ → CpuState)
    → IsAccount script cpu states
    → (k : ℕ)
    → k < suc (length script.commands)
    → WindowRun script.pages script.start (states k).events (window_at script.start (states k).events)
accounts_are_window_runs script cpu states account k low = runs script cpu states account k low
