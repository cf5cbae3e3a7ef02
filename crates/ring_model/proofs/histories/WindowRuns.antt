-- Runs of the window: their counts keep their order, and which fills they take and lose.
use Rattle.std.proofs.Common.{◌≡◌, ℕ, zero, suc, ◌+◌, ◌<◌, ◌≤◌, ◌⊎◌, List, [], ◌∷◌, ◌++◌, refl, sym, ap, subst, inl}
use Rattle.std.proofs.Common.{inr, ⊎_elim, arith, append_assoc, append-nil}
use Rattle.std.specs.Prelude.{Contains}
use mathlib.Core.Logic.{dite}
use native.Mathlib.Decide.{ℕ_discrete}
use Rattle.trace_model.specs.History.{HistoryEvent, push, push_close, open_fill, reserve, leave, wished}
use Rattle.trace_model.specs.Window.{Window, closes, takes, loses, window_after, RingEvent, acts, history_events_of}
use Rattle.trace_model.specs.Window.{WindowRunFrom}
use Rattle.trace_model.specs.Ring.{TakenFill}
use Rattle.ring_model.specs.RunsAsEvents.{fills_taken, fills_lost, numbers_of}

-- ---- the counts

-- the counts only rise
pub record Rises (w after : Window) : Type 0 where
  pub head : w.head ≤ after.head
  pub done : w.done ≤ after.done
  pub opened : w.opened ≤ after.opened

-- with a history event at most one fill more is begun
pub acts_behind : (w : Window) (a : HistoryEvent)
    → ((window_after w (acts a)).head ≡ w.head) × ((window_after w (acts a)).done ≡ w.done)
    × (w.opened ≤ (window_after w (acts a)).opened)
acts_behind w (push moment len) = (refl, refl, omega arith)
acts_behind w push_close = (refl, refl, omega arith)
acts_behind w open_fill = (refl, refl, omega arith)
acts_behind w reserve = (refl, refl, omega arith)
acts_behind w (leave payload) = (refl, refl, omega arith)
acts_behind w wished = (refl, refl, omega arith)

pub run_rises : (n : ℕ) (history : List HistoryEvent) (w after : Window) (events : List RingEvent)
    → WindowRunFrom n history w events after → Rises w after
run_rises n history w after [] run =
    subst (Rises w) run record { head = omega arith; done = omega arith; opened = omega arith }
run_rises n history w after (acts a ∷ events) run =
    let r =
    run_rises n (history ++ a ∷ []) (window_after w (acts a)) after events run.1 in
    let (same, closed, more) = acts_behind w a in
    let a = r.head in
    let b = r.done in
    let c = r.opened in
    record { head = omega arith; done = omega arith; opened = omega arith }
run_rises n history w after (closes ∷ events) run =
    let r =
    run_rises n history (window_after w closes) after events run.1 in
    let a = r.head in
    let b = r.done in
    let c = r.opened in
    record { head = omega arith; done = omega arith; opened = omega arith }
run_rises n history w after (takes ∷ events) run =
    let r =
    run_rises n history (window_after w takes) after events run.1 in
    let a = r.head in
    let b = r.done in
    let c = r.opened in
    record { head = omega arith; done = omega arith; opened = omega arith }
run_rises n history w after (loses ∷ events) run =
    let r =
    run_rises n history (window_after w loses) after events run.1 in
    let a = r.head in
    let b = r.done in
    let c = r.opened in
    record { head = omega arith; done = omega arith; opened = omega arith }

-- ---- the fills

-- a list has its first element, and those of its rest
has_first : (x : ℕ) (xs : List ℕ) → Contains (x ∷ xs) x
has_first x xs = (0, omega arith, refl)

has_more : (x f : ℕ) (xs : List ℕ) → Contains xs f → Contains (x ∷ xs) f
has_more x f xs (i, low, at) = (suc i, omega arith, at)

has_cases : (x f : ℕ) (xs : List ℕ) → Contains (x ∷ xs) f → (x ≡ f) ⊎ Contains xs f
has_cases x f xs (zero, low, at) = inl at
has_cases x f xs (suc i, low, at) = inr (i, omega arith, at)

pub has_none : {P : Type 0} (f : ℕ) → Contains [] f → P
has_none f (i, low, at) = absurd (omega arith)

-- what was taken or lost is from the head on
taken_from_head : (head f : ℕ) (events : List RingEvent) → Contains (fills_taken head events) f → head ≤ f
taken_from_head head f [] has = has_none f has
taken_from_head head f (acts a ∷ events) has = taken_from_head head f events has
taken_from_head head f (closes ∷ events) has = taken_from_head head f events has
taken_from_head head f (takes ∷ events) has =
    ⊎_elim (λ e. let le : head ≤ f = omega arith in le)
    (λ more. let low = taken_from_head (head + 1) f events more in omega arith)
    (has_cases head f (fills_taken (head + 1) events) has)
taken_from_head head f (loses ∷ events) has = let low = taken_from_head (head + 1) f events has in omega arith

lost_from_head : (head f : ℕ) (events : List RingEvent) → Contains (fills_lost head events) f → head ≤ f
lost_from_head head f [] has = has_none f has
lost_from_head head f (acts a ∷ events) has = lost_from_head head f events has
lost_from_head head f (closes ∷ events) has = lost_from_head head f events has
lost_from_head head f (takes ∷ events) has = let low = lost_from_head (head + 1) f events has in omega arith
lost_from_head head f (loses ∷ events) has =
    ⊎_elim (λ e. let le : head ≤ f = omega arith in le)
    (λ more. let low = lost_from_head (head + 1) f events more in omega arith)
    (has_cases head f (fills_lost (head + 1) events) has)

pub not_both : (head : ℕ) (events : List RingEvent) (f : ℕ) → Contains (fills_taken head events) f
    → Contains (fills_lost head events) f → ⊥
not_both head [] f taken lost = has_none f taken
not_both head (acts a ∷ events) f taken lost = not_both head events f taken lost
not_both head (closes ∷ events) f taken lost = not_both head events f taken lost
not_both head (takes ∷ events) f taken lost = let low = lost_from_head (head + 1) f events lost in
    ⊎_elim (λ e. let no : ⊥ = omega arith in no) (λ more. not_both (head + 1) events f more lost)
    (has_cases head f (fills_taken (head + 1) events) taken)
not_both head (loses ∷ events) f taken lost = let low = taken_from_head (head + 1) f events taken in
    ⊎_elim (λ e. let no : ⊥ = omega arith in no) (λ more. not_both (head + 1) events f taken more)
    (has_cases head f (fills_lost (head + 1) events) lost)

pub passed_by : (n : ℕ) (history : List HistoryEvent) (w after : Window) (events : List RingEvent) (f : ℕ)
    → WindowRunFrom n history w events after → w.head ≤ f → f < after.head
    → Contains (fills_taken w.head events) f ⊎ Contains (fills_lost w.head events) f
passed_by n history w after [] f run low high = let same : w.head ≡ after.head = ap (λ (v : Window). v.head) run in
    absurd (omega arith)
passed_by n history w after (acts a ∷ events) f run low high = let next = window_after w (acts a) in
    let (same, closed, more) = acts_behind w a in
    subst (λ (head : ℕ). Contains (fills_taken head events) f ⊎ Contains (fills_lost head events) f) same
    (passed_by n (history ++ a ∷ []) next after events f run.1 (omega arith) high)
passed_by n history w after (closes ∷ events) f run low high =
    passed_by n history (window_after w closes) after events f run.1 low high
passed_by n history w after (takes ∷ events) f run low high = dite (ℕ_discrete w.head f)
    (λ e.
    inl (subst (Contains (w.head ∷ fills_taken (w.head + 1) events)) e
    (has_first w.head (fills_taken (w.head + 1) events))))
    (λ ne.
    ⊎_elim (λ t. inl (has_more w.head f (fills_taken (w.head + 1) events) t)) (λ l. inr l)
    (passed_by n history (window_after w takes) after events f run.1 (omega arith) high))
passed_by n history w after (loses ∷ events) f run low high = dite (ℕ_discrete w.head f)
    (λ e.
    inr (subst (Contains (w.head ∷ fills_lost (w.head + 1) events)) e
    (has_first w.head (fills_lost (w.head + 1) events))))
    (λ ne.
    ⊎_elim (λ t. inl t) (λ l. inr (has_more w.head f (fills_lost (w.head + 1) events) l))
    (passed_by n history (window_after w loses) after events f run.1 (omega arith) high))

pub taken_closed : (n : ℕ) (history : List HistoryEvent) (w after : Window) (events : List RingEvent) (f : ℕ)
    → WindowRunFrom n history w events after → Contains (fills_taken w.head events) f
    → (w.head ≤ f) × (f < after.head) × (f < after.done)
taken_closed n history w after [] f run has = has_none f has
taken_closed n history w after (acts a ∷ events) f run has = let next = window_after w (acts a) in
    let (same, closed, more) = acts_behind w a in
    let (x, y, z) =
    taken_closed n (history ++ a ∷ []) next after events f run.1
    (subst (λ (head : ℕ). Contains (fills_taken head events) f) (sym same) has) in
    (omega arith, y, z)
taken_closed n history w after (closes ∷ events) f run has =
    taken_closed n history (window_after w closes) after events f run.1 has
taken_closed n history w after (takes ∷ events) f run has = let may = run.0 in
    let r = run_rises n history (window_after w takes) after events run.1 in
    let a = r.head in
    let b = r.done in
    ⊎_elim (λ e. (omega arith, omega arith, omega arith))
    (λ more. let (x, y, z) = taken_closed n history (window_after w takes) after events f run.1 more in
    (omega arith, y, z)) (has_cases w.head f (fills_taken (w.head + 1) events) has)
taken_closed n history w after (loses ∷ events) f run has =
    let (x, y, z) =
    taken_closed n history (window_after w loses) after events f run.1 has in
    (omega arith, y, z)

pub lost_closed : (n : ℕ) (history : List HistoryEvent) (w after : Window) (events : List RingEvent) (f : ℕ)
    → WindowRunFrom n history w events after → Contains (fills_lost w.head events) f
    → (w.head ≤ f) × (f < after.head) × (f < after.done) × (f + n ≤ after.opened)
lost_closed n history w after [] f run has = has_none f has
lost_closed n history w after (acts a ∷ events) f run has = let next = window_after w (acts a) in
    let (same, closed, more) = acts_behind w a in
    let (x, y, z, u) =
    lost_closed n (history ++ a ∷ []) next after events f run.1
    (subst (λ (head : ℕ). Contains (fills_lost head events) f) (sym same) has) in
    (omega arith, y, z, u)
lost_closed n history w after (closes ∷ events) f run has =
    lost_closed n history (window_after w closes) after events f run.1 has
lost_closed n history w after (takes ∷ events) f run has =
    let (x, y, z, u) =
    lost_closed n history (window_after w takes) after events f run.1 has in
    (omega arith, y, z, u)
lost_closed n history w after (loses ∷ events) f run has = let may = run.0.0 in
    let full = run.0.1 in
    let r = run_rises n history (window_after w loses) after events run.1 in
    let a = r.head in
    let b = r.done in
    let c = r.opened in
    ⊎_elim (λ e. (omega arith, omega arith, omega arith, omega arith))
    (λ more. let (x, y, z, u) = lost_closed n history (window_after w loses) after events f run.1 more in
    (omega arith, y, z, u)) (has_cases w.head f (fills_lost (w.head + 1) events) has)

-- ---- two runs, one after the other

pub history_events-append : (events more : List RingEvent)
    → history_events_of (events ++ more) ≡ history_events_of events ++ history_events_of more
history_events-append [] more = refl
history_events-append (acts a ∷ events) more = ap (λ (l : List HistoryEvent). a ∷ l) (history_events-append events more)
history_events-append (closes ∷ events) more = history_events-append events more
history_events-append (takes ∷ events) more = history_events-append events more
history_events-append (loses ∷ events) more = history_events-append events more

pub run-append : (n : ℕ) (history : List HistoryEvent) (w between after : Window) (events more : List RingEvent)
    → WindowRunFrom n history w events between
    → WindowRunFrom n (history ++ history_events_of events) between more after
    → WindowRunFrom n history w (events ++ more) after
run-append n history w between after [] more first rest =
    subst (λ (v : Window). WindowRunFrom n history v more after) (sym first)
    (subst (λ (h : List HistoryEvent). WindowRunFrom n h between more after) (append-nil history) rest)
run-append n history w between after (acts a ∷ events) more first rest = (
  first.0,
  run-append n (history ++ a ∷ []) (window_after w (acts a)) between after events more first.1
      (subst (λ (h : List HistoryEvent). WindowRunFrom n h between more after)
      (sym (append_assoc history (a ∷ []) (history_events_of events))) rest),
)
run-append n history w between after (closes ∷ events) more first rest =
    (first.0, run-append n history (window_after w closes) between after events more first.1 rest)
run-append n history w between after (takes ∷ events) more first rest =
    (first.0, run-append n history (window_after w takes) between after events more first.1 rest)
run-append n history w between after (loses ∷ events) more first rest =
    (first.0, run-append n history (window_after w loses) between after events more first.1 rest)

pub taken-append : (n : ℕ) (history : List HistoryEvent) (w between : Window) (events more : List RingEvent)
    → WindowRunFrom n history w events between
    → fills_taken w.head (events ++ more) ≡ fills_taken w.head events ++ fills_taken between.head more
taken-append n history w between [] more run = ap (λ (v : Window). fills_taken v.head more) run
taken-append n history w between (acts a ∷ events) more run =
    subst (λ (head : ℕ). fills_taken head (events ++ more) ≡ fills_taken head events ++ fills_taken between.head more)
    (acts_behind w a).0
    (taken-append n (history ++ a ∷ []) (window_after w (acts a)) between events more run.1)
taken-append n history w between (closes ∷ events) more run =
    taken-append n history (window_after w closes) between events more run.1
taken-append n history w between (takes ∷ events) more run =
    ap (λ (l : List ℕ). w.head ∷ l) (taken-append n history (window_after w takes) between events more run.1)
taken-append n history w between (loses ∷ events) more run =
    taken-append n history (window_after w loses) between events more run.1

pub numbers-push : (taken : List TakenFill) (t : TakenFill)
    → numbers_of (taken ++ t ∷ []) ≡ numbers_of taken ++ t.fill ∷ []
numbers-push [] t = refl
numbers-push (x ∷ taken) t = ap (λ (l : List ℕ). x.fill ∷ l) (numbers-push taken t)
