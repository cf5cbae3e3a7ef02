-- The counts of a window keep their order.
use Rattle.std.proofs.Common.{ℕ, ◌≤◌, List, [], ◌∷◌, ◌++◌, subst, arith}
use Rattle.trace_model.specs.History.{HistoryEvent, push, push_close, open_fill, reserve, leave, wished}
use Rattle.trace_model.specs.Window.{Window, first_window, RingEvent, closes, takes, loses, window_after, MayMove, acts}
use Rattle.trace_model.specs.Window.{WindowRunFrom, WindowRun, IsWindow}

pub window_event_keeps : (n : ℕ) (history : List HistoryEvent) (w : Window) (event : RingEvent) → IsWindow n w
    → MayMove n history w event → IsWindow n (window_after w event)
window_event_keeps n history w (acts (push moment len)) k may = k
window_event_keeps n history w (acts push_close) k may = k
window_event_keeps n history w (acts reserve) k may = k
window_event_keeps n history w (acts (leave payload)) k may = k
window_event_keeps n history w (acts wished) k may = k
window_event_keeps n history w (acts open_fill) k may =
    record { head_le = omega arith; done_lt = omega arith; opened_le = omega arith }
window_event_keeps n history w closes k may = record { head_le = omega arith; done_lt = may.0; opened_le = omega arith }
window_event_keeps n history w takes k may =
    record { head_le = omega arith; done_lt = omega arith; opened_le = omega arith }
window_event_keeps n history w loses k may =
    record { head_le = let closed = may.0 in omega arith; done_lt = omega arith; opened_le = omega arith }

pub run_keeps : (n : ℕ) (history : List HistoryEvent) (before : Window) (events : List RingEvent) (after : Window)
    → IsWindow n before → WindowRunFrom n history before events after → IsWindow n after
run_keeps n history before [] after k run = subst (IsWindow n) run k
run_keeps n history before (acts a ∷ events) after k run =
    run_keeps n (history ++ a ∷ []) (window_after before (acts a)) events after
    (window_event_keeps n history before (acts a) k run.0) run.1
run_keeps n history before (closes ∷ events) after k run =
    run_keeps n history (window_after before closes) events after (window_event_keeps n history before closes k run.0)
    run.1
run_keeps n history before (takes ∷ events) after k run =
    run_keeps n history (window_after before takes) events after (window_event_keeps n history before takes k run.0)
    run.1
run_keeps n history before (loses ∷ events) after k run =
    run_keeps n history (window_after before loses) events after (window_event_keeps n history before loses k run.0)
    run.1

first_kept : (n start : ℕ) → 1 ≤ n → IsWindow n (first_window start)
first_kept n start places = record { head_le = omega arith; done_lt = omega arith; opened_le = omega arith }

pub window_kept : (n start : ℕ) (events : List RingEvent) (window : Window) → 1 ≤ n → WindowRun n start events window
    → IsWindow n window
window_kept n start events window places run =
    run_keeps n [] (first_window start) events window (first_kept n start places) run
