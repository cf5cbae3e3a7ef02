-- The window of a ring of n positions: how many fills are taken or lost, closed, and begun, and what may
-- happen to these counts. After kernel/trace/ring_buffer.c (rb_move_tail, rb_handle_head_page,
-- rb_get_reader_page) and docs/formats/ring.md, "The ring".
use Rattle.std.specs.Prelude.{◌≡◌, ℕ, ◌+◌, ◌<◌, ◌≤◌, List, [], ◌∷◌, ◌++◌, IsTrue}
use Rattle.trace_model.specs.History.{HistoryEvent, push, push_close, open_fill, reserve, leave, wished, is_settled}

-- head: the fills below it are taken or lost. done: those below it are closed, that is, released to
-- the reader. opened: those below it are begun; the last of these is the tail.
pub record Window : Type 0 where
  pub head : ℕ
  pub done : ℕ
  pub opened : ℕ

-- at the start the fill with the start's number is begun, and nothing else has happened
abbrev pub first_window : ℕ → Window
first_window start = record { head = start; done = start; opened = start + 1 }

-- What is done to a ring, in one order: what the frames do, of which one thing is that a fill is begun; and a fill is
-- closed, taken by the reader, or lost to a writer.
pub data RingEvent : Type 0 where
  acts : HistoryEvent → RingEvent
  closes takes loses : RingEvent

-- the history events among the events
abbrev pub history_events_of : List RingEvent → List HistoryEvent
history_events_of [] = []
history_events_of (acts a ∷ events) = a ∷ history_events_of events
history_events_of (closes ∷ events) = history_events_of events
history_events_of (takes ∷ events) = history_events_of events
history_events_of (loses ∷ events) = history_events_of events

-- the window after an event: one fill more is begun, closed, or taken or lost; or it stays as it is
abbrev pub window_after : Window → RingEvent → Window
window_after w (acts (push moment len)) = w
window_after w (acts push_close) = w
window_after w (acts open_fill) = record { head = w.head; done = w.done; opened = w.opened + 1 }
window_after w (acts reserve) = w
window_after w (acts (leave payload)) = w
window_after w (acts wished) = w
window_after w closes = record { head = w.head; done = w.done + 1; opened = w.opened }
window_after w takes = record { head = w.head + 1; done = w.done; opened = w.opened }
window_after w loses = record { head = w.head + 1; done = w.done; opened = w.opened }

-- When the window allows each, after this history: a fill is begun only if a position is free; one is closed only if it
-- isn't the tail and each push has its leave; the head is taken only if it is closed, and lost only if it is closed and
-- the ring is full.
abbrev pub MayMove : ℕ → List HistoryEvent → Window → RingEvent → Type 0
MayMove n history w (acts (push moment len)) = Unit {0}
MayMove n history w (acts push_close) = Unit {0}
MayMove n history w (acts open_fill) = w.opened < w.head + n
MayMove n history w (acts reserve) = Unit {0}
MayMove n history w (acts (leave payload)) = Unit {0}
MayMove n history w (acts wished) = Unit {0}
MayMove n history w closes = (w.done + 1 < w.opened) × IsTrue (is_settled history)
MayMove n history w takes = w.head < w.done
MayMove n history w loses = (w.head < w.done) × (w.opened ≡ w.head + n)

-- the event may happen, after this history, and makes the second window of the first
pub record WindowStep (n : ℕ) (history : List HistoryEvent) (before : Window) (event : RingEvent) (after : Window)
    : Type 0 where
  pub may : MayMove n history before event
  pub after_is : after ≡ window_after before event

-- After a history, the events lead from one window to another.
abbrev pub WindowRunFrom : ℕ → List HistoryEvent → Window → List RingEvent → Window → Type 0
WindowRunFrom n history before [] after = before ≡ after
WindowRunFrom n history before (acts a ∷ events) after =
    MayMove n history before (acts a) × WindowRunFrom n (history ++ a ∷ []) (window_after before (acts a)) events after
WindowRunFrom n history before (closes ∷ events) after =
    MayMove n history before closes × WindowRunFrom n history (window_after before closes) events after
WindowRunFrom n history before (takes ∷ events) after =
    MayMove n history before takes × WindowRunFrom n history (window_after before takes) events after
WindowRunFrom n history before (loses ∷ events) after =
    MayMove n history before loses × WindowRunFrom n history (window_after before loses) events after

-- the events of a ring from its start lead to this window
abbrev pub WindowRun : ℕ → ℕ → List RingEvent → Window → Type 0
WindowRun n start events window = WindowRunFrom n [] (first_window start) events window

-- all pages have fills that aren't closed, so that a frame that needs one is refused
abbrev pub IsCrowded : ℕ → Window → Type 0
IsCrowded n w = w.opened ≡ w.done + n

-- The counts keep their order, and at most n fills are begun from the head on.
pub record IsWindow (n : ℕ) (w : Window) : Type 0 where
  pub head_le : w.head ≤ w.done
  pub done_lt : w.done < w.opened
  pub opened_le : w.opened ≤ w.head + n
