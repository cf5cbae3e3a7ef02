-- What may happen next to the ring of a CPU, by what was done to it so far: the history of its frames and its window.
-- No link and no word of the ring is spoken of. docs/MODEL.md, "What is printed, by histories alone".
use Rattle.std.specs.Prelude.{◌≡◌, ◌≢◌, ℕ, ◌+◌, ◌<◌, ◌≤◌, ◌⊎◌, ⊤, IsTrue, fold, List, [], ◌∷◌, ◌++◌, Option, Some, None}
use Rattle.trace_model.specs.declared.limits.TheConstants.{LINK_FILLS}
use Rattle.trace_model.specs.History.{HistoryEvent, push, push_close, open_fill, reserve, leave, wished, PushedFrame}
use Rattle.trace_model.specs.History.{record_frame, close_frame, reservation_for, writer_after, reserved_records}
use Rattle.trace_model.specs.Packing.{tail_of, fill_len, is_wished}
use Rattle.trace_model.specs.Window.{Window, first_window, window_after, RingEvent, acts, closes, takes, loses}
use Rattle.trace_model.specs.Window.{history_events_of}
use Rattle.text_model.specs.Script.{Script}

-- the window after the events of a ring whose first fill has this number
abbrev pub window_at : ℕ → List RingEvent → Window
window_at start events = fold window_after (first_window start) events

-- What decides what may happen next: how many positions the ring has, of pages of how many bytes; what its frames did;
-- its window; and the reader's wish, one more than the number of the fill that it asks for, 0 before its first wish.
pub record Situation : Type 0 where
  pub pages : ℕ
  pub size : ℕ
  pub history : List HistoryEvent
  pub window : Window
  pub wish : ℕ

-- that after these events of a script's ring, while this is the reader's wish
abbrev pub situation_after : Script → (reader_wish : ℕ) → List RingEvent → Situation
situation_after script reader_wish events = record {
  pages = script.pages;
  size = script.size;
  history = history_events_of events;
  window = window_at script.start events;
  wish = reader_wish;
}

-- the frames that were pushed and haven't left, the top first
abbrev pub pushed_in : Situation → List PushedFrame
pushed_in s = (writer_after s.history).stack

-- One fill more is needed: by a record frame on top, whose record doesn't fit in the tail page; by a close frame on
-- top, if the tail page has a record; or, if all frames have left and the tail page has a record, for the reader's
-- wish, which was found since the last fill was begun.
abbrev pub IsFillNeededFor : Situation → List PushedFrame → Type 0
IsFillNeededFor s [] = IsTrue (is_wished s.history) × (tail_of s.history ≢ [])
IsFillNeededFor s (record_frame moment len None ∷ below) =
    s.size < fill_len (tail_of s.history ++ reservation_for moment len (reserved_records s.history) ∷ [])
IsFillNeededFor s (record_frame moment len (Some number) ∷ below) = ⊥
IsFillNeededFor s (close_frame ∷ below) = tail_of s.history ≢ []

abbrev pub IsFillNeeded : Situation → Type 0
IsFillNeeded s = IsFillNeededFor s (pushed_in s)

-- none can be begun: all positions have fills that aren't closed, or no number is left for one more fill
abbrev pub HasNoFill : Situation → Type 0
HasNoFill s = (s.window.opened ≡ s.window.done + s.pages) ⊎ (LINK_FILLS ≤ s.window.opened + s.pages)

-- The reader asks for the tail, which has a record, and after which a fill can be begun; and the wish wasn't found yet:
-- with no frame, a fill is needed only for one that was.
abbrev pub IsWishToFind : Situation → Type 0
IsWishToFind s = (s.wish ≡ s.window.opened) × (tail_of s.history ≢ []) × (s.window.opened + s.pages < LINK_FILLS)
    × (IsFillNeeded s → ⊥)

-- the frame on top is a record frame that has no record yet
abbrev pub HasNoRecord : List PushedFrame → Type 0
HasNoRecord [] = ⊥
HasNoRecord (record_frame moment len None ∷ below) = ⊤
HasNoRecord (record_frame moment len (Some number) ∷ below) = ⊥
HasNoRecord (close_frame ∷ below) = ⊥

-- How the frame on top leaves: a record frame with its record; or without one only if it needs a fill, and none can be
-- begun; a close frame if it needs none, or none can be begun.
abbrev pub Leaves : Situation → List PushedFrame → Option (List ℕ) → Type 0
Leaves s [] payload = ⊥
Leaves s (record_frame moment len None ∷ below) None = IsFillNeeded s × HasNoFill s
Leaves s (record_frame moment len None ∷ below) (Some bytes) = ⊥
Leaves s (record_frame moment len (Some number) ∷ below) None = ⊥
Leaves s (record_frame moment len (Some number) ∷ below) (Some bytes) = ⊤
Leaves s (close_frame ∷ below) None = IsFillNeeded s → HasNoFill s
Leaves s (close_frame ∷ below) (Some bytes) = ⊥

-- What may happen. A fill is begun, or the oldest one lost for it, only if one is needed, and can be begun: lost if the
-- ring is full, and that fill closed; begun if the ring isn't full. The oldest fill is taken only if it is closed. The
-- oldest fill that isn't closed is closed only if it isn't the tail, and every frame has left. The reader's wish is
-- found only if there is one to find, and every frame has left. A record is reserved if it needs no fill. A frame may
-- be pushed at any time.
abbrev pub IsDue : Situation → RingEvent → Type 0
IsDue s (acts (push moment len)) = ⊤
IsDue s (acts push_close) = ⊤
IsDue s (acts open_fill) = IsFillNeeded s × (HasNoFill s → ⊥) × (s.window.opened < s.window.head + s.pages)
IsDue s (acts reserve) = HasNoRecord (pushed_in s) × (IsFillNeeded s → ⊥)
IsDue s (acts (leave payload)) = Leaves s (pushed_in s) payload
IsDue s (acts wished) = (pushed_in s ≡ []) × IsWishToFind s
IsDue s closes = (pushed_in s ≡ []) × (s.window.done + 1 < s.window.opened)
IsDue s takes = s.window.head < s.window.done
IsDue s loses = IsFillNeeded s × (HasNoFill s → ⊥)
    × (s.window.head < s.window.done) × (s.window.opened ≡ s.window.head + s.pages)
