-- What each event asks of the fills before it, and what a frame that is about to begin a fill still needs:
-- the packing of records in pages, event by event.
-- After kernel/trace/ring_buffer.c (rb_reserve_next_event, rb_move_tail).
use Rattle.std.specs.Prelude.{◌≡◌, ◌≢◌, ℕ, ◌≤◌, Bool, true, IsTrue, List, [], ◌∷◌, ◌++◌, length, Some, None}
use Rattle.std.specs.Prelude.{slice_index_or}
use Rattle.trace_model.specs.Words.{encoded_len}
use Rattle.trace_model.specs.History.{HistoryEvent, push, push_close, open_fill, reserve, leave, wished, Reservation}
use Rattle.trace_model.specs.History.{writer_after, reservation_for}
use Rattle.trace_model.specs.Packing.{cut_from, tail_of, fill_len, FitsBehind, next_reservation, MayCloseTail}
use Rattle.trace_model.specs.Frames.{Purpose, for_record, for_close, Progress, waiting, reserved, left}

-- ---- fills by their cuts

-- these cuts rise from one to another, none of them below the one before it
abbrev pub IsRising : ℕ → List ℕ → ℕ → Type 0
IsRising from [] to = from ≤ to
IsRising from (cut ∷ cuts) to = (from ≤ cut) × IsRising cut cuts to

-- the records after the last cut
abbrev pub tail_at : List ℕ → List Reservation → List Reservation
tail_at cuts records = slice_index_or (cut_from 0 cuts records) (length cuts) []

-- each fill has room in a page of this size
abbrev pub HaveRoom : ℕ → List ℕ → List Reservation → Type 0
HaveRoom size cuts records = (i : ℕ) → fill_len (slice_index_or (cut_from 0 cuts records) i []) ≤ size

-- ---- events

-- what an event asks of the fills before it
abbrev pub IsFit : ℕ → List HistoryEvent → HistoryEvent → Type 0
IsFit size front (push moment len) = Unit {0}
IsFit size front push_close = Unit {0}
IsFit size front open_fill =
    (tail_of front ≢ [])
    × ((r : Reservation) → next_reservation front ≡ Some r → FitsBehind size (tail_of front) r → ⊥)
    × (next_reservation front ≡ None → MayCloseTail front (writer_after front).stack)
IsFit size front reserve = (r : Reservation) → next_reservation front ≡ Some r → FitsBehind size (tail_of front) r
IsFit size front (leave payload) = Unit {0}
IsFit size front wished = Unit {0}

abbrev pub AreFit : ℕ → List HistoryEvent → Type 0
AreFit size history = (front rest : List HistoryEvent) (a : HistoryEvent)
    → history ≡ front ++ a ∷ rest
    → IsFit size front a

-- ---- frames

-- a record that a frame was pushed for has room in an empty page
abbrev pub FitsPage : ℕ → Purpose → Type 0
FitsPage size (for_record moment len) = encoded_len len 0 true ≤ size
FitsPage size for_close = Unit {0}

-- A frame that is about to begin a fill needs it: the tail has no room for its record; or it closes one that
-- holds a record; or it has left, and the reader wished for one that holds a record.
abbrev pub NeedsFill : ℕ → List ℕ → List Reservation → (found : Bool) → Purpose → Progress → Type 0
NeedsFill size cuts records found (for_record moment len) waiting =
    FitsBehind size (tail_at cuts records) (reservation_for moment len records) → ⊥
NeedsFill size cuts records found for_close waiting = tail_at cuts records ≢ []
NeedsFill size cuts records found kind (reserved number) = ⊥
NeedsFill size cuts records found kind left = (tail_at cuts records ≢ []) × IsTrue found
