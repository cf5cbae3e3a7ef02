-- The fills of a CPU: which records are in which page, and when a new page is begun.
-- After kernel/trace/ring_buffer.c (rb_reserve_next_event, rb_move_tail): a record that doesn't fit in
-- what the tail page has left goes to the next page. docs/formats/pages.md, "Record words", and docs/formats/ring.md,
-- "The ring".
use Rattle.std.specs.Prelude.{◌≡◌, ◌≢◌, ℕ, ◌+◌, ◌-◌, ◌<◌, ◌≤◌, Bool, true, false, IsTrue, fold, List, [], ◌∷◌, ◌++◌}
use Rattle.std.specs.Prelude.{length, take, drop, map, Option, Some, None, slice_index_or}
use Rattle.std.specs.List.{AllByRecursion}
use Rattle.trace_model.specs.Words.{encoded_len, page_encoding}
use Rattle.trace_model.specs.History.{HistoryEvent, open_fill, reserve, wished, Reservation, PushedFrame, record_frame}
use Rattle.trace_model.specs.History.{close_frame, writer_after, reserved_records, reservation_for, as_record}

-- how many records were reserved before each open, in order
abbrev pub opens_behind : List HistoryEvent → List HistoryEvent → List ℕ
opens_behind front [] = []
opens_behind front (open_fill ∷ rest) =
    length (reserved_records front) ∷ opens_behind (front ++ open_fill ∷ []) rest
opens_behind front (event ∷ rest) = opens_behind (front ++ event ∷ []) rest

abbrev pub opens_of : List HistoryEvent → List ℕ
opens_of history = opens_behind [] history

-- how many records were reserved before a fill was begun, 0 if it isn't begun; start is the number of the first fill
abbrev pub first_of_fill : List HistoryEvent → ℕ → ℕ → ℕ
first_of_fill history start f = slice_index_or (0 ∷ opens_of history) (f - start) 0

-- a list cut at rising indexes, of which none is below from: one more sublist than there are cuts
abbrev pub cut_from : {A : Type 0} → ℕ → List ℕ → List A → List (List A)
cut_from from [] xs = drop from xs ∷ []
cut_from from (cut ∷ cuts) xs = take (cut - from) (drop from xs) ∷ cut_from cut cuts xs

-- The fills: the reserved records, cut at each open.
abbrev pub fills_of : List HistoryEvent → List (List Reservation)
fills_of history = cut_from 0 (opens_of history) (reserved_records history)

-- the records of the fill that is begun last
abbrev pub tail_of : List HistoryEvent → List Reservation
tail_of history = slice_index_or (fills_of history) (length (fills_of history) - 1) []

-- how many bytes records take in one page, the first of them after a record of moment prev
abbrev pub len_behind : ℕ → List Reservation → ℕ
len_behind prev [] = 0
len_behind prev (r ∷ records) = encoded_len r.len (r.moment - prev) false + len_behind r.moment records

-- how many bytes the records of a fill take: the first has no delta
abbrev pub fill_len : List Reservation → ℕ
fill_len [] = 0
fill_len (r ∷ records) = encoded_len r.len 0 true + len_behind r.moment records

-- the record has as many bytes as its slot; while they are open they count as that many zeros
abbrev pub FillsSlot : Reservation → Type 0
FillsSlot r = length (as_record r).bytes ≡ r.len

-- what the writer reckons for records that fill their slots is the length of the page's data that holds them
abbrev pub FillHasItsLength : Type 0
FillHasItsLength = (records : List Reservation)
    → AllByRecursion FillsSlot records
    → fill_len records ≡ length (page_encoding (map as_record records))

-- the record fits in a page of this size after these
abbrev pub FitsBehind : ℕ → List Reservation → Reservation → Type 0
FitsBehind size records r = fill_len (records ++ r ∷ []) ≤ size

-- what the frame on top would reserve: nothing for a close frame, and for one that has its record
abbrev pub next_reservation_of : List PushedFrame → List Reservation → Option Reservation
next_reservation_of [] records = None
next_reservation_of (record_frame moment len None ∷ stack) records = Some (reservation_for moment len records)
next_reservation_of (record_frame moment len (Some number) ∷ stack) records = None
next_reservation_of (close_frame ∷ stack) records = None

abbrev pub next_reservation : List HistoryEvent → Option Reservation
next_reservation history = next_reservation_of (writer_after history).stack (reserved_records history)

-- the reader's wish was found since the last fill was begun
abbrev pub is_wished : List HistoryEvent → Bool
is_wished history = fold wished_after false history
  where
    wished_after : Bool → HistoryEvent → Bool
    wished_after found open_fill = false
    wished_after found wished = true
    wished_after found _ = found

-- The tail page may be left without a record that needs the next one: for the close frame on top; or, if the
-- stack is empty, for the reader, who wished for it.
abbrev pub MayCloseTail : List HistoryEvent → List PushedFrame → Type 0
MayCloseTail front [] = IsTrue (is_wished front)
MayCloseTail front (record_frame moment len number ∷ stack) = ⊥
MayCloseTail front (close_frame ∷ stack) = Unit {0}

-- What was done is packed in pages of this size: each fill has room in one; what is reserved fits after
-- its fill; and a fill is begun only after one that isn't empty, for a record that doesn't fit, by a close
-- frame, or for the reader's wish.
pub record IsPacked (history : List HistoryEvent) (size : ℕ) : Type 0 where
  pub rooms : (k : ℕ) → k < length (fills_of history) → fill_len (slice_index_or (fills_of history) k []) ≤ size
  pub reserves : (front rest : List HistoryEvent) (r : Reservation)
      → history ≡ front ++ reserve ∷ rest
      → next_reservation front ≡ Some r
      → FitsBehind size (tail_of front) r
  pub begins : (front rest : List HistoryEvent)
      → history ≡ front ++ open_fill ∷ rest
      → tail_of front ≢ []
  pub needed : (front rest : List HistoryEvent) (r : Reservation)
      → history ≡ front ++ open_fill ∷ rest
      → next_reservation front ≡ Some r
      → FitsBehind size (tail_of front) r
      → ⊥
  pub asked : (front rest : List HistoryEvent)
      → history ≡ front ++ open_fill ∷ rest
      → next_reservation front ≡ None
      → MayCloseTail front (writer_after front).stack
