-- What the writer's frames of one CPU did, and the records that this leaves. After
-- Documentation/trace/ring-buffer-design.rst, "The Generic Ring Buffer": a frame that interrupts another ends before
-- it, and nothing is committed until the outermost one ends.
use Rattle.std.specs.Prelude.{◌≡◌, ℕ, zero, suc, max, ⊤, Bool, true, false, if◌then◌else◌, List, [], ◌∷◌, ◌++◌, length}
use Rattle.std.specs.Prelude.{take, map, fold, replicate, Option, Some, None, IsSomeAnd, unwrap_or}
use Rattle.trace_model.specs.Record.{Record}
use Rattle.trace_model.specs.Words.{slot_len, padded}

-- push: a record frame of this moment, for a payload of len bytes. push_close: a close frame, which only begins the
-- next fill. leave: of the frame on top, with the payload that it wrote, or without a record. open_fill: a fill is
-- begun, reserve: the next record is reserved, both for the frame on top. wished: when every frame has left, the
-- outermost one, which is still there, found that the reader wants the tail page, and goes on to begin the next fill.
pub data HistoryEvent : Type 0 where
  push : (moment len : ℕ) → HistoryEvent
  push_close open_fill reserve wished : HistoryEvent
  leave : (payload : Option (List ℕ)) → HistoryEvent

-- A record from its reservation on. Its bytes are open until its frame leaves.
pub record Reservation : Type 0 where
  pub moment : ℕ
  pub len : ℕ
  pub bytes : Option (List ℕ)

-- its frame has left, and its bytes fill its slot
abbrev pub HasItsBytes : Reservation → Type 0
HasItsBytes r = IsSomeAnd r.bytes (λ bytes. length bytes ≡ r.len)

-- A frame that was pushed and hasn't left. A record frame has what it was pushed with, and the number of its
-- record once it has reserved one.
pub data PushedFrame : Type 0 where
  record_frame : (moment len : ℕ) (number : Option ℕ) → PushedFrame
  close_frame : PushedFrame

-- the stack, the top first, and the reserved records, the first reservation first
pub record WriterState : Type 0 where
  pub stack : List PushedFrame
  pub records : List Reservation

-- the moment of the last record, 0 where there is none
abbrev pub last_moment : List Reservation → ℕ
last_moment [] = 0
last_moment (r ∷ []) = r.moment
last_moment (r ∷ s ∷ records) = last_moment (s ∷ records)

-- a record of this moment, for a payload of len bytes, after these: a moment below the last one's is
-- raised to it
abbrev pub reservation_for : (moment len : ℕ) → List Reservation → Reservation
reservation_for moment len records =
    record { moment = max moment (last_moment records); len = slot_len len; bytes = None }

-- the record of this number with its bytes, which fill its slot
abbrev pub records_with_payload : Option ℕ → Option (List ℕ) → List Reservation → List Reservation
records_with_payload None payload records = records
records_with_payload (Some number) None records = records
records_with_payload (Some number) (Some payload) [] = []
records_with_payload (Some zero) (Some payload) (r ∷ records) = record r { bytes = Some (padded payload) } ∷ records
records_with_payload (Some (suc number)) (Some payload) (r ∷ records) =
    r ∷ records_with_payload (Some number) (Some payload) records

-- a record frame without a record gets the next one; any other frame stays as it is
abbrev pub after_reserve : PushedFrame → List PushedFrame → List Reservation → WriterState
after_reserve (record_frame moment len None) stack records = record {
  stack = record_frame moment len (Some (length records)) ∷ stack;
  records = records ++ reservation_for moment len records ∷ [];
}
after_reserve frame stack records = record { stack = frame ∷ stack; records = records }

-- the record of a frame that leaves gets its bytes, if it has one
abbrev pub records_after_leave : PushedFrame → Option (List ℕ) → List Reservation → List Reservation
records_after_leave (record_frame moment len number) payload records = records_with_payload number payload records
records_after_leave close_frame payload records = records

-- what an event makes of it; if the stack is empty, reserve and leave do nothing
abbrev pub after_event : List PushedFrame → List Reservation → HistoryEvent → WriterState
after_event stack records (push moment len) =
    record { stack = record_frame moment len None ∷ stack; records = records }
after_event stack records push_close = record { stack = close_frame ∷ stack; records = records }
after_event (f ∷ stack) records reserve = after_reserve f stack records
after_event (f ∷ stack) records (leave payload) =
    record { stack = stack; records = records_after_leave f payload records }
after_event stack records _ = record { stack = stack; records = records }

-- what a history leaves, from nothing
abbrev pub writer_after : List HistoryEvent → WriterState
writer_after history = fold (λ w a. after_event w.stack w.records a) record { stack = []; records = [] } history

-- all reserved records, the first reservation first; one's index here is its number
abbrev pub reserved_records : List HistoryEvent → List Reservation
reserved_records history = (writer_after history).records

-- the stack is empty
abbrev pub is_settled : List HistoryEvent → Bool
is_settled history = elim (writer_after history).stack [ [] ↦ true | frame ∷ stack ↦ false ]

-- of the prefixes of at most n events, the longest after which the stack is empty
abbrev pub settled_prefix_within : ℕ → List HistoryEvent → List HistoryEvent
settled_prefix_within zero history = []
settled_prefix_within (suc n) history =
    if is_settled (take (suc n) history) then take (suc n) history else settled_prefix_within n history

-- the longest prefix of a history after which the stack is empty
abbrev pub settled_prefix : List HistoryEvent → List HistoryEvent
settled_prefix history = settled_prefix_within (length history) history

-- A reserved record as it is read. Until its frame has left, its bytes are taken as zeros; none of the
-- committed records of a history is in that state.
abbrev pub as_record : Reservation → Record
as_record r = record { moment = r.moment; bytes = unwrap_or r.bytes (replicate r.len 0) }

-- The committed records: what was reserved up to the last point at which every frame had left. One's index here is its
-- number.
abbrev pub committed_records : List HistoryEvent → List Record
committed_records history = map as_record (reserved_records (settled_prefix history))

-- a reservation is a record frame's that has no record yet
abbrev pub MayReserve : List PushedFrame → Type 0
MayReserve [] = ⊥
MayReserve (record_frame moment len number ∷ stack) = number ≡ None
MayReserve (close_frame ∷ stack) = ⊥

-- a fill is begun for a frame that has no record yet: a record frame that needs one, or a close frame; or, if
-- the stack is empty, by the outermost frame, which has left
abbrev pub MayOpen : List PushedFrame → Type 0
MayOpen [] = ⊤
MayOpen (record_frame moment len number ∷ stack) = number ≡ None
MayOpen (close_frame ∷ stack) = ⊤

-- A frame that has reserved leaves with a payload that takes exactly the slot which it was pushed for, to the
-- last byte or with zeros after it; any other frame leaves with none.
abbrev pub MayLeave : List PushedFrame → Option (List ℕ) → Type 0
MayLeave [] payload = ⊥
MayLeave (record_frame moment len None ∷ stack) payload = payload ≡ None
MayLeave (record_frame moment len (Some number) ∷ stack) None = ⊥
MayLeave (record_frame moment len (Some number) ∷ stack) (Some payload) = slot_len (length payload) ≡ slot_len len
MayLeave (close_frame ∷ stack) payload = payload ≡ None

-- a wish is found only when the stack is empty
abbrev pub MayWish : List PushedFrame → Type 0
MayWish [] = ⊤
MayWish (f ∷ stack) = ⊥

-- What may be done while the stack holds these frames. A push may come at any time; to reserve and to leave
-- are of the frame on top, so there must be one.
abbrev pub MayAct : List PushedFrame → HistoryEvent → Type 0
MayAct stack (push moment len) = ⊤
MayAct stack push_close = ⊤
MayAct stack open_fill = MayOpen stack
MayAct stack reserve = MayReserve stack
MayAct stack (leave payload) = MayLeave stack payload
MayAct stack wished = MayWish stack

-- The discipline of the stack: each event is one that the stack after the events before it allows.
abbrev pub IsHistory : List HistoryEvent → Type 0
IsHistory history = (front rest : List HistoryEvent) (a : HistoryEvent) → history ≡ front ++ a ∷ rest
    → MayAct (writer_after front).stack a
