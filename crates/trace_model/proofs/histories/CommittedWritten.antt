-- Of a history that keeps the discipline of the stack, each committed record has been written.
use Rattle.std.proofs.Common.{◌≡◌, ◌⊎◌, inl, inr, ⊎_elim, ℕ, zero, suc, ◌<◌, List, [], ◌∷◌, ◌++◌, length, fold, Option}
use Rattle.std.proofs.Common.{Some, None, refl, sym, ap, ◌∙◌, subst, arith, length-append}
use Rattle.std.specs.Prelude.{IsSomeAnd, unwrap_or, replicate}
use Rattle.std.specs.List.{All, AllByRecursion}
use Rattle.std.proofs.lemmas.List.{length-replicate}
use Rattle.std.proofs.lemmas.List.Elements.{All-from_recursion}
use Rattle.trace_model.specs.Words.{slot_len, padded}
use Rattle.trace_model.specs.History.{HistoryEvent, push, push_close, open_fill, reserve, leave, wished, Reservation}
use Rattle.trace_model.specs.History.{HasItsBytes, PushedFrame, record_frame, close_frame, WriterState, reservation_for}
use Rattle.trace_model.specs.History.{records_with_payload, after_reserve, records_after_leave, after_event}
use Rattle.trace_model.specs.History.{writer_after, reserved_records, settled_prefix, MayAct, IsHistory}
use Rattle.trace_model.specs.Packing.{FillsSlot}
use Rattle.trace_model.proofs.words.Lengths.{length-padded}
use Rattle.trace_model.proofs.histories.NextRecords.{length-records_with_payload}
use Rattle.trace_model.proofs.histories.HistoryPrefixes.{none_stands, settled_within}
use Rattle.trace_model.proofs.histories.Allowed.{AreAllowed, allowed-IsHistory, AreAllowed-front}

-- ---- numbers in a list of records

-- this record has this number
abbrev StandsAt : ℕ → List Reservation → Reservation → Type 0
StandsAt k [] r = ⊥
StandsAt zero (x ∷ records) r = x ≡ r
StandsAt (suc k) (x ∷ records) r = StandsAt k records r

StandsAt-lt : (k : ℕ) (records : List Reservation) (r : Reservation) → StandsAt k records r → k < length records
StandsAt-lt k [] r h = absurd h
StandsAt-lt zero (x ∷ records) r h = omega arith
StandsAt-lt (suc k) (x ∷ records) r h = omega (arith, StandsAt-lt k records r h)

-- after one more record
StandsAt-push : (k : ℕ) (records : List Reservation) (last r : Reservation) → StandsAt k (records ++ last ∷ []) r
    → StandsAt k records r ⊎ ((k ≡ length records) × (last ≡ r))
StandsAt-push zero [] last r h = inr (refl, h)
StandsAt-push (suc k) [] last r h = absurd h
StandsAt-push zero (x ∷ records) last r h = inl h
StandsAt-push (suc k) (x ∷ records) last r h =
    ⊎_elim (λ old. inl old) (λ new. inr (ap suc new.0, new.1)) (StandsAt-push k records last r h)

-- a record with this payload
abbrev written_with : List ℕ → Reservation → Reservation
written_with payload r = record { moment = r.moment; len = r.len; bytes = Some (padded payload) }

-- once the record of this number is finished: it was that one, or another one that stays as it was
abbrev IsFinished : ℕ → List ℕ → List Reservation → ℕ → Reservation → Type 0
IsFinished number payload records k r =
    ((before : Reservation) × StandsAt number records before × (written_with payload before ≡ r) × (number ≡ k))
    ⊎ ((number ≡ k → ⊥) × StandsAt k records r)

IsFinished-cons : (number : ℕ) (payload : List ℕ) (x : Reservation) (records : List Reservation) (k : ℕ)
    (r : Reservation) → IsFinished number payload records k r
    → IsFinished (suc number) payload (x ∷ records) (suc k) r
IsFinished-cons number payload x records k r (inl one) = inl (one.0, one.1, one.2, ap suc one.3)
IsFinished-cons number payload x records k r (inr other) = inr (λ e. other.0 (omega arith), other.1)

StandsAt-finished : (number : ℕ) (payload : List ℕ) (records : List Reservation) (k : ℕ) (r : Reservation)
    → StandsAt k (records_with_payload (Some number) (Some payload) records) r → IsFinished number payload records k r
StandsAt-finished number payload [] k r h = absurd h
StandsAt-finished zero payload (x ∷ records) zero r h = inl (x, refl, h, refl)
StandsAt-finished zero payload (x ∷ records) (suc k) r h = inr (λ e. omega arith, h)
StandsAt-finished (suc number) payload (x ∷ records) zero r h = inr (λ e. omega arith, h)
StandsAt-finished (suc number) payload (x ∷ records) (suc k) r h =
    IsFinished-cons number payload x records k r (StandsAt-finished number payload records k r h)

-- ---- what the stack and the records keep

-- the number of a frame's record is that of one reserved for the frame's length
abbrev HasItsRecord : List Reservation → ℕ → Option ℕ → Type 0
HasItsRecord records len None = Unit {0}
HasItsRecord records len (Some number) =
    (number < length records) × ((r : Reservation) → StandsAt number records r → r.len ≡ slot_len len)

abbrev IsFrameOf : List Reservation → PushedFrame → Type 0
IsFrameOf records (record_frame moment len number) = HasItsRecord records len number
IsFrameOf records close_frame = Unit {0}

abbrev HasNumber : ℕ → PushedFrame → Type 0
HasNumber k (record_frame moment len number) = number ≡ Some k
HasNumber k close_frame = ⊥

-- a frame with this number is on the stack
abbrev Stands : ℕ → List PushedFrame → Type 0
Stands k [] = ⊥
Stands k (f ∷ stack) = HasNumber k f ⊎ Stands k stack

-- each record is written, or its frame is on the stack; in both cases it fills its slot
record IsKept (stack : List PushedFrame) (records : List Reservation) : Type 0 where
  frames : AllByRecursion (IsFrameOf records) stack
  each : (k : ℕ) (r : Reservation) → StandsAt k records r → HasItsBytes r ⊎ Stands k stack
  fills : (k : ℕ) (r : Reservation) → StandsAt k records r → FillsSlot r

bytes_fill : (len : ℕ) (bytes : Option (List ℕ)) → IsSomeAnd bytes (λ b. length b ≡ len)
    → length (unwrap_or bytes (replicate len 0)) ≡ len
bytes_fill len None h = absurd h
bytes_fill len (Some b) h = h

written_fills : (r : Reservation) → HasItsBytes r → FillsSlot r
written_fills r h = bytes_fill r.len r.bytes h

none_is_no_number : (k : ℕ) → (let none : Option ℕ = None in none ≡ Some k) → ⊥
none_is_no_number k e = absurd (cc)

same_number : (n k : ℕ) → (let some : Option ℕ = Some n in some ≡ Some k) → n ≡ k
same_number n k e = cc

-- ---- a reservation

HasItsRecord-push : (records : List Reservation) (last : Reservation) (len : ℕ) (number : Option ℕ)
    → HasItsRecord records len number → HasItsRecord (records ++ last ∷ []) len number
HasItsRecord-push records last len None h = tt
HasItsRecord-push records last len (Some number) h =
    let below : number < length records = h.0 in (
      omega (arith, length-append records (last ∷ [])),
      λ r at.
          ⊎_elim (h.1 r) (λ new. let past : number ≡ length records = new.0 in absurd (omega arith))
          (StandsAt-push number records last r at),
    )

frames-push : (records : List Reservation) (last : Reservation) (stack : List PushedFrame)
    → AllByRecursion (IsFrameOf records) stack → AllByRecursion (IsFrameOf (records ++ last ∷ [])) stack
frames-push records last [] h = tt
frames-push records last (record_frame moment len number ∷ stack) h =
    (HasItsRecord-push records last len number h.0, frames-push records last stack h.1)
frames-push records last (close_frame ∷ stack) h = (tt, frames-push records last stack h.1)

reserve-IsKept : (moment len : ℕ) (number : Option ℕ) (stack : List PushedFrame) (records : List Reservation)
    → number ≡ None → IsKept (record_frame moment len number ∷ stack) records
    → (let w = after_reserve (record_frame moment len number) stack records in IsKept w.stack w.records)
reserve-IsKept moment len (Some number) stack records none h = absurd (none_is_no_number number (sym none))
reserve-IsKept moment len None stack records none h =
    let last = reservation_for moment len records in
    record {
      frames = (
        (
          omega (arith, length-append records (last ∷ [])),
          λ r at.
              ⊎_elim (λ old. let below = StandsAt-lt (length records) records r old in absurd (omega arith))
              (λ new. ap (λ (q : Reservation). q.len) (sym new.1))
              (StandsAt-push (length records) records last r at),
        ),
        frames-push records last stack h.frames.1,
      );
      each = λ k r at. ⊎_elim
          (λ old.
          ⊎_elim (λ done. inl done)
          (λ stands. inr (inr (⊎_elim (λ e. absurd (none_is_no_number k e)) (λ below. below) stands)))
          (h.each k r old))
          (λ new. inr (inl (ap (λ (n : ℕ). Some n) (sym new.0))))
          (StandsAt-push k records last r at);
      fills =
          λ k r at.
          ⊎_elim (λ old. h.fills k r old) (λ new. subst FillsSlot new.1 (length-replicate (slot_len len) 0))
          (StandsAt-push k records last r at);
    }

-- ---- a frame that leaves

HasItsRecord-finished : (number : ℕ) (payload : List ℕ) (records : List Reservation) (len : ℕ) (other : Option ℕ)
    → HasItsRecord records len other
    → HasItsRecord (records_with_payload (Some number) (Some payload) records) len other
HasItsRecord-finished number payload records len None h = tt
HasItsRecord-finished number payload records len (Some other) h = (
  subst (λ (n : ℕ). other < n) (sym (length-records_with_payload (Some number) (Some payload) records)) h.0,
  λ r at. ⊎_elim
      (λ one.
      ap (λ (q : Reservation). q.len) (sym one.2)
      ∙ h.1 one.0 (subst (λ (n : ℕ). StandsAt n records one.0) one.3 one.1))
      (λ same. h.1 r same.1)
      (StandsAt-finished number payload records other r at),
)

frames-finished : (number : ℕ) (payload : List ℕ) (records : List Reservation) (stack : List PushedFrame)
    → AllByRecursion (IsFrameOf records) stack
    → AllByRecursion (IsFrameOf (records_with_payload (Some number) (Some payload) records)) stack
frames-finished number payload records [] h = tt
frames-finished number payload records (record_frame moment len other ∷ stack) h =
    (HasItsRecord-finished number payload records len other h.0, frames-finished number payload records stack h.1)
frames-finished number payload records (close_frame ∷ stack) h = (tt, frames-finished number payload records stack h.1)

-- the payload fills the slot that was reserved for it
written_with-IsWritten : (payload : List ℕ) (len : ℕ) (before r : Reservation) → written_with payload before ≡ r
    → before.len ≡ slot_len len → slot_len (length payload) ≡ slot_len len → HasItsBytes r
written_with-IsWritten payload len before r is slot fits =
    subst HasItsBytes is (length-padded payload ∙ fits ∙ sym slot)

leave-IsKept : (f : PushedFrame) (stack : List PushedFrame) (records : List Reservation) (payload : Option (List ℕ))
    → MayAct (f ∷ stack) (leave payload) → IsKept (f ∷ stack) records
    → IsKept stack (records_after_leave f payload records)
leave-IsKept (record_frame moment len None) stack records payload may h = record {
  frames = h.frames.1;
  each =
      λ k r at.
      ⊎_elim (λ done. inl done)
      (λ stands. inr (⊎_elim (λ e. absurd (none_is_no_number k e)) (λ below. below) stands)) (h.each k r at);
  fills = h.fills;
}
leave-IsKept (record_frame moment len (Some number)) stack records None may h = absurd may
leave-IsKept (record_frame moment len (Some number)) stack records (Some payload) may h = record {
  frames = frames-finished number payload records stack h.frames.1;
  each = λ k r at. ⊎_elim
      (λ one. inl (written_with-IsWritten payload len one.0 r one.2 (h.frames.0.1 one.0 one.1) may))
      (λ other.
      ⊎_elim (λ done. inl done)
      (λ stands. inr (⊎_elim (λ e. absurd (other.0 (same_number number k e))) (λ below. below) stands))
      (h.each k r other.1))
      (StandsAt-finished number payload records k r at);
  fills = λ k r at. ⊎_elim
      (λ one. written_fills r (written_with-IsWritten payload len one.0 r one.2 (h.frames.0.1 one.0 one.1) may))
      (λ other. h.fills k r other.1)
      (StandsAt-finished number payload records k r at);
}
leave-IsKept close_frame stack records payload may h = record {
  frames = h.frames.1;
  each =
      λ k r at.
      ⊎_elim (λ done. inl done) (λ stands. inr (⊎_elim (λ e. absurd e) (λ below. below) stands)) (h.each k r at);
  fills = h.fills;
}

-- ---- a whole history

after_event-IsKept : (stack : List PushedFrame) (records : List Reservation) (a : HistoryEvent) → MayAct stack a
    → IsKept stack records → (let w = after_event stack records a in IsKept w.stack w.records)
after_event-IsKept stack records (push moment len) may h = record {
  frames = (tt, h.frames);
  each = λ k r at. ⊎_elim (λ done. inl done) (λ stands. inr (inr stands)) (h.each k r at);
  fills = h.fills;
}
after_event-IsKept stack records push_close may h = record {
  frames = (tt, h.frames);
  each = λ k r at. ⊎_elim (λ done. inl done) (λ stands. inr (inr stands)) (h.each k r at);
  fills = h.fills;
}
after_event-IsKept stack records open_fill may h = h
after_event-IsKept [] records reserve may h = h
after_event-IsKept (record_frame moment len number ∷ stack) records reserve may h =
    reserve-IsKept moment len number stack records may h
after_event-IsKept (close_frame ∷ stack) records reserve may h = h
after_event-IsKept [] records (leave payload) may h = h
after_event-IsKept (f ∷ stack) records (leave payload) may h = leave-IsKept f stack records payload may h
after_event-IsKept stack records wished may h = h

fold-IsKept : (w : WriterState) (history : List HistoryEvent) → AreAllowed w history → IsKept w.stack w.records
    → (let v = fold (λ v a. after_event v.stack v.records a) w history in IsKept v.stack v.records)
fold-IsKept w [] allowed h = h
fold-IsKept w (a ∷ history) allowed h =
    fold-IsKept (after_event w.stack w.records a) history allowed.1 (after_event-IsKept w.stack w.records a allowed.0 h)

each_written : (records : List Reservation) → ((k : ℕ) (r : Reservation) → StandsAt k records r → HasItsBytes r)
    → AllByRecursion HasItsBytes records
each_written [] h = tt
each_written (r ∷ records) h = (h 0 r refl, each_written records (λ k q at. h (suc k) q at))

pub committed-IsWritten : (history : List HistoryEvent) → IsHistory history
    → All HasItsBytes (reserved_records (settled_prefix history))
committed-IsWritten history keeps =
    let start : WriterState = record { stack = []; records = [] } in
    let front = settled_prefix history in
    let found = settled_within (length history) history in
    let allowed : AreAllowed start front =
    AreAllowed-front start front found.is_prefix.0
    (subst (AreAllowed start) found.is_prefix.1 (allowed-IsHistory history keeps)) in
    let kept =
    fold-IsKept start front allowed
    (record { frames = tt; each = λ k r at. absurd at; fills = λ k r at. absurd at }) in
    let none : (writer_after front).stack ≡ [] = none_stands front found.settled in
    All-from_recursion HasItsBytes (reserved_records front)
    (each_written (reserved_records front)
    (λ k r at. ⊎_elim (λ done. done) (λ stands. absurd (subst (Stands k) none stands)) (kept.each k r at)))

each_fills : (records : List Reservation) → ((k : ℕ) (r : Reservation) → StandsAt k records r → FillsSlot r)
    → AllByRecursion FillsSlot records
each_fills [] h = tt
each_fills (r ∷ records) h = (h 0 r refl, each_fills records (λ k q at. h (suc k) q at))

-- each reserved record fills its slot, whether its frame is on the stack or has left
pub reserved-FillsSlot : (history : List HistoryEvent) → IsHistory history
    → AllByRecursion FillsSlot (reserved_records history)
reserved-FillsSlot history keeps =
    let start : WriterState = record { stack = []; records = [] } in
    let kept =
    fold-IsKept start history (allowed-IsHistory history keeps)
    (record { frames = tt; each = λ k r at. absurd at; fills = λ k r at. absurd at }) in
    each_fills (reserved_records history) kept.fills
