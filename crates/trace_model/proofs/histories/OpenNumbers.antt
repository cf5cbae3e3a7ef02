-- The numbers of the frames on the stack: each is that of a record without bytes, no two frames have the same, and
-- none is that of a committed record.
use Rattle.std.proofs.Common.{◌≡◌, ◌≢◌, ◌⊎◌, inl, inr, ℕ, zero, suc, ◌≤◌, List, [], ◌∷◌, ◌++◌, length, fold, Some, None}
use Rattle.std.proofs.Common.{refl, sym, ap, ◌∙◌, subst, arith}
use Rattle.std.specs.List.{slice_get}
use Rattle.std.proofs.lemmas.Option.{none-some, same_Some, slice_get_within}
use Rattle.trace_model.specs.History.{HistoryEvent, push, push_close, open_fill, reserve, leave, wished, Reservation}
use Rattle.trace_model.specs.History.{PushedFrame, record_frame, close_frame, WriterState, reservation_for}
use Rattle.trace_model.specs.History.{records_with_payload, after_event, writer_after, reserved_records, MayAct}
use Rattle.trace_model.specs.History.{IsHistory}
use Rattle.trace_model.proofs.histories.Allowed.{AreAllowed, allowed-IsHistory}
use Rattle.trace_model.proofs.collections.Elements.{get_in_front}
use Rattle.trace_model.proofs.histories.Committed.{number_with, Behind, committed_len, committed_prefix}

-- the record of this number has no bytes yet
pub record IsOpenAt (records : List Reservation) (number : ℕ) : Type 0 where
  pub record_is : Reservation
  pub at : slice_get records number ≡ Some record_is
  pub unwritten : record_is.bytes ≡ None

-- a frame of these has the number
abbrev pub HasNumber : ℕ → List PushedFrame → Type 0
HasNumber number [] = ⊥
HasNumber number (f ∷ stack) = (number_with f ≡ Some number) ⊎ HasNumber number stack

-- each frame's number is that of a record without bytes, and no frame below it has that number
abbrev pub AreOpen : List Reservation → List PushedFrame → Type 0
AreOpen records [] = Unit {0}
AreOpen records (f ∷ stack) =
    ((number : ℕ) → number_with f ≡ Some number → IsOpenAt records number × (HasNumber number stack → ⊥))
    × AreOpen records stack

pub open_at : (records : List Reservation) (stack : List PushedFrame) (number : ℕ) → AreOpen records stack
    → HasNumber number stack → IsOpenAt records number
open_at records [] number h has = absurd has
open_at records (f ∷ stack) number h (inl is) = (h.0 number is).0
open_at records (f ∷ stack) number h (inr below) = open_at records stack number h.1 below

pub behind_at : (least : ℕ) (stack : List PushedFrame) (number : ℕ) → Behind least stack → HasNumber number stack
    → least ≤ number
behind_at least [] number h has = absurd has
behind_at least (f ∷ stack) number h (inl is) = h.0 number is
behind_at least (f ∷ stack) number h (inr below) = behind_at least stack number h.1 below

-- ---- a reservation

open_in_front : (records : List Reservation) (last : Reservation) (number : ℕ) → IsOpenAt records number
    → IsOpenAt (records ++ last ∷ []) number
open_in_front records last number h =
    record {
      record_is = h.record_is;
      at = get_in_front records (last ∷ []) number h.record_is h.at;
      unwritten = h.unwritten;
    }

are_open_in_front : (records : List Reservation) (last : Reservation) (stack : List PushedFrame) → AreOpen records stack
    → AreOpen (records ++ last ∷ []) stack
are_open_in_front records last [] h = tt
are_open_in_front records last (f ∷ stack) h = (
  (λ number is. let one = h.0 number is in (open_in_front records last number one.0, one.1)),
  are_open_in_front records last stack h.1,
)

get_last : (records : List Reservation) (last : Reservation)
    → slice_get (records ++ last ∷ []) (length records) ≡ Some last
get_last [] last = refl
get_last (r ∷ records) last = get_last records last

-- no frame has the number of the next record
none_has_next : (records : List Reservation) (stack : List PushedFrame) → AreOpen records stack
    → HasNumber (length records) stack → ⊥
none_has_next records stack h has = let one = open_at records stack (length records) h has in
    let within = slice_get_within records (length records) one.record_is one.at in
    absurd (omega arith)

-- ---- a frame that leaves

get_finished : (number k : ℕ) (payload : List ℕ) (records : List Reservation) → k ≢ number
    → slice_get (records_with_payload (Some number) (Some payload) records) k ≡ slice_get records k
get_finished number k payload [] ne = refl
get_finished zero zero payload (r ∷ records) ne = absurd (ne refl)
get_finished zero (suc k) payload (r ∷ records) ne = refl
get_finished (suc number) zero payload (r ∷ records) ne = refl
get_finished (suc number) (suc k) payload (r ∷ records) ne = get_finished number k payload records (λ e. ne (ap suc e))

are_open_finished : (number : ℕ) (payload : List ℕ) (records : List Reservation) (stack : List PushedFrame)
    → (HasNumber number stack → ⊥) → AreOpen records stack
    → AreOpen (records_with_payload (Some number) (Some payload) records) stack
are_open_finished number payload records [] lacks h = tt
are_open_finished number payload records (f ∷ stack) lacks h = (
  (λ k is. let one = h.0 k is in (
    record {
      record_is = one.0.record_is;
      at = get_finished number k payload records (λ e. lacks (inl (is ∙ ap (λ (n : ℕ). Some n) e))) ∙ one.0.at;
      unwritten = one.0.unwritten;
    },
    one.1,
  )),
  are_open_finished number payload records stack (λ has. lacks (inr has)) h.1,
)

-- ---- a whole history

open_after_event : (stack : List PushedFrame) (records : List Reservation) (a : HistoryEvent) → MayAct stack a
    → AreOpen records stack → (let w = after_event stack records a in AreOpen w.records w.stack)
open_after_event stack records (push moment len) may h = ((λ k e. absurd (none-some k e)), h)
open_after_event stack records push_close may h = ((λ k e. absurd (none-some k e)), h)
open_after_event stack records open_fill may h = h
open_after_event [] records reserve may h = absurd may
open_after_event (record_frame moment len None ∷ stack) records reserve may h =
    let last : Reservation = reservation_for moment len records in (
      (λ k e. let same : length records ≡ k = same_Some (length records) k e in (
        subst (IsOpenAt (records ++ last ∷ [])) same
            record { record_is = last; at = get_last records last; unwritten = refl },
        λ has. none_has_next records stack h.1 (subst (λ (n : ℕ). HasNumber n stack) (sym same) has),
      )),
      are_open_in_front records last stack h.1,
    )
open_after_event (record_frame moment len (Some number) ∷ stack) records reserve may h = h
open_after_event (close_frame ∷ stack) records reserve may h = absurd may
open_after_event [] records (leave payload) may h = absurd may
open_after_event (record_frame moment len None ∷ stack) records (leave payload) may h = h.1
open_after_event (record_frame moment len (Some number) ∷ stack) records (leave None) may h = absurd may
open_after_event (record_frame moment len (Some number) ∷ stack) records (leave (Some payload)) may h =
    are_open_finished number payload records stack (h.0 number refl).1 h.1
open_after_event (close_frame ∷ stack) records (leave payload) may h = h.1
open_after_event stack records wished may h = h

fold_open : (w : WriterState) (history : List HistoryEvent) → AreAllowed w history → AreOpen w.records w.stack
    → (let v = fold (λ v a. after_event v.stack v.records a) w history in AreOpen v.records v.stack)
fold_open w [] allowed h = h
fold_open w (a ∷ history) allowed h =
    fold_open (after_event w.stack w.records a) history allowed.1 (open_after_event w.stack w.records a allowed.0 h)

-- of a history that keeps the discipline of the stack
pub numbers_open : (history : List HistoryEvent) → IsHistory history
    → AreOpen (reserved_records history) (writer_after history).stack
numbers_open history keeps = fold_open record { stack = []; records = [] } history (allowed-IsHistory history keeps) tt

-- and of any
pub numbers_uncommitted : (history : List HistoryEvent) (number : ℕ) → HasNumber number (writer_after history).stack
    → committed_len history ≤ number
numbers_uncommitted history number has =
    behind_at (committed_len history) (writer_after history).stack number (committed_prefix history).behind has
