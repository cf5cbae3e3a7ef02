-- The reserved records after one more event.
use Rattle.std.proofs.Common.{◌≡◌, ◌≢◌, ℕ, zero, suc, ◌≤◌, List, [], ◌∷◌, ◌++◌, length, Option, Some, None, refl, ap}
use Rattle.std.proofs.Common.{◌∙◌, arith, length-append}
use Rattle.trace_model.specs.History.{HistoryEvent, push, push_close, open_fill, reserve, leave, wished, Reservation}
use Rattle.trace_model.specs.History.{PushedFrame, record_frame, close_frame, WriterState, reservation_for}
use Rattle.trace_model.specs.History.{records_with_payload, records_after_leave, after_event, writer_after}
use Rattle.trace_model.specs.History.{reserved_records}
use Rattle.trace_model.specs.Frames.{Purpose, for_record, for_close, Progress, waiting, reserved, left, pushed_frame}
use Rattle.trace_model.specs.Frames.{pushed_onto}
use Rattle.trace_model.specs.Steps.{own_number}
use Rattle.trace_model.proofs.histories.NextEvent.{writer_snoc}

pub records_snoc : (h : List HistoryEvent) (a : HistoryEvent)
    → reserved_records (h ++ a ∷ []) ≡ (after_event (writer_after h).stack (writer_after h).records a).records
records_snoc h a = ap (λ (w : WriterState). w.records) (writer_snoc h a)

pub records_left : (h : List HistoryEvent) (f : PushedFrame) (stack : List PushedFrame) (payload : Option (List ℕ))
    → (writer_after h).stack ≡ f ∷ stack
    → reserved_records (h ++ leave payload ∷ []) ≡ records_after_leave f payload (reserved_records h)
records_left h f stack payload e =
    records_snoc h (leave payload)
    ∙ ap (λ (s : List PushedFrame). (after_event s (writer_after h).records (leave payload)).records) e

pub records_reserved : (h : List HistoryEvent) (moment len : ℕ) (stack : List PushedFrame)
    → (writer_after h).stack ≡ record_frame moment len None ∷ stack
    → reserved_records (h ++ reserve ∷ []) ≡ reserved_records h ++ reservation_for moment len (reserved_records h) ∷ []
records_reserved h moment len stack e =
    records_snoc h reserve ∙ ap (λ (s : List PushedFrame). (after_event s (writer_after h).records reserve).records) e

-- the frame on top of these leaves
pub records_left_by : (h : List HistoryEvent) (kind : Purpose) (state : Progress) (below : List PushedFrame)
    (payload : Option (List ℕ)) → (writer_after h).stack ≡ pushed_onto kind state below → state ≢ left
    → reserved_records (h ++ leave payload ∷ [])
    ≡ records_with_payload (own_number kind state) payload (reserved_records h)
records_left_by h (for_record moment len) waiting below payload stack stands =
    records_left h (pushed_frame (for_record moment len) waiting) below payload stack
records_left_by h for_close waiting below payload stack stands =
    records_left h (pushed_frame for_close waiting) below payload stack
records_left_by h (for_record moment len) (reserved number) below payload stack stands =
    records_left h (pushed_frame (for_record moment len) (reserved number)) below payload stack
records_left_by h for_close (reserved number) below payload stack stands =
    records_left h (pushed_frame for_close (reserved number)) below payload stack
records_left_by h kind left below payload stack stands = absurd (stands refl)

-- ---- how many they are

pub length-records_with_payload : (number : Option ℕ) (payload : Option (List ℕ)) (xs : List Reservation)
    → length (records_with_payload number payload xs) ≡ length xs
length-records_with_payload None payload xs = refl
length-records_with_payload (Some k) None xs = refl
length-records_with_payload (Some k) (Some p) [] = refl
length-records_with_payload (Some zero) (Some p) (x ∷ xs) = refl
length-records_with_payload (Some (suc k)) (Some p) (x ∷ xs) = ap suc (length-records_with_payload (Some k) (Some p) xs)

pub length_after_event : (stack : List PushedFrame) (xs : List Reservation) (a : HistoryEvent)
    → length xs ≤ length (after_event stack xs a).records
length_after_event stack xs (push moment len) = omega arith
length_after_event stack xs push_close = omega arith
length_after_event stack xs open_fill = omega arith
length_after_event [] xs reserve = omega arith
length_after_event (record_frame moment len None ∷ stack) xs reserve = omega (arith, length-append {A = Reservation})
length_after_event (record_frame moment len (Some k) ∷ stack) xs reserve = omega arith
length_after_event (close_frame ∷ stack) xs reserve = omega arith
length_after_event [] xs (leave payload) = omega arith
length_after_event (record_frame moment len number ∷ stack) xs (leave payload) =
    omega (arith, length-records_with_payload number payload xs)
length_after_event (close_frame ∷ stack) xs (leave payload) = omega arith
length_after_event stack xs wished = omega arith
