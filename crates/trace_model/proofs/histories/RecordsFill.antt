-- Each committed record, and each record that data reads as, fills whole words.
use Rattle.std.proofs.Common.{◌≡◌, ℕ, zero, suc, ◌%◌, List, [], ◌∷◌, ◌++◌, length, map, fold, replicate, Option, Some}
use Rattle.std.proofs.Common.{None, unwrap_or, ap, ◌∙◌}
use Rattle.std.specs.List.{All, AllByRecursion}
use Rattle.std.proofs.lemmas.List.{length-replicate}
use Rattle.std.proofs.lemmas.List.Elements.{All-from_recursion, All-append, All-cons, All-nil, All-same}
use Rattle.trace_model.specs.Record.{Record, IsRecord}
use Rattle.trace_model.specs.Words.{Word, short_data, long_data, padding, time_extend, time_stamp, IsWord, records_at}
use Rattle.trace_model.specs.Words.{records_behind, Decodes, padded}
use Rattle.trace_model.specs.History.{HistoryEvent, push, push_close, open_fill, reserve, leave, wished, Reservation}
use Rattle.trace_model.specs.History.{PushedFrame, record_frame, close_frame, WriterState, reservation_for}
use Rattle.trace_model.specs.History.{records_with_payload, after_reserve, records_after_leave, after_event}
use Rattle.trace_model.specs.History.{reserved_records, settled_prefix, as_record, committed_records}
use Rattle.trace_model.proofs.words.Lengths.{slot_len-mod, length-padded}

-- ---- committed records

-- bytes that fill whole words, or none yet
FillsWords : Option (List ℕ) → Type 0
FillsWords None = Unit {0}
FillsWords (Some bytes) = length bytes % 4 ≡ 0

record IsWhole (r : Reservation) : Type 0 where
  len : r.len % 4 ≡ 0
  bytes : FillsWords r.bytes

finished_first : (r : Reservation) (payload : List ℕ) → IsWhole r
    → IsWhole (record { moment = r.moment; len = r.len; bytes = Some (padded payload) })
unfolding FillsWords
finished_first r payload h = record {
  len = h.len;
  bytes = ap (λ (n : ℕ). n % 4) (length-padded payload) ∙ slot_len-mod (length payload);
}

records_with_payload-whole : (number : Option ℕ) (payload : Option (List ℕ)) (records : List Reservation)
    → AllByRecursion IsWhole records → AllByRecursion IsWhole (records_with_payload number payload records)
records_with_payload-whole None payload records h = h
records_with_payload-whole (Some number) None records h = h
records_with_payload-whole (Some number) (Some payload) [] h = h
records_with_payload-whole (Some zero) (Some payload) (r ∷ records) h = (finished_first r payload h.0, h.1)
records_with_payload-whole (Some (suc number)) (Some payload) (r ∷ records) h =
    (h.0, records_with_payload-whole (Some number) (Some payload) records h.1)

push-whole : (records : List Reservation) (r : Reservation) → AllByRecursion IsWhole records → IsWhole r
    → AllByRecursion IsWhole (records ++ r ∷ [])
push-whole [] r h one = (one, tt)
push-whole (x ∷ records) r h one = (h.0, push-whole records r h.1 one)

reservation_for-whole : (moment len : ℕ) (records : List Reservation) → IsWhole (reservation_for moment len records)
unfolding FillsWords
reservation_for-whole moment len records = record { len = slot_len-mod len; bytes = tt }

after_reserve-whole : (f : PushedFrame) (stack : List PushedFrame) (records : List Reservation)
    → AllByRecursion IsWhole records → AllByRecursion IsWhole (after_reserve f stack records).records
after_reserve-whole (record_frame moment len None) stack records h =
    push-whole records (reservation_for moment len records) h (reservation_for-whole moment len records)
after_reserve-whole (record_frame moment len (Some number)) stack records h = h
after_reserve-whole close_frame stack records h = h

records_after_leave-whole : (f : PushedFrame) (payload : Option (List ℕ)) (records : List Reservation)
    → AllByRecursion IsWhole records → AllByRecursion IsWhole (records_after_leave f payload records)
records_after_leave-whole (record_frame moment len number) payload records h =
    records_with_payload-whole number payload records h
records_after_leave-whole close_frame payload records h = h

after_event-whole : (stack : List PushedFrame) (records : List Reservation) (a : HistoryEvent)
    → AllByRecursion IsWhole records → AllByRecursion IsWhole (after_event stack records a).records
after_event-whole stack records (push moment len) h = h
after_event-whole stack records push_close h = h
after_event-whole stack records open_fill h = h
after_event-whole [] records reserve h = h
after_event-whole (f ∷ stack) records reserve h = after_reserve-whole f stack records h
after_event-whole [] records (leave payload) h = h
after_event-whole (f ∷ stack) records (leave payload) h = records_after_leave-whole f payload records h
after_event-whole stack records wished h = h

fold-whole : (w : WriterState) (history : List HistoryEvent) → AllByRecursion IsWhole w.records
    → AllByRecursion IsWhole (fold (λ v a. after_event v.stack v.records a) w history).records
fold-whole w [] h = h
fold-whole w (a ∷ history) h =
    fold-whole (after_event w.stack w.records a) history (after_event-whole w.stack w.records a h)

bytes-whole : (len : ℕ) (bytes : Option (List ℕ)) → len % 4 ≡ 0 → FillsWords bytes
    → length (unwrap_or bytes (replicate len 0)) % 4 ≡ 0
unfolding FillsWords
bytes-whole len None whole fills = ap (λ (n : ℕ). n % 4) (length-replicate len 0) ∙ whole
bytes-whole len (Some bytes) whole fills = fills

as_record-whole : (records : List Reservation) → AllByRecursion IsWhole records
    → AllByRecursion IsRecord (map as_record records)
as_record-whole [] h = tt
as_record-whole (r ∷ records) h = (bytes-whole r.len r.bytes h.0.len h.0.bytes, as_record-whole records h.1)

pub committed-IsRecord : (history : List HistoryEvent) → All IsRecord (committed_records history)
committed-IsRecord history =
    let start : WriterState = record { stack = []; records = [] } in
    All-from_recursion IsRecord (committed_records history)
    (as_record-whole (reserved_records (settled_prefix history)) (fold-whole start (settled_prefix history) tt))

-- ---- the records that data reads as

records_at-IsRecord : (time : ℕ) (front : List Word) (w : Word) → IsWord w → All IsRecord (records_at time front w)
records_at-IsRecord time front (short_data delta payload) is = All-cons IsRecord _ [] is.1 (All-nil IsRecord)
records_at-IsRecord time front (long_data delta payload) is = All-cons IsRecord _ [] is.1 (All-nil IsRecord)
records_at-IsRecord time front (padding delta skipped) is = All-nil IsRecord
records_at-IsRecord time front (time_extend delta) is = All-nil IsRecord
records_at-IsRecord time front (time_stamp stamp) is = All-nil IsRecord

records_behind-IsRecord : (time : ℕ) (front words : List Word) → AllByRecursion IsWord words
    → All IsRecord (records_behind time front words)
records_behind-IsRecord time front [] each = All-nil IsRecord
records_behind-IsRecord time front (w ∷ words) each =
    All-append IsRecord (records_at time front w) (records_behind time (front ++ w ∷ []) words)
    (records_at-IsRecord time front w each.0) (records_behind-IsRecord time (front ++ w ∷ []) words each.1)

pub Decodes-IsRecord : (bytes : List ℕ) (time : ℕ) (records : List Record) → Decodes bytes time records
    → All IsRecord records
Decodes-IsRecord bytes time records reads =
    All-same IsRecord records (records_behind time [] reads.words) reads.read
    (records_behind-IsRecord time [] reads.words reads.cut.each)
