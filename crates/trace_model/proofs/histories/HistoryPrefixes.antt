-- The records reserved in a settled prefix of a history are a prefix of all that it reserves.
use Rattle.std.proofs.Common.{◌≡◌, ◌⊎◌, inl, inr, ⊎_elim, ℕ, zero, suc, ◌≤◌, Bool, true, false, cond, List, [], ◌∷◌}
use Rattle.std.proofs.Common.{◌++◌, length, take, drop, fold, Option, Some, None, refl, sym, ap, ◌∙◌, arith}
use Rattle.std.proofs.Common.{append_assoc, append-nil, take-append-drop, length-append}
use Rattle.trace_model.specs.History.{HistoryEvent, push, push_close, open_fill, reserve, leave, wished, Reservation}
use Rattle.trace_model.specs.History.{PushedFrame, record_frame, close_frame, WriterState, reservation_for}
use Rattle.trace_model.specs.History.{records_with_payload, after_reserve, records_after_leave, after_event}
use Rattle.trace_model.specs.History.{writer_after, reserved_records, is_settled, settled_prefix_within, settled_prefix}
use Rattle.trace_model.specs.Sublist.{IsPrefix}

-- a frame that has no record yet, or one after the first n
abbrev pub HasNumberFrom : ℕ → Option ℕ → Type 0
HasNumberFrom n None = Unit {0}
HasNumberFrom n (Some number) = n ≤ number

abbrev pub IsFrameFrom : ℕ → PushedFrame → Type 0
IsFrameFrom n (record_frame moment len number) = HasNumberFrom n number
IsFrameFrom n close_frame = Unit {0}

abbrev pub AreFramesFrom : ℕ → List PushedFrame → Type 0
AreFramesFrom n [] = Unit {0}
AreFramesFrom n (f ∷ stack) = IsFrameFrom n f × AreFramesFrom n stack

finished_behind : (xs ys : List Reservation) (number : ℕ) (payload : List ℕ) → length xs ≤ number
    → IsPrefix xs (records_with_payload (Some number) (Some payload) (xs ++ ys))
finished_behind [] ys number payload h = (records_with_payload (Some number) (Some payload) ys, refl)
finished_behind (x ∷ xs) ys zero payload h = absurd (omega arith)
finished_behind (x ∷ xs) ys (suc number) payload h =
    let below = finished_behind xs ys number payload (omega arith) in
    (below.0, ap (λ (zs : List Reservation). x ∷ zs) below.1)

finished_keeps : (xs records : List Reservation) (number : Option ℕ) (payload : Option (List ℕ))
    → HasNumberFrom (length xs) number → IsPrefix xs records → IsPrefix xs (records_with_payload number payload records)
finished_keeps xs records None payload h front = front
finished_keeps xs records (Some number) None h front = front
finished_keeps xs records (Some number) (Some payload) h front =
    rw front.1 (finished_behind xs front.0 number payload h)

reserved_above : (xs records : List Reservation) → IsPrefix xs records → length xs ≤ length records
reserved_above xs records front = omega (arith, ap length front.1, length-append xs front.0)

reserved_keeps : (xs records : List Reservation) (r : Reservation) → IsPrefix xs records
    → IsPrefix xs (records ++ r ∷ [])
reserved_keeps xs records r front =
    (front.0 ++ r ∷ [], ap (λ (zs : List Reservation). zs ++ r ∷ []) front.1 ∙ append_assoc xs front.0 (r ∷ []))

-- what one event keeps
record IsBehind (xs : List Reservation) (w : WriterState) : Type 0 where
  frames : AreFramesFrom (length xs) w.stack
  front : IsPrefix xs w.records

reserving_keeps : (xs : List Reservation) (f : PushedFrame) (stack : List PushedFrame) (records : List Reservation)
    → IsFrameFrom (length xs) f → AreFramesFrom (length xs) stack → IsPrefix xs records
    → IsBehind xs (after_reserve f stack records)
reserving_keeps xs (record_frame moment len None) stack records f below h = record {
  frames = (reserved_above xs records h, below);
  front = reserved_keeps xs records (reservation_for moment len records) h;
}
reserving_keeps xs (record_frame moment len (Some number)) stack records f below h =
    record { frames = (f, below); front = h }
reserving_keeps xs close_frame stack records f below h = record { frames = (tt, below); front = h }

leaving_keeps : (xs : List Reservation) (f : PushedFrame) (payload : Option (List ℕ)) (records : List Reservation)
    → IsFrameFrom (length xs) f → IsPrefix xs records → IsPrefix xs (records_after_leave f payload records)
leaving_keeps xs (record_frame moment len number) payload records f h = finished_keeps xs records number payload f h
leaving_keeps xs close_frame payload records f h = h

after_event_keeps : (xs : List Reservation) (stack : List PushedFrame) (records : List Reservation) (a : HistoryEvent)
    → AreFramesFrom (length xs) stack → IsPrefix xs records → IsBehind xs (after_event stack records a)
after_event_keeps xs stack records (push moment len) f h = record { frames = (tt, f); front = h }
after_event_keeps xs stack records push_close f h = record { frames = (tt, f); front = h }
after_event_keeps xs stack records open_fill f h = record { frames = f; front = h }
after_event_keeps xs [] records reserve f h = record { frames = tt; front = h }
after_event_keeps xs (top ∷ stack) records reserve f h = reserving_keeps xs top stack records f.0 f.1 h
after_event_keeps xs [] records (leave payload) f h = record { frames = tt; front = h }
after_event_keeps xs (top ∷ stack) records (leave payload) f h =
    record { frames = f.1; front = leaving_keeps xs top payload records f.0 h }
after_event_keeps xs stack records wished f h = record { frames = f; front = h }

fold_keeps : (xs : List Reservation) (w : WriterState) (history : List HistoryEvent) → IsBehind xs w
    → IsBehind xs (fold (λ v a. after_event v.stack v.records a) w history)
fold_keeps xs w [] h = h
fold_keeps xs w (a ∷ history) h =
    fold_keeps xs (after_event w.stack w.records a) history (after_event_keeps xs w.stack w.records a h.frames h.front)

pub writer-append : (w : WriterState) (front behind : List HistoryEvent)
    → fold (λ v a. after_event v.stack v.records a) w (front ++ behind)
    ≡ fold (λ v a. after_event v.stack v.records a) (fold (λ v a. after_event v.stack v.records a) w front) behind
writer-append w [] behind = refl
writer-append w (a ∷ front) behind = writer-append (after_event w.stack w.records a) front behind

-- if the stack is empty, all that follows keeps the records
stack_cases : (stack : List PushedFrame)
    → (stack ≡ []) ⊎ ((f : PushedFrame) × (below : List PushedFrame) × (stack ≡ f ∷ below))
stack_cases [] = inl refl
stack_cases (f ∷ stack) = inr (f, stack, refl)

pub none_stands : (history : List HistoryEvent) → is_settled history ≡ true → (writer_after history).stack ≡ []
none_stands history h =
    ⊎_elim (λ e. e) (λ some. let wrong : false ≡ true = rw (is_settled, some.2) at h in cc)
    (stack_cases (writer_after history).stack)

writer_keeps : (front behind : List HistoryEvent) → is_settled front ≡ true
    → IsPrefix (reserved_records front) (reserved_records (front ++ behind))
writer_keeps front behind h =
    let w = writer_after front in
    let none : w.stack ≡ [] = none_stands front h in
    let frames : AreFramesFrom (length w.records) w.stack = rw none tt in
    let kept = fold_keeps w.records w behind record { frames = frames; front = ([], sym (append-nil w.records)) } in
    let start : WriterState = record { stack = []; records = [] } in
    (kept.front.0, ap (λ (v : WriterState). v.records) (writer-append start front behind) ∙ kept.front.1)

cond_either : {A : Type 0} (P : A → Type 0) (b : Bool) (x y : A) → (b ≡ true → P x) → P y → P (cond b x y)
cond_either P true x y first second = first refl
cond_either P false x y first second = second

-- a settled prefix of the history
pub record IsSettledPrefix (history front : List HistoryEvent) : Type 0 where
  pub settled : is_settled front ≡ true
  pub is_prefix : IsPrefix front history

pub settled_within : (n : ℕ) (history : List HistoryEvent) → IsSettledPrefix history (settled_prefix_within n history)
settled_within zero history = record { settled = refl; is_prefix = (history, refl) }
settled_within (suc n) history =
    cond_either (IsSettledPrefix history) (is_settled (take (suc n) history)) (take (suc n) history)
    (settled_prefix_within n history)
    (λ h. record { settled = h; is_prefix = (drop (suc n) history, sym (take-append-drop (suc n) history)) })
    (settled_within n history)

-- the records of the settled prefix are a prefix of the history's
pub settled_records_prefix : (history : List HistoryEvent)
    → IsPrefix (reserved_records (settled_prefix history)) (reserved_records history)
settled_records_prefix history =
    let front = settled_within (length history) history in
    let kept = writer_keeps (settled_prefix history) front.is_prefix.0 front.settled in
    (kept.0, ap reserved_records front.is_prefix.1 ∙ kept.1)
