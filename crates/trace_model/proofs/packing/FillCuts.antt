-- Records cut into fills: what a reservation, an open and an end change.
use Rattle.std.proofs.Common.{◌≡◌, ℕ, zero, suc, ◌+◌, ◌-◌, ◌<◌, ◌≤◌, List, [], ◌∷◌, ◌++◌, length, get_or, take, drop}
use Rattle.std.proofs.Common.{Option, Some, None, refl, sym, ap, ◌∙◌, arith, length-drop, append_assoc, append-nil}
use Rattle.std.specs.Prelude.{nat_lt, if◌then◌else◌}
use Rattle.std.proofs.lemmas.List.{drop-take, drop-append-le, take-append-le, take_all, drop_all}
use Rattle.std.proofs.lemmas.Bool.{cond_both, cond-true, cond-false, le-ltb, lt-ltb}
use mathlib.Core.Logic.{dite}
use native.Mathlib.Decide.{dec_le}
use Rattle.trace_model.specs.History.{HistoryEvent, push, push_close, open_fill, reserve, leave, wished, Reservation}
use Rattle.trace_model.specs.History.{records_with_payload, reserved_records}
use Rattle.trace_model.specs.Packing.{opens_behind, opens_of, cut_from}
use Rattle.trace_model.specs.Ring.{PageRecords}
use Rattle.trace_model.specs.Steps.{held_with_payload}
use Rattle.trace_model.specs.Fitting.{IsRising}

-- ---- the cuts

pub IsRising-more : (from : ℕ) (cuts : List ℕ) (to to' : ℕ) → to ≤ to' → IsRising from cuts to → IsRising from cuts to'
IsRising-more from [] to to' le r = omega arith
IsRising-more from (cut ∷ cuts) to to' le r = (r.0, IsRising-more cut cuts to to' le r.1)

pub IsRising-snoc : (from : ℕ) (cuts : List ℕ) (to : ℕ) → IsRising from cuts to → IsRising from (cuts ++ to ∷ []) to
IsRising-snoc from [] to r = (r, omega arith)
IsRising-snoc from (cut ∷ cuts) to r = (r.0, IsRising-snoc cut cuts to r.1)

pub IsRising-least : (from : ℕ) (cuts : List ℕ) (to : ℕ) → IsRising from cuts to → from ≤ to
IsRising-least from [] to r = r
IsRising-least from (cut ∷ cuts) to r = let low = r.0 in let rest = IsRising-least cut cuts to r.1 in omega arith

-- one more sublist than there are cuts
pub length-cut_from : (from : ℕ) (cuts : List ℕ) (xs : List Reservation)
    → length (cut_from from cuts xs) ≡ suc (length cuts)
length-cut_from from [] xs = refl
length-cut_from from (cut ∷ cuts) xs = ap suc (length-cut_from cut cuts xs)

-- a sublist with a cut after it stays the same, if the list does up to that cut
pub cut-stays : {A : Type 0} (from : ℕ) (cuts more : List ℕ) (to : ℕ) (xs ys : List A) (i : ℕ) → IsRising from cuts to
    → i < length cuts → take (get_or (from ∷ cuts) (suc i) 0) ys ≡ take (get_or (from ∷ cuts) (suc i) 0) xs
    → get_or (cut_from from (cuts ++ more) ys) i [] ≡ get_or (cut_from from cuts xs) i []
cut-stays from [] more to xs ys i r low same = absurd (omega arith)
cut-stays {A = A} from (cut ∷ cuts) more to xs ys zero r low same = let least = r.0 in
    let sum : from + (cut - from) ≡ cut = omega arith in
    sym (drop-take from (cut - from) ys) ∙ ap (λ (m : ℕ). drop from (take m ys)) sum ∙ ap (drop {A = A} from) same
    ∙ ap (λ (m : ℕ). drop from (take m xs)) (sym sum) ∙ drop-take from (cut - from) xs
cut-stays from (cut ∷ cuts) more to xs ys (suc i) r low same = cut-stays cut cuts more to xs ys i r.1 (omega arith) same

-- for an open, the number of records before it
pub opens_at : List HistoryEvent → HistoryEvent → List ℕ
opens_at front (push moment len) = []
opens_at front push_close = []
opens_at front open_fill = length (reserved_records front) ∷ []
opens_at front reserve = []
opens_at front (leave payload) = []
opens_at front wished = []

opens_step : (front : List HistoryEvent) (a : HistoryEvent) (behind : List HistoryEvent)
    → opens_behind front (a ∷ behind) ≡ opens_at front a ++ opens_behind (front ++ a ∷ []) behind
unfolding opens_at
opens_step front (push moment len) behind = refl
opens_step front push_close behind = refl
opens_step front open_fill behind = refl
opens_step front reserve behind = refl
opens_step front (leave payload) behind = refl
opens_step front wished behind = refl

pub opens_more : (front h : List HistoryEvent) (a : HistoryEvent)
    → opens_behind front (h ++ a ∷ []) ≡ opens_behind front h ++ opens_at (front ++ h) a
opens_more front [] a =
    opens_step front a [] ∙ append-nil (opens_at front a)
    ∙ ap (λ (x : List HistoryEvent). opens_at x a) (sym (append-nil front))
opens_more front (x ∷ h) a = opens_step front x (h ++ a ∷ [])
    ∙ ap (λ (l : List ℕ). opens_at front x ++ l) (opens_more (front ++ x ∷ []) h a)
    ∙ ap (λ (y : List HistoryEvent). opens_at front x ++ (opens_behind (front ++ x ∷ []) h ++ opens_at y a))
    (append_assoc front (x ∷ []) h)
    ∙ sym (append_assoc (opens_at front x) (opens_behind (front ++ x ∷ []) h) (opens_at (front ++ x ∷ h) a))
    ∙ ap (λ (l : List ℕ). l ++ opens_at (front ++ x ∷ h) a) (sym (opens_step front x h))

pub opens_of-push : (h : List HistoryEvent) (moment len : ℕ) → opens_of (h ++ push moment len ∷ []) ≡ opens_of h
unfolding opens_at
opens_of-push h moment len = opens_more [] h (push moment len) ∙ append-nil (opens_of h)

pub opens_of-push_close : (h : List HistoryEvent) → opens_of (h ++ push_close ∷ []) ≡ opens_of h
unfolding opens_at
opens_of-push_close h = opens_more [] h push_close ∙ append-nil (opens_of h)

pub opens_of-reserve : (h : List HistoryEvent) → opens_of (h ++ reserve ∷ []) ≡ opens_of h
unfolding opens_at
opens_of-reserve h = opens_more [] h reserve ∙ append-nil (opens_of h)

pub opens_of-leave : (h : List HistoryEvent) (payload : Option (List ℕ))
    → opens_of (h ++ leave payload ∷ []) ≡ opens_of h
unfolding opens_at
opens_of-leave h payload = opens_more [] h (leave payload) ∙ append-nil (opens_of h)

pub opens_of-wished : (h : List HistoryEvent) → opens_of (h ++ wished ∷ []) ≡ opens_of h
unfolding opens_at
opens_of-wished h = opens_more [] h wished ∙ append-nil (opens_of h)

pub opens_of-open_fill : (h : List HistoryEvent)
    → opens_of (h ++ open_fill ∷ []) ≡ opens_of h ++ length (reserved_records h) ∷ []
unfolding opens_at
opens_of-open_fill h = opens_more [] h open_fill

-- ---- a reservation: the last fill has one record more

pub reserved_before : (from : ℕ) (cuts : List ℕ) (xs : List Reservation) (r : Reservation) (i : ℕ)
    → IsRising from cuts (length xs) → i < length cuts
    → get_or (cut_from from cuts (xs ++ r ∷ [])) i [] ≡ get_or (cut_from from cuts xs) i []
reserved_before from [] xs r i rise low = absurd (omega arith)
reserved_before from (cut ∷ cuts) xs r zero rise low = let least = rise.0 in
    let rest = IsRising-least cut cuts (length xs) rise.1 in
    ap (take (cut - from)) (drop-append-le from xs (r ∷ []) (omega arith))
    ∙ take-append-le (cut - from) (drop from xs) (r ∷ []) (omega (arith, length-drop from xs))
reserved_before from (cut ∷ cuts) xs r (suc i) rise low = reserved_before cut cuts xs r i rise.1 (omega arith)

pub reserved_last : (from : ℕ) (cuts : List ℕ) (xs : List Reservation) (r : Reservation)
    → IsRising from cuts (length xs)
    → get_or (cut_from from cuts (xs ++ r ∷ [])) (length cuts) []
    ≡ get_or (cut_from from cuts xs) (length cuts) [] ++ r ∷ []
reserved_last from [] xs r rise = drop-append-le from xs (r ∷ []) rise
reserved_last from (cut ∷ cuts) xs r rise = reserved_last cut cuts xs r rise.1

-- ---- an open: one fill more, without a record

pub opened_before : (from : ℕ) (cuts : List ℕ) (xs : List Reservation) (i : ℕ) → i ≤ length cuts
    → get_or (cut_from from (cuts ++ length xs ∷ []) xs) i [] ≡ get_or (cut_from from cuts xs) i []
opened_before from [] xs zero low = take_all (length xs - from) (drop from xs) (omega (arith, length-drop from xs))
opened_before from [] xs (suc i) low = absurd (omega arith)
opened_before from (cut ∷ cuts) xs zero low = refl
opened_before from (cut ∷ cuts) xs (suc i) low = opened_before cut cuts xs i (omega arith)

pub opened_last : (from : ℕ) (cuts : List ℕ) (xs : List Reservation)
    → get_or (cut_from from (cuts ++ length xs ∷ []) xs) (suc (length cuts)) [] ≡ []
opened_last from [] xs = drop_all (length xs) xs (omega arith)
opened_last from (cut ∷ cuts) xs = opened_last cut cuts xs

-- ---- an end: the record with its bytes, in its fill

-- the records from an index on, or none of it, that an end changes
abbrev finished_from : ℕ → ℕ → List ℕ → List Reservation → List Reservation
finished_from from k p xs = if nat_lt k from then xs else records_with_payload (Some (k - from)) (Some p) xs

finished_low : (from k : ℕ) (p : List ℕ) (xs : List Reservation) → k < from → finished_from from k p xs ≡ xs
finished_low from k p xs low = cond-true _ _ _ (lt-ltb k from low)

finished_high : (from k : ℕ) (p : List ℕ) (xs : List Reservation) → from ≤ k
    → finished_from from k p xs ≡ records_with_payload (Some (k - from)) (Some p) xs
finished_high from k p xs high = cond-false _ _ _ (le-ltb k from high)

finished_shift : (from k : ℕ) (p : List ℕ) (xs : List Reservation)
    → finished_from (suc from) (suc k) p xs ≡ finished_from from k p xs
finished_shift from k p xs = dite (dec_le from k)
    (λ high.
    finished_high (suc from) (suc k) p xs (omega arith)
    ∙ ap (λ (j : ℕ). records_with_payload (Some j) (Some p) xs)
    (let e : suc k - suc from ≡ k - from = omega arith in e) ∙ sym (finished_high from k p xs high))
    (λ low. finished_low (suc from) (suc k) p xs (omega arith) ∙ sym (finished_low from k p xs (omega arith)))

drop-records_with_payload : (from k : ℕ) (p : List ℕ) (xs : List Reservation)
    → drop from (records_with_payload (Some k) (Some p) xs) ≡ finished_from from k p (drop from xs)
drop-records_with_payload zero k p xs =
    ap (λ (j : ℕ). records_with_payload (Some j) (Some p) xs) (let e : k ≡ k - 0 = omega arith in e)
    ∙ sym (finished_high 0 k p xs (omega arith))
drop-records_with_payload (suc from) k p [] =
    cond_both (nat_lt k (suc from)) [] (records_with_payload (Some (k - suc from)) (Some p) [])
    (λ (ys : List Reservation). ◌≡◌ {A = List Reservation} [] ys) (λ _. refl) (λ _. refl)
drop-records_with_payload (suc from) zero p (x ∷ xs) = sym (finished_low (suc from) 0 p (drop from xs) (omega arith))
drop-records_with_payload (suc from) (suc k) p (x ∷ xs) =
    drop-records_with_payload from k p xs ∙ sym (finished_shift from k p (drop from xs))

take-records_with_payload : (m k : ℕ) (p : List ℕ) (xs : List Reservation)
    → take m (records_with_payload (Some k) (Some p) xs) ≡ records_with_payload (Some k) (Some p) (take m xs)
take-records_with_payload zero k p xs = refl
take-records_with_payload (suc m) k p [] = refl
take-records_with_payload (suc m) zero p (x ∷ xs) = refl
take-records_with_payload (suc m) (suc k) p (x ∷ xs) =
    ap (λ (l : List Reservation). x ∷ l) (take-records_with_payload m k p xs)

take-finished_from : (m from k : ℕ) (p : List ℕ) (xs : List Reservation)
    → take m (finished_from from k p xs) ≡ finished_from from k p (take m xs)
take-finished_from m from k p xs = dite (dec_le from k)
    (λ high.
    ap (take m) (finished_high from k p xs high) ∙ take-records_with_payload m (k - from) p xs
    ∙ sym (finished_high from k p (take m xs) high))
    (λ low.
    ap (take m) (finished_low from k p xs (omega arith)) ∙ sym (finished_low from k p (take m xs) (omega arith)))

finished_cut : (from : ℕ) (cuts : List ℕ) (xs : List Reservation) (k : ℕ) (p : List ℕ) (i : ℕ) → i ≤ length cuts
    → get_or (cut_from from cuts (records_with_payload (Some k) (Some p) xs)) i []
    ≡ finished_from (get_or (from ∷ cuts) i 0) k p (get_or (cut_from from cuts xs) i [])
finished_cut from [] xs k p zero low = drop-records_with_payload from k p xs
finished_cut from [] xs k p (suc i) low = absurd (omega arith)
finished_cut from (cut ∷ cuts) xs k p zero low =
    ap (take (cut - from)) (drop-records_with_payload from k p xs)
    ∙ take-finished_from (cut - from) from k p (drop from xs)
finished_cut from (cut ∷ cuts) xs k p (suc i) low = finished_cut cut cuts xs k p i (omega arith)

-- a fill of the finished records is the fill, finished
pub finished_fill : (number : Option ℕ) (payload : Option (List ℕ)) (cuts : List ℕ) (xs : List Reservation) (i : ℕ)
    → i ≤ length cuts
    → held_with_payload number payload
    record { first = get_or (0 ∷ cuts) i 0; records = get_or (cut_from 0 cuts xs) i [] }
    ≡
    record {
      first = get_or (0 ∷ cuts) i 0;
      records = get_or (cut_from 0 cuts (records_with_payload number payload xs)) i [];
    }
finished_fill None payload cuts xs i low = refl
finished_fill (Some k) None cuts xs i low =
    cond_both (nat_lt k (get_or (0 ∷ cuts) i 0)) (get_or (cut_from 0 cuts xs) i []) (get_or (cut_from 0 cuts xs) i [])
    (λ (l : List Reservation).
    ◌≡◌ {A = PageRecords} record { first = get_or (0 ∷ cuts) i 0; records = l }
    record { first = get_or (0 ∷ cuts) i 0; records = get_or (cut_from 0 cuts xs) i [] }) (λ _. refl)
    (λ _. refl)
finished_fill (Some k) (Some p) cuts xs i low =
    ap (λ (l : List Reservation). let h : PageRecords = record { first = get_or (0 ∷ cuts) i 0; records = l } in h)
    (sym (finished_cut 0 cuts xs k p i low))
