-- What each step does to the records: by its answer one more is reserved, or none; and how many are committed.
use Rattle.std.proofs.Common.{◌≡◌, ℕ, zero, suc, ◌+◌, ◌≤◌, max, Bool, true, false, if◌then◌else◌, cond, List, [], ◌∷◌}
use Rattle.std.proofs.Common.{◌++◌, length, take, Option, Some, None, refl, sym, ap, ◌∙◌, subst, ⊎_elim, arith}
use Rattle.std.proofs.Common.{length-append, append_assoc}
use Rattle.std.proofs.lemmas.Bool.{cond-true, cond-false, cases_Bool}
use Rattle.std.proofs.lemmas.List.{take-append-le, take_all}
use Rattle.trace_model.specs.History.{HistoryEvent, push, push_close, open_fill, reserve, leave, wished, Reservation}
use Rattle.trace_model.specs.History.{PushedFrame, record_frame, close_frame, WriterState, last_moment, reservation_for}
use Rattle.trace_model.specs.History.{records_with_payload, after_event, writer_after, reserved_records, is_settled}
use Rattle.trace_model.specs.History.{settled_prefix_within, settled_prefix}
use Rattle.trace_model.specs.HistoryLaws.{committed_count}
use Rattle.trace_model.proofs.histories.NextEvent.{writer_snoc}
use Rattle.trace_model.proofs.histories.NextRecords.{records_snoc, records_reserved, length-records_with_payload}
use Rattle.trace_model.proofs.histories.Committed.{whole_front}

-- ---- the records after an event

-- two lists have equally many records, and the same last moment
pub record Alike (records others : List Reservation) : Type 0 where
  pub count : length others ≡ length records
  pub moment : last_moment others ≡ last_moment records

-- it reserves no record
abbrev pub IsQuiet : HistoryEvent → Type 0
IsQuiet reserve = ⊥
IsQuiet _ = Unit {0}

last_with_payload : (number : Option ℕ) (payload : Option (List ℕ)) (records : List Reservation)
    → last_moment (records_with_payload number payload records) ≡ last_moment records
last_with_payload None payload records = refl
last_with_payload (Some number) None records = refl
last_with_payload (Some number) (Some payload) [] = refl
last_with_payload (Some zero) (Some payload) (r ∷ []) = refl
last_with_payload (Some zero) (Some payload) (r ∷ s ∷ records) = refl
last_with_payload (Some (suc number)) (Some payload) (r ∷ []) = refl
last_with_payload (Some (suc zero)) (Some payload) (r ∷ s ∷ records) =
    last_with_payload (Some zero) (Some payload) (s ∷ records)
last_with_payload (Some (suc (suc number))) (Some payload) (r ∷ s ∷ records) =
    last_with_payload (Some (suc number)) (Some payload) (s ∷ records)

last_of_push : (records : List Reservation) (r : Reservation) → last_moment (records ++ r ∷ []) ≡ r.moment
last_of_push [] r = refl
last_of_push (s ∷ []) r = refl
last_of_push (s ∷ t ∷ records) r = last_of_push (t ∷ records) r

same_records : (records : List Reservation) → Alike records records
same_records records = record { count = refl; moment = refl }

quiet_after : (stack : List PushedFrame) (records : List Reservation) (a : HistoryEvent) → IsQuiet a
    → Alike records (after_event stack records a).records
quiet_after stack records (push moment len) quiet = same_records records
quiet_after stack records push_close quiet = same_records records
quiet_after stack records open_fill quiet = same_records records
quiet_after stack records reserve quiet = absurd quiet
quiet_after [] records (leave payload) quiet = same_records records
quiet_after (record_frame moment len number ∷ stack) records (leave payload) quiet =
    record {
      count = length-records_with_payload number payload records;
      moment = last_with_payload number payload records;
    }
quiet_after (close_frame ∷ stack) records (leave payload) quiet = same_records records
quiet_after stack records wished quiet = same_records records

pub quiet_more : (h : List HistoryEvent) (a : HistoryEvent) → IsQuiet a
    → Alike (reserved_records h) (reserved_records (h ++ a ∷ []))
quiet_more h a quiet =
    subst (Alike (reserved_records h)) (sym (records_snoc h a))
    (quiet_after (writer_after h).stack (writer_after h).records a quiet)

-- one more record, whose moment is at least this one
pub record OneMore (moment : ℕ) (records others : List Reservation) : Type 0 where
  pub count : length others ≡ length records + 1
  pub last : last_moment others ≡ max moment (last_moment records)

pub reserve_more : (h : List HistoryEvent) (moment len : ℕ) (stack : List PushedFrame)
    → (writer_after h).stack ≡ record_frame moment len None ∷ stack
    → OneMore moment (reserved_records h) (reserved_records (h ++ reserve ∷ []))
reserve_more h moment len stack e = let records = reserved_records h in
    let r : Reservation = reservation_for moment len records in
    subst (OneMore moment records) (sym (records_reserved h moment len stack e))
    record { count = length-append records (r ∷ []); last = last_of_push records r }

-- ---- the committed records after an event

within_append : (m : ℕ) (h rest : List HistoryEvent) → m ≤ length h
    → settled_prefix_within m (h ++ rest) ≡ settled_prefix_within m h
within_append zero h rest low = refl
within_append (suc m) h rest low =
    (λ i.
    cond (is_settled (take-append-le (suc m) h rest low i)) (take-append-le (suc m) h rest low i)
    (within_append m h rest (let l : m ≤ length h = omega arith in l) i))

settled_more : (h : List HistoryEvent) (a : HistoryEvent)
    → settled_prefix (h ++ a ∷ []) ≡ cond (is_settled (h ++ a ∷ [])) (h ++ a ∷ []) (settled_prefix h)
settled_more h a =
    let len : length (h ++ a ∷ []) ≡ suc (length h) = omega (arith, length-append h (a ∷ [])) in
    let whole : take (suc (length h)) (h ++ a ∷ []) ≡ h ++ a ∷ [] =
    take_all (suc (length h)) (h ++ a ∷ []) (omega arith) in
    ap (λ (m : ℕ). settled_prefix_within m (h ++ a ∷ [])) len
    ∙ (λ i.
    cond (is_settled (whole i)) (whole i)
    (within_append (length h) h (a ∷ []) (let l : length h ≤ length h = omega arith in l) i))

abbrev count_of : List HistoryEvent → ℕ
count_of h = length (reserved_records h)

-- what is committed now, after what was
abbrev pub Commits : List HistoryEvent → List HistoryEvent → Type 0
Commits h more = committed_count more ≡ (if is_settled more then length (reserved_records more) else committed_count h)

pub settled_commits : (h : List HistoryEvent) → is_settled h ≡ true → committed_count h ≡ count_of h
settled_commits h t = ap count_of (whole_front (length h) h (omega arith) t)

pub none_commits : (h : List HistoryEvent) → Commits h h
none_commits h = ⊎_elim
    (λ t. settled_commits h t ∙ sym (cond-true _ _ _ t))
    (λ f. sym (cond-false _ _ _ f))
    (cases_Bool (is_settled h))

pub one_commits : (h : List HistoryEvent) (a : HistoryEvent) → Commits h (h ++ a ∷ [])
one_commits h a = ⊎_elim
    (λ t. ap count_of (settled_more h a ∙ cond-true _ _ _ t) ∙ sym (cond-true _ _ _ t))
    (λ f. ap count_of (settled_more h a ∙ cond-false _ _ _ f) ∙ sym (cond-false _ _ _ f))
    (cases_Bool (is_settled (h ++ a ∷ [])))

-- the stack is empty
abbrev pub rests_on : List PushedFrame → Bool
rests_on stack = elim stack [ [] ↦ true | frame ∷ below ↦ false ]

-- a fill that is begun commits nothing
open_commits_none : (h : List HistoryEvent) → committed_count (h ++ open_fill ∷ []) ≡ committed_count h
open_commits_none h = let more : List HistoryEvent = h ++ open_fill ∷ [] in
    let same : is_settled more ≡ is_settled h = ap (λ (w : WriterState). rests_on w.stack) (writer_snoc h open_fill) in
    ⊎_elim
    (λ t.
    one_commits h open_fill ∙ cond-true _ _ _ t ∙ (quiet_more h open_fill tt).count
    ∙ sym (settled_commits h (sym same ∙ t)))
    (λ f. one_commits h open_fill ∙ cond-false _ _ _ f)
    (cases_Bool (is_settled more))

pub two_commit : (h : List HistoryEvent) (a : HistoryEvent) → Commits h (h ++ open_fill ∷ a ∷ [])
two_commit h a = subst (Commits h) (append_assoc h (open_fill ∷ []) (a ∷ []))
    (one_commits (h ++ open_fill ∷ []) a
    ∙ ap
    (λ (k : ℕ).
    if is_settled ((h ++ open_fill ∷ []) ++ a ∷ []) then count_of ((h ++ open_fill ∷ []) ++ a ∷ []) else k)
    (open_commits_none h))
