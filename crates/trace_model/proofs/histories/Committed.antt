-- The committed records are a prefix of the reserved ones, whatever the frames did.
use Rattle.std.proofs.Common.{◌≡◌, ℕ, zero, suc, ◌<◌, ◌≤◌, ◌⊎◌, Bool, true, false, cond, List, [], ◌∷◌, ◌++◌, length}
use Rattle.std.proofs.Common.{get_or, take, map, Option, Some, None, refl, sym, ap, ◌∙◌, subst, inl, inr, ⊎_elim, arith}
use Rattle.std.proofs.Common.{length-append, append_assoc, append-nil}
use Rattle.std.proofs.lemmas.Option.{none-some, same_Some}
use Rattle.std.proofs.lemmas.Bool.{cond-true, cond-false}
use Rattle.std.proofs.lemmas.List.{take-append-le, take_all}
use Rattle.std.proofs.Math.ListN.{get_or-append}
use Rattle.trace_model.specs.History.{HistoryEvent, push, push_close, open_fill, reserve, leave, wished, Reservation}
use Rattle.trace_model.specs.History.{PushedFrame, record_frame, close_frame, WriterState, after_event, writer_after}
use Rattle.trace_model.specs.History.{reserved_records, is_settled, settled_prefix_within, settled_prefix, as_record}
use Rattle.trace_model.specs.History.{records_with_payload}
use Rattle.trace_model.specs.Packing.{opens_of}
use Rattle.trace_model.proofs.histories.HistoryPrefixes.{none_stands}
use Rattle.trace_model.proofs.histories.NextEvent.{writer_snoc}
use Rattle.trace_model.proofs.histories.NextRecords.{records_snoc, length_after_event}
use Rattle.trace_model.proofs.packing.FillCuts.{opens_at, opens_more}

either_way : (b : Bool) → (b ≡ true) ⊎ (b ≡ false)
either_way true = inl refl
either_way false = inr refl

-- ---- the settled prefix of one more event

within_append : (m : ℕ) (h rest : List HistoryEvent) → m ≤ length h
    → settled_prefix_within m (h ++ rest) ≡ settled_prefix_within m h
within_append zero h rest low = refl
within_append (suc m) h rest low =
    (λ i.
    cond (is_settled (take-append-le (suc m) h rest low i)) (take-append-le (suc m) h rest low i)
    (within_append m h rest (let l : m ≤ length h = omega arith in l) i))

settled_more : (h : List HistoryEvent) (a : HistoryEvent)
    → settled_prefix (h ++ a ∷ []) ≡ cond (is_settled (h ++ a ∷ [])) (h ++ a ∷ []) (settled_prefix h)
settled_more h a =
    let len : length (h ++ a ∷ []) ≡ suc (length h) = omega (arith, length-append h (a ∷ [])) in
    let whole : take (suc (length h)) (h ++ a ∷ []) ≡ h ++ a ∷ [] =
    take_all (suc (length h)) (h ++ a ∷ []) (omega arith) in
    ap (λ (m : ℕ). settled_prefix_within m (h ++ a ∷ [])) len
    ∙ (λ i.
    cond (is_settled (whole i)) (whole i)
    (within_append (length h) h (a ∷ []) (let l : length h ≤ length h = omega arith in l) i))

-- ---- the prefix that is committed

-- the number of a frame's record
abbrev pub number_with : PushedFrame → Option ℕ
number_with (record_frame moment len number) = number
number_with close_frame = None

-- no frame of these has a record among the first ones
abbrev pub Behind : ℕ → List PushedFrame → Type 0
Behind least [] = Unit {0}
Behind least (f ∷ stack) = ((k : ℕ) → number_with f ≡ Some k → least ≤ k) × Behind least stack

pub record CommittedAt (front h : List HistoryEvent) : Type 0 where
  pub agrees : map as_record (take (length (reserved_records front)) (reserved_records h))
      ≡ map as_record (reserved_records front)
  pub within : length (reserved_records front) ≤ length (reserved_records h)
  pub behind : Behind (length (reserved_records front)) (writer_after h).stack

take_unfinished : (least : ℕ) (number : Option ℕ) (payload : Option (List ℕ)) (xs : List Reservation)
    → ((k : ℕ) → number ≡ Some k → least ≤ k) → take least (records_with_payload number payload xs) ≡ take least xs
take_unfinished least None payload xs low = refl
take_unfinished least (Some k) None xs low = refl
take_unfinished least (Some k) (Some p) [] low = refl
take_unfinished zero (Some k) (Some p) (x ∷ xs) low = refl
take_unfinished (suc least) (Some zero) (Some p) (x ∷ xs) low = let bad = low 0 refl in absurd (omega arith)
take_unfinished (suc least) (Some (suc k)) (Some p) (x ∷ xs) low =
    ap (λ (l : List Reservation). x ∷ l)
    (take_unfinished least (Some k) (Some p) xs
    (λ j e. let same : k ≡ j = same_Some k j e in let le = low (suc k) refl in omega arith))

pub take_after_event : (least : ℕ) (stack : List PushedFrame) (xs : List Reservation) (a : HistoryEvent)
    → least ≤ length xs → Behind least stack → take least (after_event stack xs a).records ≡ take least xs
take_after_event least stack xs (push moment len) le b = refl
take_after_event least stack xs push_close le b = refl
take_after_event least stack xs open_fill le b = refl
take_after_event least [] xs reserve le b = refl
take_after_event least (record_frame moment len None ∷ stack) xs reserve le b = take-append-le least xs _ le
take_after_event least (record_frame moment len (Some k) ∷ stack) xs reserve le b = refl
take_after_event least (close_frame ∷ stack) xs reserve le b = refl
take_after_event least [] xs (leave payload) le b = refl
take_after_event least (record_frame moment len number ∷ stack) xs (leave payload) le b =
    take_unfinished least number payload xs b.0
take_after_event least (close_frame ∷ stack) xs (leave payload) le b = refl
take_after_event least stack xs wished le b = refl

behind_after_event : (least : ℕ) (stack : List PushedFrame) (xs : List Reservation) (a : HistoryEvent)
    → least ≤ length xs → Behind least stack → Behind least (after_event stack xs a).stack
behind_after_event least stack xs (push moment len) le b = ((λ k e. absurd (none-some k e)), b)
behind_after_event least stack xs push_close le b = ((λ k e. absurd (none-some k e)), b)
behind_after_event least stack xs open_fill le b = b
behind_after_event least [] xs reserve le b = tt
behind_after_event least (record_frame moment len None ∷ stack) xs reserve le b =
    ((λ k e. let same : length xs ≡ k = same_Some (length xs) k e in omega arith), b.1)
behind_after_event least (record_frame moment len (Some n) ∷ stack) xs reserve le b = b
behind_after_event least (close_frame ∷ stack) xs reserve le b = b
behind_after_event least [] xs (leave payload) le b = tt
behind_after_event least (f ∷ stack) xs (leave payload) le b = b.1
behind_after_event least stack xs wished le b = b

committed_more : (h : List HistoryEvent) (a : HistoryEvent) → CommittedAt (settled_prefix h) h
    → CommittedAt (settled_prefix (h ++ a ∷ [])) (h ++ a ∷ [])
committed_more h a k = ⊎_elim settled unsettled (either_way (is_settled (h ++ a ∷ [])))
  where
    settled : is_settled (h ++ a ∷ []) ≡ true → CommittedAt (settled_prefix (h ++ a ∷ [])) (h ++ a ∷ [])
    settled t =
        subst (λ (f : List HistoryEvent). CommittedAt f (h ++ a ∷ [])) (sym (settled_more h a ∙ cond-true _ _ _ t))
        record {
          agrees =
              ap (map as_record)
              (take_all (length (reserved_records (h ++ a ∷ []))) (reserved_records (h ++ a ∷ [])) (omega arith));
          within = omega arith;
          behind = subst (Behind (length (reserved_records (h ++ a ∷ [])))) (sym (none_stands (h ++ a ∷ []) t)) tt;
        }

    unsettled : is_settled (h ++ a ∷ []) ≡ false → CommittedAt (settled_prefix (h ++ a ∷ [])) (h ++ a ∷ [])
    unsettled f =
        subst (λ (g : List HistoryEvent). CommittedAt g (h ++ a ∷ [])) (sym (settled_more h a ∙ cond-false _ _ _ f))
        record {
          agrees =
              ap (λ (l : List Reservation). map as_record (take (length (reserved_records (settled_prefix h))) l))
              (records_snoc h a)
              ∙ ap (map as_record)
              (take_after_event (length (reserved_records (settled_prefix h))) (writer_after h).stack
              (writer_after h).records a k.within k.behind)
              ∙ k.agrees;
          within = let within = k.within in
              let more = length_after_event (writer_after h).stack (writer_after h).records a in
              let e = ap (length {A = Reservation}) (records_snoc h a) in
              omega arith;
          behind =
              subst (Behind (length (reserved_records (settled_prefix h))))
              (sym (ap (λ (w : WriterState). w.stack) (writer_snoc h a)))
              (behind_after_event (length (reserved_records (settled_prefix h))) (writer_after h).stack
              (writer_after h).records a k.within k.behind);
        }

committed_from : (front behind : List HistoryEvent) → CommittedAt (settled_prefix front) front
    → CommittedAt (settled_prefix (front ++ behind)) (front ++ behind)
committed_from front [] k =
    subst (λ (h : List HistoryEvent). CommittedAt (settled_prefix h) h) (sym (append-nil front)) k
committed_from front (a ∷ behind) k =
    subst (λ (h : List HistoryEvent). CommittedAt (settled_prefix h) h) (append_assoc front (a ∷ []) behind)
    (committed_from (front ++ a ∷ []) behind (committed_more front a k))

-- whatever was done, the committed records are the first ones that are reserved, as they are by now
pub committed_prefix : (h : List HistoryEvent) → CommittedAt (settled_prefix h) h
committed_prefix h = committed_from [] h record { agrees = refl; within = omega arith; behind = tt }

-- ---- how many are committed

pub whole_front : (m : ℕ) (h : List HistoryEvent) → length h ≤ m → is_settled h ≡ true → settled_prefix_within m h ≡ h
whole_front zero [] low t = refl
whole_front zero (a ∷ h) low t = absurd (omega arith)
whole_front (suc m) h low t = let whole : take (suc m) h ≡ h = take_all (suc m) h low in
    (λ i. cond (is_settled (whole i)) (whole i) (settled_prefix_within m h)) ∙ cond-true _ _ _ t

abbrev pub committed_len : List HistoryEvent → ℕ
committed_len h = length (reserved_records (settled_prefix h))

pub committed_len-settled : (h : List HistoryEvent) → is_settled h ≡ true
    → length (reserved_records h) ≤ committed_len h
committed_len-settled h t =
    let e =
    ap (λ (g : List HistoryEvent). length (reserved_records g)) (whole_front (length h) h (omega arith) t) in
    omega arith

pub committed_len-more : (h : List HistoryEvent) (a : HistoryEvent) → committed_len h ≤ committed_len (h ++ a ∷ [])
committed_len-more h a = ⊎_elim
    (λ t. let e = ap (λ (g : List HistoryEvent). length (reserved_records g)) (settled_more h a ∙ cond-true _ _ _ t) in
    let within = (committed_prefix h).within in
    let more = length_after_event (writer_after h).stack (writer_after h).records a in
    let e' = ap (length {A = Reservation}) (records_snoc h a) in
    omega arith)
    (λ f. let e = ap (λ (g : List HistoryEvent). length (reserved_records g)) (settled_more h a ∙ cond-false _ _ _ f) in
    omega arith)
    (either_way (is_settled (h ++ a ∷ [])))

-- the number of a fill's first record, after one more event
pub first_more : (h : List HistoryEvent) (a : HistoryEvent) (i : ℕ) → i ≤ length (opens_of h)
    → get_or (0 ∷ opens_of h) i 0 ≤ committed_len h
    → get_or (0 ∷ opens_of (h ++ a ∷ [])) i 0 ≤ committed_len (h ++ a ∷ [])
first_more h a i low le = let more = committed_len-more h a in
    let e =
    ap (λ (l : List ℕ). get_or (0 ∷ l) i 0) (opens_more [] h a)
    ∙ get_or-append (0 ∷ opens_of h) (opens_at h a) 0 i
    (let l : i < suc (length (opens_of h)) = omega arith in l) in
    omega arith
