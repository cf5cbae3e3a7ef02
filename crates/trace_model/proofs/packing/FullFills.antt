-- In a packed history every fill but the last holds a record.
use Rattle.std.proofs.Common.{◌≡◌, ◌≢◌, ℕ, ◌+◌, ◌<◌, ◌⊎◌, List, [], ◌∷◌, ◌++◌, length, get_or, map, Option, Some, None}
use Rattle.std.proofs.Common.{refl, sym, ap, ◌∙◌, subst, inl, inr, ⊎_elim, arith, append_assoc, append-nil}
use Rattle.std.proofs.Common.{length-append}
use Rattle.std.proofs.lemmas.List.{length-map}
use mathlib.Core.Logic.{dite}
use native.Mathlib.Decide.{ℕ_discrete}
use Rattle.trace_model.specs.History.{HistoryEvent, push, push_close, open_fill, reserve, leave, wished, Reservation}
use Rattle.trace_model.specs.History.{PushedFrame, record_frame, close_frame, after_event, writer_after}
use Rattle.trace_model.specs.History.{reserved_records}
use Rattle.trace_model.specs.Packing.{opens_of, cut_from, fills_of, tail_of, IsPacked}
use Rattle.trace_model.specs.Fitting.{IsRising}
use Rattle.trace_model.proofs.packing.FillCuts.{length-cut_from, IsRising-more, IsRising-snoc, reserved_before}
use Rattle.trace_model.proofs.packing.FillCuts.{opened_before, opens_of-push, opens_of-push_close, opens_of-reserve}
use Rattle.trace_model.proofs.packing.FillCuts.{opens_of-leave, opens_of-wished, opens_of-open_fill}
use Rattle.trace_model.proofs.histories.NextRecords.{records_snoc}
use Rattle.trace_model.proofs.packing.PackedHistories.{plain, plain-finished, cut-plain, plain_nil, tail_is}

-- what an event makes of the records: one more of them, or the same but for bytes
abbrev Grown : List Reservation → List Reservation → Type 0
Grown xs ys = (map plain ys ≡ map plain xs) ⊎ ((s : Reservation) × (ys ≡ xs ++ s ∷ []))

grown_reserve : (stack : List PushedFrame) (xs : List Reservation) → Grown xs (after_event stack xs reserve).records
grown_reserve [] xs = inl refl
grown_reserve (record_frame moment len None ∷ stack) xs = inr (_, refl)
grown_reserve (record_frame moment len (Some number) ∷ stack) xs = inl refl
grown_reserve (close_frame ∷ stack) xs = inl refl

grown_leave : (stack : List PushedFrame) (xs : List Reservation) (payload : Option (List ℕ))
    → Grown xs (after_event stack xs (leave payload)).records
grown_leave [] xs payload = inl refl
grown_leave (record_frame moment len number ∷ stack) xs payload = inl (plain-finished number payload xs)
grown_leave (close_frame ∷ stack) xs payload = inl refl

-- the cuts rise, and each fill but the last holds a record
record AreFull (cuts : List ℕ) (xs : List Reservation) : Type 0 where
  rising : IsRising 0 cuts (length xs)
  full : (i : ℕ) → i < length cuts → get_or (cut_from 0 cuts xs) i [] ≢ []

full_alike : (cuts : List ℕ) (xs ys : List Reservation) → map plain ys ≡ map plain xs → AreFull cuts xs
    → AreFull cuts ys
full_alike cuts xs ys same k = record {
  rising = subst (IsRising 0 cuts) (sym (length-map xs plain) ∙ ap length (sym same) ∙ length-map ys plain) k.rising;
  full = λ i low none. k.full i low (plain_nil (get_or (cut_from 0 cuts xs) i [])
      (sym (cut-plain 0 cuts xs i) ∙ ap (λ (l : List Reservation). get_or (cut_from 0 cuts l) i []) (sym same)
      ∙ cut-plain 0 cuts ys i ∙ ap (map plain) none));
}

full_more : (cuts : List ℕ) (xs : List Reservation) (s : Reservation) → AreFull cuts xs → AreFull cuts (xs ++ s ∷ [])
full_more cuts xs s k = record {
  rising = IsRising-more 0 cuts (length xs) (length (xs ++ s ∷ [])) (omega (arith, length-append xs (s ∷ []))) k.rising;
  full = λ i low none. k.full i low (sym (reserved_before 0 cuts xs s i k.rising low) ∙ none);
}

full_opened : (cuts : List ℕ) (xs : List Reservation) → get_or (cut_from 0 cuts xs) (length cuts) [] ≢ []
    → AreFull cuts xs → AreFull (cuts ++ length xs ∷ []) xs
full_opened cuts xs some k = record {
  rising = IsRising-snoc 0 cuts (length xs) k.rising;
  full = λ i low none. let longer = length-append cuts (length xs ∷ []) in dite (ℕ_discrete i (length cuts))
      (λ e.
      some (ap (λ (j : ℕ). get_or (cut_from 0 cuts xs) j []) (sym e) ∙ sym (opened_before 0 cuts xs i (omega arith))
      ∙ none))
      (λ ne. k.full i (omega arith) (sym (opened_before 0 cuts xs i (omega arith)) ∙ none));
}

abbrev FullIn : List HistoryEvent → Type 0
FullIn h = AreFull (opens_of h) (reserved_records h)

-- an event that begins no fill
full_acts : (h : List HistoryEvent) (a : HistoryEvent) → opens_of (h ++ a ∷ []) ≡ opens_of h
    → Grown (reserved_records h) (after_event (writer_after h).stack (writer_after h).records a).records → FullIn h
    → FullIn (h ++ a ∷ [])
full_acts h a cuts grown k =
    subst (λ (l : List ℕ). AreFull l (reserved_records (h ++ a ∷ []))) (sym cuts)
    (subst (AreFull (opens_of h)) (sym (records_snoc h a))
    (⊎_elim (λ same. full_alike (opens_of h) (reserved_records h) _ same k)
    (λ (s, is). subst (AreFull (opens_of h)) (sym is) (full_more (opens_of h) (reserved_records h) s k)) grown))

full_act : (h : List HistoryEvent) (a : HistoryEvent) → (a ≡ open_fill → tail_of h ≢ []) → FullIn h
    → FullIn (h ++ a ∷ [])
full_act h (push moment len) begins k = full_acts h (push moment len) (opens_of-push h moment len) (inl refl) k
full_act h push_close begins k = full_acts h push_close (opens_of-push_close h) (inl refl) k
full_act h open_fill begins k =
    subst (λ (l : List ℕ). AreFull l (reserved_records (h ++ open_fill ∷ []))) (sym (opens_of-open_fill h))
    (subst (AreFull (opens_of h ++ length (reserved_records h) ∷ [])) (sym (records_snoc h open_fill))
    (full_opened (opens_of h) (reserved_records h) (λ none. begins refl (tail_is h ∙ none)) k))
full_act h reserve begins k =
    full_acts h reserve (opens_of-reserve h) (grown_reserve (writer_after h).stack (writer_after h).records) k
full_act h (leave payload) begins k =
    full_acts h (leave payload) (opens_of-leave h payload)
    (grown_leave (writer_after h).stack (writer_after h).records payload) k
full_act h wished begins k = full_acts h wished (opens_of-wished h) (inl refl) k

-- after a front in which it is so
full_behind : (front behind : List HistoryEvent)
    → ((f b : List HistoryEvent) → front ++ behind ≡ f ++ open_fill ∷ b → tail_of f ≢ []) → FullIn front
    → FullIn (front ++ behind)
full_behind front [] begins k = subst FullIn (sym (append-nil front)) k
full_behind front (a ∷ behind) begins k =
    let one : front ++ a ∷ behind ≡ (front ++ a ∷ []) ++ behind = sym (append_assoc front (a ∷ []) behind) in
    subst FullIn (sym one) (full_behind (front ++ a ∷ []) behind (λ f b e. begins f b (one ∙ e))
    (full_act front a (λ opens. begins front behind (ap (λ (x : HistoryEvent). front ++ x ∷ behind) opens)) k))

pub packed_full : (h : List HistoryEvent) (size k : ℕ) → IsPacked h size → k + 1 < length (fills_of h)
    → get_or (fills_of h) k [] ≢ []
packed_full h size k p low =
    let all =
    full_behind [] h (λ f b e. p.begins f b e) record { rising = omega arith; full = λ i none. absurd (omega arith) } in
    all.full k (let long = length-cut_from 0 (opens_of h) (reserved_records h) in omega arith)
