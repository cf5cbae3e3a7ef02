-- Each fill but the last has a record, so there are few fills.
use Rattle.std.proofs.Common.{◌≡◌, ◌≢◌, ℕ, ◌+◌, ◌≤◌, ◌⊎◌, List, [], ◌∷◌, ◌++◌, length, get_or, map, Option, Some, None}
use Rattle.std.proofs.Common.{refl, sym, ap, ◌∙◌, subst, inl, inr, arith, append_assoc, append-nil, length-append}
use Rattle.std.proofs.lemmas.List.{length-map}
use Rattle.trace_model.specs.History.{HistoryEvent, push, push_close, open_fill, reserve, leave, wished, Reservation}
use Rattle.trace_model.specs.History.{PushedFrame, record_frame, close_frame, after_event, writer_after}
use Rattle.trace_model.specs.History.{reserved_records}
use Rattle.trace_model.specs.Packing.{opens_of, cut_from, tail_of}
use Rattle.trace_model.specs.Fitting.{tail_at}
use Rattle.trace_model.specs.Window.{Window, RingEvent, acts, closes, takes, loses, history_events_of, window_after}
use Rattle.trace_model.specs.Window.{WindowRunFrom}
use Rattle.trace_model.proofs.packing.FillCuts.{opens_of-push, opens_of-push_close, opens_of-reserve, opens_of-leave}
use Rattle.trace_model.proofs.packing.FillCuts.{opens_of-wished}
use Rattle.trace_model.proofs.histories.NextRecords.{records_snoc}
use Rattle.trace_model.proofs.packing.PackedHistories.{plain, plain-finished, cut-plain, plain_nil, tail_is}
use Rattle.ring_model.proofs.seats.FrameEnds.{opened_tail}
use Rattle.line_model.specs.WrittenRecords.{FillsAreFew}

pub record IsFew (start : ℕ) (h : List HistoryEvent) (opened : ℕ) : Type 0 where
  pub all : opened ≤ start + length (reserved_records h) + 1
  pub held : tail_of h ≢ [] → opened ≤ start + length (reserved_records h)

-- ---- one history event

same_tail : (h : List HistoryEvent) (a : HistoryEvent)
    → opens_of (h ++ a ∷ []) ≡ opens_of h
    → reserved_records (h ++ a ∷ []) ≡ reserved_records h
    → tail_of (h ++ a ∷ []) ≡ tail_of h
same_tail h a opens records = tail_is (h ++ a ∷ []) ∙ (λ i. tail_at (opens i) (records i)) ∙ sym (tail_is h)

few_same : (start : ℕ) (h : List HistoryEvent) (a : HistoryEvent) (opened : ℕ)
    → opens_of (h ++ a ∷ []) ≡ opens_of h
    → reserved_records (h ++ a ∷ []) ≡ reserved_records h
    → IsFew start h opened
    → IsFew start (h ++ a ∷ []) opened
few_same start h a opened opens records few =
    let long = ap (λ (l : List Reservation). length l) records in
    let most = few.all in record {
      all = omega arith;
      held = λ some. let low = few.held (λ none. some (same_tail h a opens records ∙ none)) in omega arith;
    }

plain_left : (stack : List PushedFrame) (xs : List Reservation) (payload : Option (List ℕ))
    → map plain (after_event stack xs (leave payload)).records ≡ map plain xs
plain_left [] xs payload = refl
plain_left (record_frame moment len number ∷ stack) xs payload = plain-finished number payload xs
plain_left (close_frame ∷ stack) xs payload = refl

few_leave : (start : ℕ) (h : List HistoryEvent) (payload : Option (List ℕ)) (opened : ℕ)
    → IsFew start h opened
    → IsFew start (h ++ leave payload ∷ []) opened
few_leave start h payload opened few =
    let long : length (reserved_records (h ++ leave payload ∷ [])) ≡ length (reserved_records h) =
    sym (length-map (reserved_records (h ++ leave payload ∷ [])) plain) ∙ ap length alike
    ∙ length-map (reserved_records h) plain in
    let most = few.all in record {
      all = omega arith;
      held = λ some. let low = few.held (λ none. some (bare none)) in omega arith;
    }
  where
    alike : map plain (reserved_records (h ++ leave payload ∷ [])) ≡ map plain (reserved_records h)
    alike = ap (map plain) (records_snoc h (leave payload))
        ∙ plain_left (writer_after h).stack (writer_after h).records payload

    bare : tail_of h ≡ [] → tail_of (h ++ leave payload ∷ []) ≡ []
    bare none =
        let cuts : List ℕ = opens_of h in
        let xs : List Reservation = reserved_records h in
        let ys : List Reservation = reserved_records (h ++ leave payload ∷ []) in
        tail_is (h ++ leave payload ∷ [])
        ∙ ap (λ (l : List ℕ). tail_at l ys) (opens_of-leave h payload)
        ∙ plain_nil (tail_at cuts ys) (sym (cut-plain 0 cuts ys (length cuts))
        ∙ ap (λ (l : List Reservation). get_or (cut_from 0 cuts l) (length cuts) []) alike
        ∙ cut-plain 0 cuts xs (length cuts)
        ∙ ap (map plain) (sym (tail_is h) ∙ none))

-- a reservation adds one record, or none

grown : (stack : List PushedFrame) (xs : List Reservation)
    → (((after_event stack xs reserve).records ≡ xs)
    ⊎ ((r : Reservation) × ((after_event stack xs reserve).records ≡ xs ++ r ∷ [])))
grown [] xs = inl refl
grown (record_frame moment len None ∷ stack) xs = inr (_, refl)
grown (record_frame moment len (Some number) ∷ stack) xs = inl refl
grown (close_frame ∷ stack) xs = inl refl

few_reserve : (start : ℕ) (h : List HistoryEvent) (opened : ℕ)
    → IsFew start h opened
    → IsFew start (h ++ reserve ∷ []) opened
few_reserve start h opened few = by_records (grown (writer_after h).stack (writer_after h).records)
  where
    by_records : ((after_event (writer_after h).stack (writer_after h).records reserve).records ≡ reserved_records h)
        ⊎ ((r : Reservation)
        × ((after_event (writer_after h).stack (writer_after h).records reserve).records ≡ reserved_records
        h ++ r ∷ []))
        → IsFew start (h ++ reserve ∷ []) opened
    by_records (inl same) = few_same start h reserve opened (opens_of-reserve h) (records_snoc h reserve ∙ same) few
    by_records (inr (r, more)) =
        let long = ap (λ (l : List Reservation). length l) (records_snoc h reserve ∙ more) in
        let longer = length-append (reserved_records h) (r ∷ []) in
        let most = few.all in
        record { all = omega arith; held = λ some. omega arith }

pub few_act : (start : ℕ) (h : List HistoryEvent) (w : Window) (a : HistoryEvent)
    → (a ≡ open_fill → tail_of h ≢ [])
    → IsFew start h w.opened
    → IsFew start (h ++ a ∷ []) (window_after w (acts a)).opened
few_act start h w (push moment len) begins few =
    few_same start h (push moment len) w.opened (opens_of-push h moment len) (records_snoc h (push moment len)) few
few_act start h w push_close begins few =
    few_same start h push_close w.opened (opens_of-push_close h) (records_snoc h push_close) few
few_act start h w open_fill begins few =
    let long = ap (λ (l : List Reservation). length l) (records_snoc h open_fill) in
    let low = few.held (begins refl) in
    record { all = omega arith; held = λ some. absurd (some (opened_tail h)) }
few_act start h w reserve begins few = few_reserve start h w.opened few
few_act start h w (leave payload) begins few = few_leave start h payload w.opened few
few_act start h w wished begins few =
    few_same start h wished w.opened (opens_of-wished h) (records_snoc h wished) few

-- ---- events

pub few_run : (n start : ℕ) (h : List HistoryEvent) (w after : Window) (events : List RingEvent)
    → WindowRunFrom n h w events after
    → ((front behind : List HistoryEvent) → h ++ history_events_of events ≡ front ++ open_fill ∷ behind
    → tail_of front ≢ [])
    → IsFew start h w.opened
    → IsFew start (h ++ history_events_of events) after.opened
few_run n start h w after [] run begins few =
    subst (λ (l : List HistoryEvent). IsFew start l after.opened) (sym (append-nil h))
    (subst (λ (v : Window). IsFew start h v.opened) run few)
few_run n start h w after (acts a ∷ events) run begins few =
    let one : h ++ a ∷ history_events_of events ≡ (h ++ a ∷ []) ++ history_events_of events =
    sym (append_assoc h (a ∷ []) (history_events_of events)) in
    subst (λ (l : List HistoryEvent). IsFew start l after.opened) (sym one)
    (few_run n start (h ++ a ∷ []) (window_after w (acts a)) after events run.1
    (λ front behind e. begins front behind (one ∙ e))
    (few_act start h w a
    (λ opens. begins h (history_events_of events) (ap (λ (b : HistoryEvent). h ++ b ∷ history_events_of events) opens))
    few))
few_run n start h w after (closes ∷ events) run begins few =
    few_run n start h (window_after w closes) after events run.1 begins record { all = few.all; held = few.held }
few_run n start h w after (takes ∷ events) run begins few =
    few_run n start h (window_after w takes) after events run.1 begins record { all = few.all; held = few.held }
few_run n start h w after (loses ∷ events) run begins few =
    few_run n start h (window_after w loses) after events run.1 begins record { all = few.all; held = few.held }

pub few_start : (start : ℕ) → IsFew start [] (start + 1)
few_start start = record { all = omega arith; held = λ some. absurd (some refl) }

pub fills_are_few : FillsAreFew
fills_are_few n size start events w run packed =
    let few = few_run n start [] _ w events run (λ front behind e. packed.begins front behind e) (few_start start) in
    (few.all, few.held)
