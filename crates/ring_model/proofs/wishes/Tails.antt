-- A tail that holds a record holds one until the next fill is begun.
use Rattle.std.proofs.Common.{◌≡◌, ◌≢◌, ℕ, ◌<◌, ◌≤◌, ◌⊎◌, inl, inr, ⊎_elim, false, refl, List, [], ◌∷◌, ◌++◌, length}
use Rattle.std.proofs.Common.{Some, None, sym, ap, ◌∙◌, subst, arith, append_assoc, append-nil}
use Rattle.trace_model.specs.History.{HistoryEvent, push, push_close, open_fill, reserve, leave, wished, Reservation}
use Rattle.trace_model.specs.History.{PushedFrame, record_frame, close_frame, reservation_for, after_event}
use Rattle.trace_model.specs.History.{writer_after, reserved_records}
use Rattle.trace_model.specs.Packing.{opens_of, tail_of}
use Rattle.trace_model.specs.Fitting.{IsRising, tail_at}
use Rattle.trace_model.specs.Frames.{for_close, waiting}
use Rattle.trace_model.specs.Window.{Window, RingEvent, acts, closes, takes, loses, history_events_of, window_after}
use Rattle.trace_model.specs.Window.{WindowRunFrom}
use Rattle.trace_model.proofs.packing.FillCuts.{IsRising-more, opens_of-push, opens_of-push_close, opens_of-reserve}
use Rattle.trace_model.proofs.packing.FillCuts.{opens_of-leave, opens_of-wished}
use Rattle.trace_model.proofs.histories.NextRecords.{records_snoc, length_after_event}
use Rattle.trace_model.proofs.packing.PackedHistories.{plain-finished, tail_is, needs_alike, needs_reserved}
use Rattle.ring_model.proofs.histories.WindowRuns.{run_rises}

tail_after : (cuts : List ℕ) (stack : List PushedFrame) (xs : List Reservation) (a : HistoryEvent)
    → IsRising 0 cuts (length xs) → tail_at cuts xs ≢ [] → tail_at cuts (after_event stack xs a).records ≢ []
tail_after cuts stack xs (push moment len) rising some = some
tail_after cuts stack xs push_close rising some = some
tail_after cuts stack xs open_fill rising some = some
tail_after cuts [] xs reserve rising some = some
tail_after cuts (record_frame moment len None ∷ stack) xs reserve rising some =
    needs_reserved 0 cuts xs (reservation_for moment len xs) false for_close waiting rising some
tail_after cuts (record_frame moment len (Some number) ∷ stack) xs reserve rising some = some
tail_after cuts (close_frame ∷ stack) xs reserve rising some = some
tail_after cuts [] xs (leave payload) rising some = some
tail_after cuts (record_frame moment len number ∷ stack) xs (leave payload) rising some =
    needs_alike 0 cuts xs _ false for_close waiting (plain-finished number payload xs) some
tail_after cuts (close_frame ∷ stack) xs (leave payload) rising some = some
tail_after cuts stack xs wished rising some = some

-- what is kept of a history whose tail holds a record
record HasTail (h : List HistoryEvent) : Type 0 where
  pub rising : IsRising 0 (opens_of h) (length (reserved_records h))
  pub holds : tail_of h ≢ []

tail_snoc : (h : List HistoryEvent) (a : HistoryEvent) → opens_of (h ++ a ∷ []) ≡ opens_of h → HasTail h
    → HasTail (h ++ a ∷ [])
tail_snoc h a cuts t =
    let xs : List Reservation = (after_event (writer_after h).stack (reserved_records h) a).records in
    let records : reserved_records (h ++ a ∷ []) ≡ xs = records_snoc h a in
    let more : length (reserved_records h) ≤ length xs =
    length_after_event (writer_after h).stack (reserved_records h) a in
    record {
      rising = subst (λ (l : List Reservation). IsRising 0 (opens_of (h ++ a ∷ [])) (length l)) (sym records)
          (subst (λ (c : List ℕ). IsRising 0 c (length xs)) (sym cuts)
          (IsRising-more 0 (opens_of h) (length (reserved_records h)) (length xs) more t.rising));
      holds =
          λ none.
          tail_after (opens_of h) (writer_after h).stack (reserved_records h) a t.rising
          (λ no. t.holds (tail_is h ∙ no))
          (sym (λ i. tail_at (cuts i) (records i)) ∙ sym (tail_is (h ++ a ∷ [])) ∙ none);
    }

-- a history event begins a fill, or it leaves the window and the cuts as they are
begins_or_not : (h : List HistoryEvent) (w : Window) (a : HistoryEvent)
    → ((window_after w (acts a) ≡ w) × (opens_of (h ++ a ∷ []) ≡ opens_of h))
    ⊎ (w.opened < (window_after w (acts a)).opened)
begins_or_not h w (push moment len) = inl (refl, opens_of-push h moment len)
begins_or_not h w push_close = inl (refl, opens_of-push_close h)
begins_or_not h w open_fill = inr (omega arith)
begins_or_not h w reserve = inl (refl, opens_of-reserve h)
begins_or_not h w (leave payload) = inl (refl, opens_of-leave h payload)
begins_or_not h w wished = inl (refl, opens_of-wished h)

has_over : (n : ℕ) (h : List HistoryEvent) (w : Window) (events : List RingEvent) (after : Window)
    → WindowRunFrom n h w events after → after.opened ≤ w.opened → HasTail h → HasTail (h ++ history_events_of events)
has_over n h w [] after run le t = subst HasTail (sym (append-nil h)) t
has_over n h w (acts a ∷ events) after run le t =
    let rises = run_rises n (h ++ a ∷ []) (window_after w (acts a)) after events run.1 in let opens = rises.opened in
    ⊎_elim
    (λ (same, cuts). let at : (window_after w (acts a)).opened ≡ w.opened = ap (λ (v : Window). v.opened) same in
    subst HasTail (append_assoc h (a ∷ []) (history_events_of events))
    (has_over n (h ++ a ∷ []) (window_after w (acts a)) events after run.1 (omega arith) (tail_snoc h a cuts t)))
    (λ more. absurd (omega arith))
    (begins_or_not h w a)
has_over n h w (closes ∷ events) after run le t = has_over n h (window_after w closes) events after run.1 le t
has_over n h w (takes ∷ events) after run le t = has_over n h (window_after w takes) events after run.1 le t
has_over n h w (loses ∷ events) after run le t = has_over n h (window_after w loses) events after run.1 le t

pub tail_over : (n : ℕ) (h : List HistoryEvent) (w : Window) (events : List RingEvent) (after : Window)
    → IsRising 0 (opens_of h) (length (reserved_records h)) → WindowRunFrom n h w events after → after.opened ≡ w.opened
    → tail_of h ≢ [] → tail_of (h ++ history_events_of events) ≢ []
tail_over n h w events after rising run same some =
    (has_over n h w events after run (omega arith) record { rising = rising; holds = some }).holds
