-- The discipline of the stack, event by event.
use Rattle.std.proofs.Common.{◌≡◌, List, [], ◌∷◌, ◌++◌, fold, refl, ap, subst}
use Rattle.trace_model.specs.History.{HistoryEvent, WriterState, after_event, writer_after, MayAct, IsHistory}

-- each event is one that the stack allows after this state and the events before it
abbrev pub AreAllowed : WriterState → List HistoryEvent → Type 0
AreAllowed w [] = Unit {0}
AreAllowed w (a ∷ events) = MayAct w.stack a × AreAllowed (after_event w.stack w.records a) events

allowed_at : (w : WriterState) (front behind : List HistoryEvent) (a : HistoryEvent)
    → AreAllowed w (front ++ a ∷ behind) → MayAct (fold (λ v b. after_event v.stack v.records b) w front).stack a
allowed_at w [] behind a h = h.0
allowed_at w (b ∷ front) behind a h = allowed_at (after_event w.stack w.records b) front behind a h.1

pub IsHistory-allowed : (history : List HistoryEvent) → AreAllowed (record { stack = []; records = [] }) history
    → IsHistory history
IsHistory-allowed history h front behind a cut =
    let start : WriterState = record { stack = []; records = [] } in
    allowed_at start front behind a (subst (AreAllowed start) cut h)

allowed_from : (w : WriterState) (events : List HistoryEvent)
    → ((front behind : List HistoryEvent) (a : HistoryEvent) → events ≡ front ++ a ∷ behind
    → MayAct (fold (λ v b. after_event v.stack v.records b) w front).stack a) → AreAllowed w events
allowed_from w [] h = tt
allowed_from w (a ∷ events) h = (
  h [] events a refl,
  allowed_from (after_event w.stack w.records a) events
      (λ front behind b cut. h (a ∷ front) behind b (ap (λ (rest : List HistoryEvent). a ∷ rest) cut)),
)

pub allowed-IsHistory : (history : List HistoryEvent) → IsHistory history
    → AreAllowed (record { stack = []; records = [] }) history
allowed-IsHistory history h = allowed_from (record { stack = []; records = [] }) history h

AreAllowed-push : (w : WriterState) (events : List HistoryEvent) (a : HistoryEvent) → AreAllowed w events
    → MayAct (fold (λ v b. after_event v.stack v.records b) w events).stack a → AreAllowed w (events ++ a ∷ [])
AreAllowed-push w [] a h may = (may, tt)
AreAllowed-push w (b ∷ events) a h may = (h.0, AreAllowed-push (after_event w.stack w.records b) events a h.1 may)

-- one more event that is allowed
pub IsHistory-push : (history : List HistoryEvent) (a : HistoryEvent) → IsHistory history
    → MayAct (writer_after history).stack a → IsHistory (history ++ a ∷ [])
IsHistory-push history a h may =
    IsHistory-allowed (history ++ a ∷ [])
    (AreAllowed-push record { stack = []; records = [] } history a (allowed-IsHistory history h) may)

pub IsHistory-none : IsHistory []
IsHistory-none = IsHistory-allowed [] tt

pub AreAllowed-front : (w : WriterState) (front behind : List HistoryEvent) → AreAllowed w (front ++ behind)
    → AreAllowed w front
AreAllowed-front w [] behind h = tt
AreAllowed-front w (a ∷ front) behind h = (h.0, AreAllowed-front (after_event w.stack w.records a) front behind h.1)
