-- Events that are due, one after the other: of what a frame may do, at most one is due at a time, so there is one thing
-- that it does until it has gone.
use Rattle.std.proofs.Common.{◌≡◌, ℕ, ◌+◌, ◌≤◌, IsTrue, Bool, true, false, List, [], ◌∷◌, ◌++◌, Some, None, refl, sym}
use Rattle.std.proofs.Common.{ap, ◌∙◌, subst, append_assoc, append-nil, arith}
use Rattle.std.proofs.lemmas.List.Sums.{fold-append}
use Rattle.trace_model.specs.Words.{padded}
use Rattle.trace_model.specs.History.{HistoryEvent, push, push_close, open_fill, reserve, leave, wished, PushedFrame}
use Rattle.trace_model.specs.History.{record_frame, close_frame}
use Rattle.trace_model.specs.Packing.{is_wished}
use Rattle.trace_model.specs.Window.{Window, first_window, RingEvent, acts, closes, takes, loses, history_events_of}
use Rattle.trace_model.specs.Window.{window_after}
use Rattle.trace_model.proofs.packing.PackedHistories.{is_wished-push, is_wished-push_close, is_wished-open_fill}
use Rattle.trace_model.proofs.packing.PackedHistories.{is_wished-reserve, is_wished-leave, is_wished-wished}
use Rattle.ring_model.proofs.histories.WindowRuns.{history_events-append}
use Rattle.text_model.specs.Script.{Script}
use Rattle.line_model.specs.Due.{window_at, Situation, situation_after, pushed_in, IsFillNeededFor, IsFillNeeded}
use Rattle.line_model.specs.Due.{HasNoFill, HasNoRecord, Leaves, IsDue}
use Rattle.line_model.specs.Accounts.{LineFrame, IsOwn, frame_after, Does, HasGone}
use Rattle.line_model.proofs.DueRuns.{DueFrom}

-- ---- what is kept from event to event

-- The reader knows no fill to be closed that isn't, and wishes for the next one at most; and since its wish was found
-- no fill is left to be closed but the tail.
pub record Holds (asked seen : ℕ) (w : Window) (found : Bool) : Type 0 where
  pub seen_le : seen ≤ w.done
  pub wish_le : asked ≤ w.done + 1
  pub tail_only : IsTrue found → w.opened ≤ w.done + 1

-- this holds after these events
abbrev pub IsKept : (start asked seen : ℕ) → List RingEvent → Type 0
IsKept start asked seen events = Holds asked seen (window_at start events) (is_wished (history_events_of events))

-- the window after one event more
window_snoc : (start : ℕ) (events : List RingEvent) (event : RingEvent)
    → window_at start (events ++ event ∷ []) ≡ window_after (window_at start events) event
window_snoc start events event = fold-append window_after (first_window start) events (event ∷ [])

-- it holds after one event more, if it does of that window, and of whether the wish was found then
kept_by : (start asked seen : ℕ) (events : List RingEvent) (event : RingEvent) (found : Bool)
    → is_wished (history_events_of (events ++ event ∷ [])) ≡ found
    → Holds asked seen (window_after (window_at start events) event) found
    → IsKept start asked seen (events ++ event ∷ [])
kept_by start asked seen events event found e h =
    subst (λ (w : Window). Holds asked seen w (is_wished (history_events_of (events ++ event ∷ []))))
    (sym (window_snoc start events event))
    (subst (λ (b : Bool). Holds asked seen (window_after (window_at start events) event) b) (sym e) h)

-- whether the wish is found after one event more of the history, and after one of the window alone
found_acts : (events : List RingEvent) (a : HistoryEvent)
    → is_wished (history_events_of (events ++ acts a ∷ [])) ≡ is_wished (history_events_of events ++ a ∷ [])
found_acts events a = ap is_wished (history_events-append events (acts a ∷ []))

found_quiet : (events : List RingEvent) (event : RingEvent)
    → history_events_of (event ∷ []) ≡ []
    → is_wished (history_events_of (events ++ event ∷ [])) ≡ is_wished (history_events_of events)
found_quiet events event quiet =
    ap is_wished (history_events-append events (event ∷ [])
    ∙ ap (λ (l : List HistoryEvent). history_events_of events ++ l) quiet
    ∙ append-nil (history_events_of events))

-- an event that is due keeps it
pub kept_on : (script : Script) (asked seen : ℕ) (events : List RingEvent) (event : RingEvent)
    → IsDue (situation_after script asked events) event
    → IsKept script.start asked seen events
    → IsKept script.start asked seen (events ++ event ∷ [])
kept_on script asked seen events (acts (push moment len)) due k =
    kept_by script.start asked seen events (acts (push moment len)) _
    (found_acts events (push moment len) ∙ is_wished-push (history_events_of events) moment len) k
kept_on script asked seen events (acts push_close) due k =
    kept_by script.start asked seen events (acts push_close) _
    (found_acts events push_close ∙ is_wished-push_close (history_events_of events)) k
kept_on script asked seen events (acts open_fill) due k =
    kept_by script.start asked seen events (acts open_fill) false
    (found_acts events open_fill ∙ is_wished-open_fill (history_events_of events))
    record { seen_le = k.seen_le; wish_le = k.wish_le; tail_only = λ none. absurd (let f : false ≡ true = none in cc) }
kept_on script asked seen events (acts reserve) due k =
    kept_by script.start asked seen events (acts reserve) _
    (found_acts events reserve ∙ is_wished-reserve (history_events_of events)) k
kept_on script asked seen events (acts (leave payload)) due k =
    kept_by script.start asked seen events (acts (leave payload)) _
    (found_acts events (leave payload) ∙ is_wished-leave (history_events_of events) payload) k
kept_on script asked seen events (acts wished) due k =
    kept_by script.start asked seen events (acts wished) true
    (found_acts events wished ∙ is_wished-wished (history_events_of events))
    record {
      seen_le = k.seen_le;
      wish_le = k.wish_le;
      tail_only = λ some. let wished_for : asked ≡ (window_at script.start events).opened = due.1.0 in
          let low = k.wish_le in omega arith;
    }
kept_on script asked seen events closes due k =
    kept_by script.start asked seen events closes _ (found_quiet events closes refl)
    record {
      seen_le = let low = k.seen_le in omega arith;
      wish_le = let low = k.wish_le in omega arith;
      tail_only = λ some. let low = k.tail_only some in omega arith;
    }
kept_on script asked seen events takes due k =
    kept_by script.start asked seen events takes _ (found_quiet events takes refl)
    record { seen_le = k.seen_le; wish_le = k.wish_le; tail_only = k.tail_only }
kept_on script asked seen events loses due k =
    kept_by script.start asked seen events loses _ (found_quiet events loses refl)
    record { seen_le = k.seen_le; wish_le = k.wish_le; tail_only = k.tail_only }

-- events that are due keep it
pub kept_all : (script : Script) (asked seen : ℕ) (before own : List RingEvent)
    → DueFrom script asked before own
    → IsKept script.start asked seen before
    → IsKept script.start asked seen (before ++ own)
kept_all script asked seen before [] due k =
    subst (IsKept script.start asked seen) (sym (append-nil before)) k
kept_all script asked seen before (event ∷ own) due k =
    subst (IsKept script.start asked seen) (append_assoc before (event ∷ []) own)
    (kept_all script asked seen (before ++ event ∷ []) own due.1
    (kept_on script asked seen before event due.0 k))

-- ---- at most one event is due

-- a frame that leaves without a record though it needs a fill can have none
leaves_short : (s : Situation) (stack : List PushedFrame) → Leaves s stack None → IsFillNeeded s → HasNoFill s
leaves_short s [] leaving needs = absurd leaving
leaves_short s (record_frame moment len None ∷ below) leaving needs = leaving.1
leaves_short s (record_frame moment len (Some number) ∷ below) leaving needs = absurd leaving
leaves_short s (close_frame ∷ below) leaving needs = leaving needs

-- a frame that leaves with its record needs no fill
leaves_served : (s : Situation) (stack : List PushedFrame) (bytes : List ℕ)
    → Leaves s stack (Some bytes)
    → IsFillNeededFor s stack
    → ⊥
leaves_served s [] bytes leaving needs = leaving
leaves_served s (record_frame moment len None ∷ below) bytes leaving needs = leaving
leaves_served s (record_frame moment len (Some number) ∷ below) bytes leaving needs = needs
leaves_served s (close_frame ∷ below) bytes leaving needs = leaving

-- a record frame without a record leaves without one only if it needs a fill
waits_short : (s : Situation) (stack : List PushedFrame) → HasNoRecord stack → Leaves s stack None → IsFillNeeded s
waits_short s [] waits leaving = absurd waits
waits_short s (record_frame moment len None ∷ below) waits leaving = leaving.0
waits_short s (record_frame moment len (Some number) ∷ below) waits leaving = absurd waits
waits_short s (close_frame ∷ below) waits leaving = absurd waits

-- and doesn't leave with one
waits_unserved : (s : Situation) (stack : List PushedFrame) (bytes : List ℕ)
    → HasNoRecord stack
    → Leaves s stack (Some bytes)
    → ⊥
waits_unserved s [] bytes waits leaving = waits
waits_unserved s (record_frame moment len None ∷ below) bytes waits leaving = leaving
waits_unserved s (record_frame moment len (Some number) ∷ below) bytes waits leaving = waits
waits_unserved s (close_frame ∷ below) bytes waits leaving = waits

-- a frame leaves either with its record or without one
leaves_once : (s : Situation) (stack : List PushedFrame) (bytes : List ℕ)
    → Leaves s stack None
    → Leaves s stack (Some bytes)
    → ⊥
leaves_once s [] bytes short served = short
leaves_once s (record_frame moment len None ∷ below) bytes short served = served
leaves_once s (record_frame moment len (Some number) ∷ below) bytes short served = short
leaves_once s (close_frame ∷ below) bytes short served = served

-- Two different events of one frame are never due at a time. In these names `fill` stands for both events of a fill,
-- that it is begun or lost.
module _ (s : Situation) (seen : ℕ) (holds : Holds s.wish seen s.window (is_wished s.history)) (below : List LineFrame)
    (frame : LineFrame) where
  written : (own : List ℕ) → frame.payload ≡ Some own → frame.payload ≡ None → ⊥
  written own some none = let both : None ≡ Some own = sym none ∙ some in cc

  fill-reserve : IsFillNeeded s → IsDue s (acts reserve) → ⊥
  fill-reserve needs due = due.1 needs

  fill-short : IsFillNeeded s → (HasNoFill s → ⊥) → IsDue s (acts (leave None)) → ⊥
  fill-short needs can due = can (leaves_short s (pushed_in s) due needs)

  fill-served : (bytes : List ℕ) → IsFillNeeded s → IsDue s (acts (leave (Some bytes))) → ⊥
  fill-served bytes needs due = leaves_served s (pushed_in s) bytes due needs

  fill-wished : IsFillNeeded s → IsDue s (acts wished) → ⊥
  fill-wished needs due = due.1.3 needs

  fill-closes : IsFillNeeded s → IsDue s closes → ⊥
  fill-closes needs due =
      let asked : IsFillNeededFor s [] = subst (IsFillNeededFor s) due.0 needs in
      let low = holds.tail_only asked.0 in
      let high = due.1 in omega arith

  open-loses : IsDue s (acts open_fill) → IsDue s loses → ⊥
  open-loses opening losing = let low = opening.2 in let full = losing.3 in omega arith

  reserve-short : IsDue s (acts reserve) → IsDue s (acts (leave None)) → ⊥
  reserve-short reserving leaving = reserving.1 (waits_short s (pushed_in s) reserving.0 leaving)

  reserve-served : (bytes : List ℕ) → IsDue s (acts reserve) → IsDue s (acts (leave (Some bytes))) → ⊥
  reserve-served bytes reserving leaving = waits_unserved s (pushed_in s) bytes reserving.0 leaving

  short-served : (bytes : List ℕ) → IsDue s (acts (leave None)) → IsDue s (acts (leave (Some bytes))) → ⊥
  short-served bytes short served = leaves_once s (pushed_in s) bytes short served

  wished-closes : IsDue s (acts wished) → IsDue s closes → ⊥
  wished-closes wishing closing =
      let asked : s.wish ≡ s.window.opened = wishing.1.0 in
      let low = holds.wish_le in
      let high = closing.1 in omega arith

  -- of what the frame may do, at most one event is due
  one_event : (x y : RingEvent)
      → IsOwn below frame x
      → IsDue s x
      → IsOwn below frame y
      → IsDue s y
      → x ≡ y
  one_event (acts (push moment len)) y xo xd yo yd = absurd xo
  one_event (acts push_close) y xo xd yo yd = absurd xo
  one_event takes y xo xd yo yd = absurd xo
  one_event x (acts (push moment len)) xo xd yo yd = absurd yo
  one_event x (acts push_close) xo xd yo yd = absurd yo
  one_event x takes xo xd yo yd = absurd yo
  one_event (acts open_fill) (acts open_fill) xo xd yo yd = refl
  one_event (acts open_fill) (acts reserve) xo xd yo yd = absurd (fill-reserve xd.0 yd)
  one_event (acts open_fill) (acts (leave None)) xo xd yo yd = absurd (fill-short xd.0 xd.1 yd)
  one_event (acts open_fill) (acts (leave (Some bytes))) xo xd yo yd = absurd (fill-served bytes xd.0 yd)
  one_event (acts open_fill) (acts wished) xo xd yo yd = absurd (fill-wished xd.0 yd)
  one_event (acts open_fill) closes xo xd yo yd = absurd (fill-closes xd.0 yd)
  one_event (acts open_fill) loses xo xd yo yd = absurd (open-loses xd yd)
  one_event loses (acts open_fill) xo xd yo yd = absurd (open-loses yd xd)
  one_event loses (acts reserve) xo xd yo yd = absurd (fill-reserve xd.0 yd)
  one_event loses (acts (leave None)) xo xd yo yd = absurd (fill-short xd.0 xd.1 yd)
  one_event loses (acts (leave (Some bytes))) xo xd yo yd = absurd (fill-served bytes xd.0 yd)
  one_event loses (acts wished) xo xd yo yd = absurd (fill-wished xd.0 yd)
  one_event loses closes xo xd yo yd = absurd (fill-closes xd.0 yd)
  one_event loses loses xo xd yo yd = refl
  one_event (acts reserve) (acts open_fill) xo xd yo yd = absurd (fill-reserve yd.0 xd)
  one_event (acts reserve) (acts reserve) xo xd yo yd = refl
  one_event (acts reserve) (acts (leave None)) xo xd yo yd = absurd (reserve-short xd yd)
  one_event (acts reserve) (acts (leave (Some bytes))) xo xd yo yd = absurd (reserve-served bytes xd yd)
  one_event (acts reserve) (acts wished) xo xd yo yd = absurd (xo yo.0)
  one_event (acts reserve) closes xo xd yo yd = absurd (xo yo.0)
  one_event (acts reserve) loses xo xd yo yd = absurd (fill-reserve yd.0 xd)
  one_event (acts (leave None)) (acts open_fill) xo xd yo yd = absurd (fill-short yd.0 yd.1 xd)
  one_event (acts (leave None)) (acts reserve) xo xd yo yd = absurd (reserve-short yd xd)
  one_event (acts (leave None)) (acts (leave None)) xo xd yo yd = refl
  one_event (acts (leave None)) (acts (leave (Some bytes))) xo xd yo yd = absurd (short-served bytes xd yd)
  one_event (acts (leave None)) (acts wished) xo xd yo yd = absurd (xo yo.0)
  one_event (acts (leave None)) closes xo xd yo yd = absurd (xo yo.0)
  one_event (acts (leave None)) loses xo xd yo yd = absurd (fill-short yd.0 yd.1 xd)
  one_event (acts (leave (Some bytes))) (acts open_fill) xo xd yo yd = absurd (fill-served bytes yd.0 xd)
  one_event (acts (leave (Some bytes))) (acts reserve) xo xd yo yd = absurd (reserve-served bytes yd xd)
  one_event (acts (leave (Some bytes))) (acts (leave None)) xo xd yo yd = absurd (short-served bytes yd xd)
  one_event (acts (leave (Some bytes))) (acts (leave (Some others))) (own, is, filled) xd (same, be, fill) yd =
      let both : Some own ≡ Some same = sym is ∙ be in
      let one : own ≡ same = cc in
      ap (λ (l : List ℕ). acts (leave (Some l))) (filled ∙ ap padded one ∙ sym fill)
  one_event (acts (leave (Some bytes))) (acts wished) xo xd yo yd = absurd (written xo.0 xo.1 yo.0)
  one_event (acts (leave (Some bytes))) closes xo xd yo yd = absurd (written xo.0 xo.1 yo.0)
  one_event (acts (leave (Some bytes))) loses xo xd yo yd = absurd (fill-served bytes yd.0 xd)
  one_event (acts wished) (acts open_fill) xo xd yo yd = absurd (fill-wished yd.0 xd)
  one_event (acts wished) (acts reserve) xo xd yo yd = absurd (yo xo.0)
  one_event (acts wished) (acts (leave None)) xo xd yo yd = absurd (yo xo.0)
  one_event (acts wished) (acts (leave (Some bytes))) xo xd yo yd = absurd (written yo.0 yo.1 xo.0)
  one_event (acts wished) (acts wished) xo xd yo yd = refl
  one_event (acts wished) closes xo xd yo yd = absurd (wished-closes xd yd)
  one_event (acts wished) loses xo xd yo yd = absurd (fill-wished yd.0 xd)
  one_event closes (acts open_fill) xo xd yo yd = absurd (fill-closes yd.0 xd)
  one_event closes (acts reserve) xo xd yo yd = absurd (yo xo.0)
  one_event closes (acts (leave None)) xo xd yo yd = absurd (yo xo.0)
  one_event closes (acts (leave (Some bytes))) xo xd yo yd = absurd (written yo.0 yo.1 xo.0)
  one_event closes (acts wished) xo xd yo yd = absurd (wished-closes yd xd)
  one_event closes closes xo xd yo yd = refl
  one_event closes loses xo xd yo yd = absurd (fill-closes yd.0 xd)

-- ---- what a frame does until it has gone

-- a frame that has gone does nothing more that is due
does_no_more : (script : Script) (asked : ℕ) (events : List RingEvent) (below : List LineFrame) (frame next : LineFrame)
    (event : RingEvent)
    → next ≡ frame
    → HasGone (situation_after script asked (events ++ [])) below next
    → IsOwn below frame event
    → IsDue (situation_after script asked events) event
    → ⊥
does_no_more script asked events below frame next event stands gone owned due =
    gone.1 event (subst (λ (f : LineFrame). IsOwn below f event) (sym stands) owned)
    (subst (λ (l : List RingEvent). IsDue (situation_after script asked l) event) (sym (append-nil events)) due)

-- There is one thing that it does until it has gone.
module _ (script : Script) (asked seen : ℕ) (below : List LineFrame) where
  pub same_own : (events : List RingEvent) (frame : LineFrame) (own other : List RingEvent) (next last : LineFrame)
      → IsKept script.start asked seen events
      → Does below frame own next
      → Does below frame other last
      → DueFrom script asked events own
      → DueFrom script asked events other
      → HasGone (situation_after script asked (events ++ own)) below next
      → HasGone (situation_after script asked (events ++ other)) below last
      → own ≡ other
  same_own events frame [] [] next last kept does did due dues gone went = refl
  same_own events frame [] (y ∷ other) next last kept does did due dues gone went =
      absurd (does_no_more script asked events below frame next y does gone did.0 dues.0)
  same_own events frame (x ∷ own) [] next last kept does did due dues gone went =
      absurd (does_no_more script asked events below frame last x did went does.0 due.0)
  same_own events frame (x ∷ own) (y ∷ other) next last kept does did due dues gone went =
      let same : y ≡ x =
      one_event (situation_after script asked events) seen kept below frame y x did.0 dues.0 does.0 due.0 in
      let rest : own ≡ other = same_own (events ++ x ∷ []) (frame_after frame x) own other next last
      (kept_on script asked seen events x due.0 kept)
      does.1
      (subst (λ (e : RingEvent). Does below (frame_after frame e) other last) same did.1)
      due.1
      (subst (λ (e : RingEvent). DueFrom script asked (events ++ e ∷ []) other) same dues.1)
      (subst (λ (l : List RingEvent). HasGone (situation_after script asked l) below next)
      (sym (append_assoc events (x ∷ []) own)) gone)
      (subst (λ (l : List RingEvent). HasGone (situation_after script asked l) below last)
      (ap (λ (e : RingEvent). events ++ e ∷ other) same ∙ sym (append_assoc events (x ∷ []) other)) went) in
      cc
