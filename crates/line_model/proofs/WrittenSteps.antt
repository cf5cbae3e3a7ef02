-- What a frame does that was pushed at rest, and above which none is pushed.
use Rattle.std.proofs.Common.{◌≡◌, ◌≢◌, ℕ, suc, ◌+◌, ◌≤◌, ◌<◌, ◌⊎◌, true, false, List, [], ◌∷◌, ◌++◌, length, Option}
use Rattle.std.proofs.Common.{Some, None, refl, sym, ap, ◌∙◌, subst, inl, inr, arith, append_assoc}
use Rattle.std.specs.Prelude.{nat_le, if◌then◌else◌}
use Rattle.trace_model.specs.declared.limits.TheConstants.{MIN_PAGES, LINK_FILLS}
use Rattle.trace_model.specs.Words.{padded, encoded_len}
use Rattle.trace_model.specs.History.{HistoryEvent, push, push_close, open_fill, reserve, leave, wished, Reservation}
use Rattle.trace_model.specs.History.{PushedFrame, record_frame, close_frame, WriterState, reservation_for}
use Rattle.trace_model.specs.History.{records_with_payload, after_event, writer_after, reserved_records, MayAct}
use Rattle.trace_model.specs.History.{IsHistory}
use Rattle.trace_model.specs.Packing.{tail_of, FitsBehind, next_reservation, IsPacked}
use Rattle.trace_model.specs.Window.{Window, RingEvent, acts, closes, takes, loses, history_events_of, MayMove}
use Rattle.trace_model.specs.Window.{window_after}
use Rattle.trace_model.specs.Steps.{IsTooLong}
use Rattle.trace_model.proofs.histories.NextEvent.{writer_snoc}
use Rattle.trace_model.proofs.histories.HistoryPrefixes.{none_stands}
use Rattle.trace_model.proofs.packing.PackedHistories.{wanted_record}
use Rattle.trace_model.proofs.words.Lengths.{slot_len-slot_len}
use Rattle.ring_model.proofs.seats.FrameEnds.{opened_tail}
use Rattle.line_model.specs.Lines.{LineState, OpenFrame, frame_count, IsOfTop, MayLeaveTop, open_after, finishing_after}
use Rattle.line_model.specs.Lines.{state_after, state_moved, TopRun}
use Rattle.line_model.proofs.FewFills.{IsFew, few_act}

-- the history goes on with this rest, keeps the discipline of the stack, and is packed
pub record IsAllowed (size : ℕ) (h rest : List HistoryEvent) : Type 0 where
  pub history : IsHistory (h ++ rest)
  pub packed : IsPacked (h ++ rest) size

allowed_next : (size : ℕ) (h rest : List HistoryEvent) (a : HistoryEvent)
    → IsAllowed size h (a ∷ rest)
    → IsAllowed size (h ++ a ∷ []) rest
allowed_next size h rest a allowed = record {
  history = subst IsHistory (sym (append_assoc h (a ∷ []) rest)) allowed.history;
  packed = subst (λ (l : List HistoryEvent). IsPacked l size) (sym (append_assoc h (a ∷ []) rest)) allowed.packed;
}

-- no frame is open, and these records are reserved
abbrev pub rest_with : List Reservation → WriterState
rest_with records = record { stack = []; records = records }

-- what is known of a history event of the top frame
record Facts (n size start depth : ℕ) (p : LineState) (a : HistoryEvent) : Type 0 where
  counted : frame_count p ≡ suc depth
  of_top : IsOfTop n size p a
  may : MayAct (writer_after p.history).stack a
  begins : a ≡ open_fill → tail_of p.history ≢ []
  needed : a ≡ open_fill
      → (r : Reservation)
      → next_reservation p.history ≡ Some r
      → FitsBehind size (tail_of p.history) r
      → ⊥
  few : IsFew start p.history p.window.opened

facts : (n size start depth : ℕ) (p : LineState) (a : HistoryEvent) (rest : List HistoryEvent)
    → frame_count p ≡ suc depth
    → IsOfTop n size p a
    → IsAllowed size p.history (a ∷ rest)
    → IsFew start p.history p.window.opened
    → Facts n size start depth p a
facts n size start depth p a rest counted of_top allowed few = record {
  counted = counted;
  of_top = of_top;
  may = allowed.history p.history rest a refl;
  begins = λ opens. allowed.packed.begins p.history rest (ap (λ (b : HistoryEvent). p.history ++ b ∷ rest) opens);
  needed = λ opens r. allowed.packed.needed p.history rest r (ap (λ (b : HistoryEvent). p.history ++ b ∷ rest) opens);
  few = few;
}

-- ---- events of the top frame keep what each of them keeps

pub record Reached (n size start : ℕ) (P : LineState → Type 0) (more : List HistoryEvent) (q : LineState) : Type 0 where
  pub keeps : P q
  pub few : IsFew start q.history q.window.opened
  pub allowed : IsAllowed size q.history more

-- it holds as far as the events of a frame lead
abbrev pub Runs : (n size start depth : ℕ) → (LineState → Type 0) → Type 0
Runs n size start depth P = (p q : LineState) (events : List RingEvent) (more : List HistoryEvent)
    → TopRun n size depth p events q
    → IsAllowed size p.history (history_events_of events ++ more)
    → IsFew start p.history p.window.opened
    → P p
    → Reached n size start P more q

module _ (n size start depth : ℕ) (P : LineState → Type 0)
    (act : (p : LineState) (a : HistoryEvent) → Facts n size start depth p a → P p → P (state_after p a))
    (closed : (p : LineState) → MayMove n p.history p.window closes → P p
    → P (state_moved p (window_after p.window closes)))
    (took : (p : LineState) → P p → P (state_moved p (window_after p.window takes)))
    (lost : (p : LineState) → P p → P (state_moved p (window_after p.window loses))) where
  run_keeps : Runs n size start depth P
  run_keeps p q [] more run allowed few keeps =
      subst (Reached n size start P more) run record { keeps = keeps; few = few; allowed = allowed }
  run_keeps p q (acts a ∷ events) more (counted, of_top, may, run) allowed few keeps =
      let here = facts n size start depth p a (history_events_of events ++ more) counted of_top allowed few in
      run_keeps (state_after p a) q events more run
      (allowed_next size p.history (history_events_of events ++ more) a allowed)
      (few_act start p.history p.window a here.begins few)
      (act p a here keeps)
  run_keeps p q (closes ∷ events) more (may, run) allowed few keeps =
      run_keeps (state_moved p (window_after p.window closes)) q events more run allowed
      record { all = few.all; held = few.held } (closed p may keeps)
  run_keeps p q (takes ∷ events) more (may, run) allowed few keeps =
      run_keeps (state_moved p (window_after p.window takes)) q events more run allowed
      record { all = few.all; held = few.held } (took p keeps)
  run_keeps p q (loses ∷ events) more (may, run) allowed few keeps =
      run_keeps (state_moved p (window_after p.window loses)) q events more run allowed
      record { all = few.all; held = few.held } (lost p keeps)

-- ---- a frame that is finishing

pub record IsLeft (records : List Reservation) (p : LineState) : Type 0 where
  pub frames : p.frames ≡ []
  pub finishing : p.finishing ≡ true
  pub writer : writer_after p.history ≡ rest_with records

-- what a history event makes of the writer
acts_to : (h : List HistoryEvent) (a : HistoryEvent) (w : WriterState)
    → writer_after h ≡ w
    → writer_after (h ++ a ∷ []) ≡ after_event w.stack w.records a
acts_to h a w e = writer_snoc h a ∙ ap (λ (v : WriterState). after_event v.stack v.records a) e

module _ (n size start depth : ℕ) (records : List Reservation) (p : LineState) where
  left_on : (a : HistoryEvent)
      → IsLeft records p
      → open_after [] a ≡ []
      → after_event [] records a ≡ rest_with records
      → IsLeft records (state_after p a)
  left_on a left same writer = record {
    frames = ap (λ (xs : List OpenFrame). open_after xs a) left.frames ∙ same;
    finishing = ap (λ (xs : List OpenFrame). finishing_after xs p.finishing a) left.frames ∙ left.finishing;
    writer = acts_to p.history a (rest_with records) left.writer ∙ writer;
  }

  left_acts : (a : HistoryEvent) → Facts n size start depth p a → IsLeft records p → IsLeft records (state_after p a)
  left_acts (push moment len) f left = absurd f.of_top
  left_acts push_close f left = absurd f.of_top
  left_acts open_fill f left = left_on open_fill left refl refl
  left_acts reserve f left = absurd (f.of_top left.frames)
  left_acts (leave payload) f left = absurd (subst (MayLeaveTop n size p payload) left.frames f.of_top)
  left_acts wished f left = left_on wished left refl refl

left_moved : (records : List Reservation) (p : LineState) (w : Window)
    → IsLeft records p
    → IsLeft records (state_moved p w)
left_moved records p w left = record { frames = left.frames; finishing = left.finishing; writer = left.writer }

-- ---- a frame that is open

pub record IsOpen (payload : List ℕ) (frame : PushedFrame) (records : List Reservation) (p : LineState) : Type 0 where
  pub frames : p.frames ≡ record { payload = payload; stepped = true } ∷ []
  pub not_finishing : p.finishing ≡ false
  pub writer : writer_after p.history ≡ record { stack = frame ∷ []; records = records }

pub open_moved : (payload : List ℕ) (frame : PushedFrame) (records : List Reservation) (p : LineState) (w : Window)
    → IsOpen payload frame records p
    → IsOpen payload frame records (state_moved p w)
open_moved payload frame records p w o =
    record { frames = o.frames; not_finishing = o.not_finishing; writer = o.writer }

module _ (n size start depth : ℕ) (payload : List ℕ) (frame : PushedFrame) (records : List Reservation) (p : LineState)
    (o : IsOpen payload frame records p) where
  open_stack : (writer_after p.history).stack ≡ frame ∷ []
  open_stack = ap (λ (w : WriterState). w.stack) o.writer

  -- no fill is closed while it is open
  none_closed : MayMove n p.history p.window closes → ⊥
  none_closed may = let z = ap (λ (l : List PushedFrame). length l) (sym open_stack ∙ none_stands p.history may.1) in
      omega arith

  -- after this history event it is still open
  open_on : (a : HistoryEvent) (next : PushedFrame) (more : List Reservation)
      → open_after
      (record { payload = payload; stepped = true } ∷ []) a ≡ record { payload = payload; stepped = true } ∷ []
      → finishing_after (record { payload = payload; stepped = true } ∷ []) p.finishing a ≡ p.finishing
      → after_event (frame ∷ []) records a ≡ record { stack = next ∷ []; records = more }
      → IsOpen payload next more (state_after p a)
  open_on a next more same kept writer = record {
    frames = ap (λ (xs : List OpenFrame). open_after xs a) o.frames ∙ same;
    not_finishing = ap (λ (xs : List OpenFrame). finishing_after xs p.finishing a) o.frames ∙ kept ∙ o.not_finishing;
    writer = acts_to p.history a (record { stack = frame ∷ []; records = records }) o.writer ∙ writer;
  }

  -- it leaves
  open_leaves : (paid : Option (List ℕ)) (more : List Reservation)
      → after_event (frame ∷ []) records (leave paid) ≡ rest_with more
      → IsLeft more (state_after p (leave paid))
  open_leaves paid more writer = record {
    frames = ap (λ (xs : List OpenFrame). open_after xs (leave paid)) o.frames;
    finishing = ap (λ (xs : List OpenFrame). finishing_after xs p.finishing (leave paid)) o.frames;
    writer = acts_to p.history (leave paid) (record { stack = frame ∷ []; records = records }) o.writer ∙ writer;
  }

  may_act : (a : HistoryEvent) → Facts n size start depth p a → MayAct (frame ∷ []) a
  may_act a f = subst (λ (l : List PushedFrame). MayAct l a) open_stack f.may

  no_wish : Facts n size start depth p wished → ⊥
  no_wish f = let z = ap (λ (l : List OpenFrame). length l) (sym o.frames ∙ f.of_top) in omega arith

  -- what its leave needs
  pays : (paid : Option (List ℕ))
      → Facts n size start depth p (leave paid)
      → MayLeaveTop n size p paid (record { payload = payload; stepped = true } ∷ [])
  pays paid f = subst (MayLeaveTop n size p paid) o.frames f.of_top

-- ---- a record frame

-- the record of a frame of this moment and payload, after these
abbrev pub written : ℕ → List ℕ → List Reservation → Reservation
written moment payload rs =
    record (reservation_for moment (length payload) rs) { bytes = Some (padded (padded payload)) }

-- the last record gets its bytes
last_written : (rs : List Reservation) (r : Reservation) (payload : List ℕ)
    → records_with_payload (Some (length rs)) (Some payload)
    (rs ++ r ∷ []) ≡ rs ++ record r { bytes = Some (padded payload) } ∷ []
last_written [] r payload = refl
last_written (s ∷ rs) r payload = ap (λ (l : List Reservation). s ∷ l) (last_written rs r payload)

-- a record that isn't too long fits in an empty page
fits_empty : (size moment len : ℕ) (rs : List Reservation)
    → (IsTooLong size len → ⊥)
    → FitsBehind size [] (reservation_for moment len rs)
fits_empty size moment len rs short =
    subst (λ (k : ℕ). k ≤ size) (ap (λ (k : ℕ). encoded k + 0) (sym (slot_len-slot_len len))) low
  where
    encoded : ℕ → ℕ
    encoded k = (0 + (if nat_le k 112 then 4 else 8)) + k

    low : encoded_len len 0 true + 0 ≤ size
    low = by_size (encoded_len len 0 true) (λ long. short (inr long))
      where
        by_size : (k : ℕ) → (size < k → ⊥) → k + 0 ≤ size
        by_size k small = omega arith

module _ (n size start depth moment : ℕ) (payload : List ℕ) (rs : List Reservation) (two : MIN_PAGES ≤ n)
    (short : IsTooLong size (length payload) → ⊥) where
  abbrev waiting_frame : PushedFrame
  waiting_frame = record_frame moment (length payload) None

  abbrev reserved_frame : PushedFrame
  reserved_frame = record_frame moment (length payload) (Some (length rs))

  -- Its record frame waits, and all fills but the tail are closed; or it has begun a fill, which is empty; or it has
  -- reserved; or it has left, with its record, or without one, since no number is left.
  pub data IsWriting (p : LineState) : Type 0 where
    waits : IsOpen payload waiting_frame rs p → p.window.opened ≡ p.window.done + 1 → IsWriting p
    waits_empty : IsOpen payload waiting_frame rs p → tail_of p.history ≡ [] → IsWriting p
    has_reserved : IsOpen payload reserved_frame (rs ++ reservation_for moment (length payload) rs ∷ []) p → IsWriting p
    has_left : IsLeft (rs ++ written moment payload rs ∷ []) p → IsWriting p
    was_refused : IsLeft rs p → LINK_FILLS ≤ start + length rs + n → IsWriting p

  module _ (p : LineState) where
    wants : IsOpen payload waiting_frame rs p
        → next_reservation p.history ≡ Some (reservation_for moment (length payload) rs)
    wants o =
        wanted_record p.history moment (length payload) [] (open_stack n size start depth payload waiting_frame rs p o)
        ∙ ap (λ (w : WriterState). Some (reservation_for moment (length payload) w.records)) o.writer

    empty_fits : tail_of p.history ≡ []
        → FitsBehind size (tail_of p.history) (reservation_for moment (length payload) rs)
    empty_fits bare =
        subst (λ (l : List Reservation). FitsBehind size l (reservation_for moment (length payload) rs)) (sym bare)
        (fits_empty size moment (length payload) rs short)

    count_records : IsOpen payload waiting_frame rs p → length (reserved_records p.history) ≡ length rs
    count_records o = ap (λ (w : WriterState). length w.records) o.writer

    reserve_now : IsOpen payload waiting_frame rs p → IsWriting (state_after p reserve)
    reserve_now o =
        has_reserved
        (open_on n size start depth payload waiting_frame rs p o reserve reserved_frame
        (rs ++ reservation_for moment (length payload) rs ∷ []) refl refl refl)

    no_payload : (bytes : List ℕ)
        → IsOpen payload waiting_frame rs p
        → Facts n size start depth p (leave (Some bytes))
        → ⊥
    no_payload bytes o f = let e = may_act n size start depth payload waiting_frame rs p o (leave (Some bytes)) f in
        absurd (let both : Some bytes ≡ None = e in cc)

    writing_acts : (a : HistoryEvent) → Facts n size start depth p a → IsWriting p → IsWriting (state_after p a)
    writing_acts (push m len) f w = absurd f.of_top
    writing_acts push_close f w = absurd f.of_top
    writing_acts open_fill f (waits o tall) =
        waits_empty (open_on n size start depth payload waiting_frame rs p o open_fill waiting_frame rs refl refl refl)
        (opened_tail p.history)
    writing_acts open_fill f (waits_empty o bare) = absurd (f.begins refl bare)
    writing_acts open_fill f (has_reserved o) =
        absurd (let e : Some (length rs) ≡ None = may_act n size start depth payload reserved_frame _ p o open_fill f in
        cc)
    writing_acts open_fill f (has_left l) = has_left (left_acts n size start depth _ p open_fill f l)
    writing_acts open_fill f (was_refused l worn) = was_refused (left_acts n size start depth _ p open_fill f l) worn
    writing_acts reserve f (waits o tall) = reserve_now o
    writing_acts reserve f (waits_empty o bare) = reserve_now o
    writing_acts reserve f (has_reserved o) =
        absurd (let e : Some (length rs) ≡ None = may_act n size start depth payload reserved_frame _ p o reserve f in
        cc)
    writing_acts reserve f (has_left l) = has_left (left_acts n size start depth _ p reserve f l)
    writing_acts reserve f (was_refused l worn) = was_refused (left_acts n size start depth _ p reserve f l) worn
    writing_acts (leave None) f (waits o tall) =
        refuse (pays n size start depth payload waiting_frame rs p o None f (reservation_for moment (length payload) rs)
        (wants o))
      where
        refuse : (FitsBehind size (tail_of p.history) (reservation_for moment (length payload) rs) → ⊥)
            × ((p.window.opened ≡ p.window.done + n) ⊎ (LINK_FILLS ≤ p.window.opened + n))
            → IsWriting (state_after p (leave None))
        refuse (unfit, inl crowded) = absurd (omega arith)
        refuse (unfit, inr worn) =
            was_refused (open_leaves n size start depth payload waiting_frame rs p o None rs refl)
            (let low = f.few.held (λ bare. unfit (empty_fits bare)) in let count = count_records o in omega arith)
    writing_acts (leave None) f (waits_empty o bare) =
        absurd ((pays n size start depth payload waiting_frame rs p o None f
        (reservation_for moment (length payload) rs) (wants o)).0 (empty_fits bare))
    writing_acts (leave None) f (has_reserved o) =
        absurd (may_act n size start depth payload reserved_frame _ p o (leave None) f)
    writing_acts (leave None) f (has_left l) = has_left (left_acts n size start depth _ p (leave None) f l)
    writing_acts (leave None) f (was_refused l worn) =
        was_refused (left_acts n size start depth _ p (leave None) f l) worn
    writing_acts (leave (Some bytes)) f (waits o tall) = absurd (no_payload bytes o f)
    writing_acts (leave (Some bytes)) f (waits_empty o bare) = absurd (no_payload bytes o f)
    writing_acts (leave (Some bytes)) f (has_reserved o) =
        has_left (open_leaves n size start depth payload reserved_frame _ p o (Some bytes)
        (rs ++ written moment payload rs ∷ [])
        (ap rest_with (last_written rs (reservation_for moment (length payload) rs) bytes
        ∙ ap (λ (b : List ℕ).
        rs ++ record (reservation_for moment (length payload) rs) { bytes = Some (padded b) } ∷ [])
        (pays n size start depth payload reserved_frame _ p o (Some bytes) f))))
    writing_acts (leave (Some bytes)) f (has_left l) =
        has_left (left_acts n size start depth _ p (leave (Some bytes)) f l)
    writing_acts (leave (Some bytes)) f (was_refused l worn) =
        was_refused (left_acts n size start depth _ p (leave (Some bytes)) f l) worn
    writing_acts wished f (waits o tall) = absurd (no_wish n size start depth payload waiting_frame rs p o f)
    writing_acts wished f (waits_empty o bare) = absurd (no_wish n size start depth payload waiting_frame rs p o f)
    writing_acts wished f (has_reserved o) = absurd (no_wish n size start depth payload reserved_frame _ p o f)
    writing_acts wished f (has_left l) = has_left (left_acts n size start depth _ p wished f l)
    writing_acts wished f (was_refused l worn) = was_refused (left_acts n size start depth _ p wished f l) worn

    writing_closed : MayMove n p.history p.window closes
        → IsWriting p
        → IsWriting (state_moved p (window_after p.window closes))
    writing_closed may (waits o tall) = absurd (none_closed n size start depth payload waiting_frame rs p o may)
    writing_closed may (waits_empty o bare) = absurd (none_closed n size start depth payload waiting_frame rs p o may)
    writing_closed may (has_reserved o) = absurd (none_closed n size start depth payload reserved_frame _ p o may)
    writing_closed may (has_left l) = has_left (left_moved _ p (window_after p.window closes) l)
    writing_closed may (was_refused l worn) = was_refused (left_moved _ p (window_after p.window closes) l) worn

    -- the head alone moves
    writing_moved : (head : ℕ)
        → IsWriting p
        → IsWriting (state_moved p record { head = head; done = p.window.done; opened = p.window.opened })
    writing_moved head (waits o tall) = waits (open_moved payload waiting_frame rs p _ o) tall
    writing_moved head (waits_empty o bare) = waits_empty (open_moved payload waiting_frame rs p _ o) bare
    writing_moved head (has_reserved o) = has_reserved (open_moved payload reserved_frame _ p _ o)
    writing_moved head (has_left l) = has_left (left_moved _ p _ l)
    writing_moved head (was_refused l worn) = was_refused (left_moved _ p _ l) worn

  pub writing_run : Runs n size start depth IsWriting
  writing_run = run_keeps n size start depth IsWriting writing_acts writing_closed
      (λ p w. writing_moved p (p.window.head + 1) w) (λ p w. writing_moved p (p.window.head + 1) w)

-- ---- a close frame

module _ (n size start depth : ℕ) (rs : List Reservation) where
  pub data IsClosing (p : LineState) : Type 0 where
    closing_open : IsOpen [] close_frame rs p → IsClosing p
    closing_left : IsLeft rs p → IsClosing p

  module _ (p : LineState) where
    closing_acts : (a : HistoryEvent) → Facts n size start depth p a → IsClosing p → IsClosing (state_after p a)
    closing_acts (push m len) f c = absurd f.of_top
    closing_acts push_close f c = absurd f.of_top
    closing_acts open_fill f (closing_open o) =
        closing_open (open_on n size start depth [] close_frame rs p o open_fill close_frame rs refl refl refl)
    closing_acts reserve f (closing_open o) = absurd (may_act n size start depth [] close_frame rs p o reserve f)
    closing_acts (leave paid) f (closing_open o) =
        closing_left (open_leaves n size start depth [] close_frame rs p o paid rs refl)
    closing_acts wished f (closing_open o) = absurd (no_wish n size start depth [] close_frame rs p o f)
    closing_acts open_fill f (closing_left l) = closing_left (left_acts n size start depth rs p open_fill f l)
    closing_acts reserve f (closing_left l) = closing_left (left_acts n size start depth rs p reserve f l)
    closing_acts (leave paid) f (closing_left l) = closing_left (left_acts n size start depth rs p (leave paid) f l)
    closing_acts wished f (closing_left l) = closing_left (left_acts n size start depth rs p wished f l)

    closing_closed : MayMove n p.history p.window closes
        → IsClosing p
        → IsClosing (state_moved p (window_after p.window closes))
    closing_closed may (closing_open o) = absurd (none_closed n size start depth [] close_frame rs p o may)
    closing_closed may (closing_left l) = closing_left (left_moved rs p (window_after p.window closes) l)

    closing_moved : (w : Window) → IsClosing p → IsClosing (state_moved p w)
    closing_moved w (closing_open o) = closing_open (open_moved [] close_frame rs p w o)
    closing_moved w (closing_left l) = closing_left (left_moved rs p w l)

  pub closing_run : Runs n size start depth IsClosing
  closing_run = run_keeps n size start depth IsClosing closing_acts closing_closed
      (λ p c. closing_moved p (window_after p.window takes) c)
      (λ p c. closing_moved p (window_after p.window loses) c)

-- ---- no frame

pub record IsResting (rs : List Reservation) (p : LineState) : Type 0 where
  pub frames : p.frames ≡ []
  pub not_finishing : p.finishing ≡ false
  pub closed : p.window.done + 1 ≡ p.window.opened
  pub writer : writer_after p.history ≡ rest_with rs

pub resting_counts : (rs : List Reservation) (p : LineState) → IsResting rs p → frame_count p ≡ 0
resting_counts rs p r = λ i. length (r.frames i) + (if r.not_finishing i then 1 else 0)

module _ (n size start depth : ℕ) (rs : List Reservation) where
  pub resting_run : Runs n size start depth (IsResting rs)
  resting_run = run_keeps n size start depth (IsResting rs)
      (λ p a f r. absurd (let none = resting_counts rs p r in let some = f.counted in omega arith))
      (λ p may r. absurd (let e = r.closed in let low = may.0 in omega arith))
      (λ p r. record { frames = r.frames; not_finishing = r.not_finishing; closed = r.closed; writer = r.writer })
      (λ p r. record { frames = r.frames; not_finishing = r.not_finishing; closed = r.closed; writer = r.writer })
