-- What `w` and `c` lines commit, from rest to rest.
use Rattle.std.proofs.Common.{◌≡◌, ◌≢◌, ℕ, zero, suc, max, ◌+◌, ◌-◌, ◌≤◌, ◌<◌, ◌⊎◌, Bool, true, false, List, [], ◌∷◌}
use Rattle.std.proofs.Common.{◌++◌, length, map, None, refl, sym, ap, ◌∙◌, subst, inl, inr, arith, append_assoc}
use Rattle.std.proofs.Common.{append-nil, length-append}
use Rattle.std.specs.Prelude.{if◌then◌else◌, nat_le}
use Rattle.std.proofs.lemmas.Bool.{le-leb, lt-leb, lt-ltb, le-ltb, and_from, and_left, and_right}
use Rattle.std.proofs.lemmas.List.{map-append}
use Rattle.trace_model.specs.declared.limits.TheConstants.{MIN_PAGES, MOMENT_LIMIT, LINK_FILLS}
use Rattle.trace_model.specs.Record.{Record}
use Rattle.trace_model.specs.Words.{padded, slot_len, encoded_len}
use Rattle.trace_model.specs.History.{HistoryEvent, push, push_close, open_fill, Reservation, record_frame, close_frame}
use Rattle.trace_model.specs.History.{WriterState, after_event, writer_after, reserved_records, last_moment, as_record}
use Rattle.trace_model.specs.History.{committed_records, IsHistory}
use Rattle.trace_model.specs.Packing.{tail_of, IsPacked}
use Rattle.trace_model.specs.Window.{Window, RingEvent, acts, closes, takes, loses, history_events_of, window_after}
use Rattle.trace_model.specs.Window.{WindowRunFrom}
use Rattle.trace_model.specs.Steps.{IsTooLong}
use Rattle.text_model.specs.Script.{Command, begin_frame, step_frame, finish_frame, write, close, step_reader}
use Rattle.text_model.specs.Script.{take_page, wish, deliver}
use Rattle.trace_model.proofs.histories.NextEvent.{writer_snoc, settled_at_rest}
use Rattle.trace_model.proofs.histories.HistoryPrefixes.{none_stands}
use Rattle.trace_model.proofs.histories.Committed.{whole_front}
use Rattle.trace_model.proofs.words.Lengths.{length-padded, padded_whole, slot_len-slot_len}
use Rattle.ring_model.proofs.histories.WindowRuns.{history_events-append}
use Rattle.line_model.specs.Lines.{LineState, OpenFrame, first_state, frame_count, with_top_stepped, IsQuiet, MayGo}
use Rattle.line_model.specs.Lines.{stays_on, goes, TopRun, FinishPart, writes, writes_none, LinePart, LineParts}
use Rattle.line_model.specs.Lines.{FinishParts}
use Rattle.line_model.specs.WrittenRecords.{is_recorded, record_of, records_of_line, records_of_lines, WritesOrCloses}
use Rattle.line_model.specs.WrittenRecords.{AllWriteOrClose, IsAtRest, LinesFromRestCommit, WholeLinesCommit}
use Rattle.line_model.specs.WrittenRecords.{WholeLinesHaveCommitted}
use Rattle.line_model.proofs.LineWindows.{Leads, leads_line, leads_lines, leads_rest}
use Rattle.line_model.proofs.FewFills.{IsFew, few_act, few_run, few_start}
use Rattle.line_model.proofs.WrittenSteps.{IsAllowed, rest_with, Reached, IsLeft, IsOpen, written, IsWriting, waits}
use Rattle.line_model.proofs.WrittenSteps.{waits_empty, has_reserved, has_left, was_refused, writing_run, IsClosing}
use Rattle.line_model.proofs.WrittenSteps.{closing_open, closing_left, closing_run, IsResting, resting_counts}
use Rattle.line_model.proofs.WrittenSteps.{resting_run}

-- ---- is it recorded

recorded : (size moment len : ℕ) → (IsTooLong size len → ⊥) → moment < MOMENT_LIMIT → is_recorded size moment len ≡ true
recorded size moment len short early =
    and_from (nat_le len size) _ (le-leb len size (few len (λ long. short (inl long))))
    (and_from (nat_le (encoded_len len 0 true) size) _
    (le-leb (encoded_len len 0 true) size (few (encoded_len len 0 true) (λ long. short (inr long))))
    (lt-ltb moment MOMENT_LIMIT early))
  where
    few : (k : ℕ) → (size < k → ⊥) → k ≤ size
    few k small = omega arith

unrecorded : (size moment len : ℕ) → IsTooLong size len ⊎ (MOMENT_LIMIT ≤ moment) → is_recorded size moment len ≡ false
unrecorded size moment len (inl (inl long)) = and_left (nat_le len size) _ (lt-leb len size long)
unrecorded size moment len (inl (inr long)) =
    and_right (nat_le len size) _
    (and_left (nat_le (encoded_len len 0 true) size) _ (lt-leb (encoded_len len 0 true) size long))
unrecorded size moment len (inr late) =
    and_right (nat_le len size) _ (and_right (nat_le (encoded_len len 0 true) size) _ (le-ltb moment MOMENT_LIMIT late))

-- ---- the window at rest

-- no fill is closed until one more is begun
quiet_window : (n : ℕ) (h : List HistoryEvent) (w after : Window) (events : List RingEvent)
    → WindowRunFrom n h w events after
    → history_events_of events ≡ []
    → w.done + 1 ≡ w.opened
    → (after.done ≡ w.done) × (after.opened ≡ w.opened)
quiet_window n h w after [] run none rest =
    (ap (λ (v : Window). v.done) (sym run), ap (λ (v : Window). v.opened) (sym run))
quiet_window n h w after (acts a ∷ events) run none rest =
    absurd (let z = ap (λ (l : List HistoryEvent). length l) none in omega arith)
quiet_window n h w after (closes ∷ events) run none rest = absurd (let low = run.0.0 in omega arith)
quiet_window n h w after (takes ∷ events) run none rest =
    quiet_window n h (window_after w takes) after events run.1 none rest
quiet_window n h w after (loses ∷ events) run none rest =
    quiet_window n h (window_after w loses) after events run.1 none rest

abbrev first_of : HistoryEvent → List HistoryEvent → HistoryEvent
first_of other [] = other
first_of other (a ∷ history_events) = a

abbrev others_of : List HistoryEvent → List HistoryEvent
others_of [] = []
others_of (a ∷ history_events) = history_events

push_window : (n : ℕ) (h : List HistoryEvent) (w after : Window) (events : List RingEvent) (a : HistoryEvent)
    → WindowRunFrom n h w events after
    → history_events_of events ≡ a ∷ []
    → ((v : Window) → window_after v (acts a) ≡ v)
    → w.done + 1 ≡ w.opened
    → (after.done ≡ w.done) × (after.opened ≡ w.opened)
push_window n h w after [] a run one none rest =
    absurd (let z = ap (λ (l : List HistoryEvent). length l) one in omega arith)
push_window n h w after (acts b ∷ events) a run one none rest =
    let same : window_after w (acts b) ≡ w =
    ap (λ (c : HistoryEvent). window_after w (acts c)) (ap (first_of a) one) ∙ none w in
    let (done, opened) =
    quiet_window n (h ++ b ∷ []) (window_after w (acts b)) after events run.1 (ap others_of one)
    (subst (λ (v : Window). v.done + 1 ≡ v.opened) (sym same) rest) in
    (done ∙ ap (λ (v : Window). v.done) same, opened ∙ ap (λ (v : Window). v.opened) same)
push_window n h w after (closes ∷ events) a run one none rest = absurd (let low = run.0.0 in omega arith)
push_window n h w after (takes ∷ events) a run one none rest =
    push_window n h (window_after w takes) after events a run.1 one none rest
push_window n h w after (loses ∷ events) a run one none rest =
    push_window n h (window_after w loses) after events a run.1 one none rest

-- ---- a line

module _ (n size start : ℕ) (two : MIN_PAGES ≤ n) (rs : List Reservation) (more : List HistoryEvent) where
  abbrev Resting : List Reservation → LineState → Type 0
  Resting records q = Reached n size start (IsResting records) more q

  -- at the end of the part the frame that is finishing is popped
  popped : (records : List Reservation) (reached q : LineState)
      → MayGo reached q
      → frame_count q ≤ 0
      → IsLeft records reached
      → IsFew start reached.history reached.window.opened
      → IsAllowed size reached.history more
      → Resting records q
  popped records reached q (stays_on e) none left few allowed =
      absurd (let count = ap frame_count e in
      let one : frame_count reached ≡ 1 = (λ i. length (left.frames i) + (if left.finishing i then 1 else 0)) in
      omega arith)
  popped records reached q (goes bare finishing last e) none left few allowed =
      subst (Resting records) (sym e) record {
        keeps = record { frames = left.frames; not_finishing = refl; closed = last; writer = left.writer };
        few = few;
        allowed = allowed;
      }

  open_stays : (payload : List ℕ) (reached q : LineState)
      → reached.frames ≡ record { payload = payload; stepped = true } ∷ []
      → MayGo reached q
      → frame_count q ≤ 0
      → ⊥
  open_stays payload reached q top (stays_on e) none =
      let count = ap frame_count e in
      let one = ap (λ (l : List OpenFrame). length l) top in omega arith
  open_stays payload reached q top (goes bare finishing last e) none =
      let one = ap (λ (l : List OpenFrame). length l) (sym bare ∙ top) in omega arith

  -- what a line makes of the records
  abbrev WritesTo : (moment : ℕ) → List ℕ → LineState → Type 0
  WritesTo moment payload q =
      ((is_recorded size moment (length payload) ≡ true) × Resting (rs ++ written moment payload rs ∷ []) q)
      ⊎ (((is_recorded size moment (length payload) ≡ false) ⊎ (LINK_FILLS ≤ start + length rs + n)) × Resting rs q)

  by_writing : (moment : ℕ) (payload : List ℕ) (depth : ℕ) (short : IsTooLong size (length payload) → ⊥)
      (reached q : LineState)
      → is_recorded size moment (length payload) ≡ true
      → MayGo reached q
      → frame_count q ≤ 0
      → Reached n size start (IsWriting n size start depth moment payload rs two short) more reached
      → WritesTo moment payload q
  by_writing moment payload depth short reached q is go none r = by_stage r.keeps
    where
      by_stage : IsWriting n size start depth moment payload rs two short reached → WritesTo moment payload q
      by_stage (waits o tall) = absurd (open_stays payload reached q o.frames go none)
      by_stage (waits_empty o bare) = absurd (open_stays payload reached q o.frames go none)
      by_stage (has_reserved o) = absurd (open_stays payload reached q o.frames go none)
      by_stage (has_left l) = inl (is, popped _ reached q go none l r.few r.allowed)
      by_stage (was_refused l worn) = inr (inr worn, popped rs reached q go none l r.few r.allowed)

  by_closing : (depth : ℕ) (reached q : LineState)
      → MayGo reached q
      → frame_count q ≤ 0
      → Reached n size start (IsClosing n size start depth rs) more reached
      → Resting rs q
  by_closing depth reached q go none r = by_stage r.keeps
    where
      by_stage : IsClosing n size start depth rs reached → Resting rs q
      by_stage (closing_open o) = absurd (open_stays [] reached q o.frames go none)
      by_stage (closing_left l) = popped rs reached q go none l r.few r.allowed

  module _ (p : LineState) (rest : IsResting rs p) (few : IsFew start p.history p.window.opened) where
    -- a line that is refused
    stays_resting : (q : LineState) (events : List RingEvent)
        → IsQuiet n p events q
        → IsAllowed size p.history (history_events_of events ++ more)
        → Resting rs q
    stays_resting q events quiet allowed =
        let (done, opened) =
        quiet_window n p.history p.window q.window events quiet.window quiet.acts_none rest.closed in
        subst (Resting rs) (sym quiet.after_is) record {
          keeps = record {
            frames = rest.frames;
            not_finishing = rest.not_finishing;
            closed = let e = rest.closed in
                omega arith;
            writer = rest.writer;
          };
          few = subst (IsFew start p.history) (sym opened) few;
          allowed = subst (λ (l : List HistoryEvent). IsAllowed size p.history (l ++ more)) quiet.acts_none allowed;
        }

    -- the state after a push, whose frame is making its first step
    abbrev begun : HistoryEvent → List ℕ → Window → LineState
    begun a payload w =
        record {
          history = p.history ++ a ∷ [];
          window = w;
          frames = with_top_stepped (record { payload = payload; stepped = false } ∷ p.frames);
          finishing = p.finishing;
        }

    begun_frames : (payload : List ℕ)
        → with_top_stepped
        (record { payload = payload; stepped = false } ∷ p.frames) ≡ record { payload = payload; stepped = true } ∷ []
    begun_frames payload =
        ap (λ (l : List OpenFrame). with_top_stepped (record { payload = payload; stepped = false } ∷ l)) rest.frames

    begun_writer : (a : HistoryEvent) → writer_after (p.history ++ a ∷ []) ≡ after_event [] rs a
    begun_writer a = writer_snoc p.history a ∙ ap (λ (v : WriterState). after_event v.stack v.records a) rest.writer

    begun_few : (a : HistoryEvent)
        → (a ≡ open_fill → ⊥)
        → ((v : Window) → window_after v (acts a) ≡ v)
        → (w : Window)
        → w.opened ≡ p.window.opened
        → IsFew start (p.history ++ a ∷ []) w.opened
    begun_few a other none w same =
        let next = few_act start p.history p.window a (λ opens. absurd (other opens)) few in
        let opened : (window_after p.window (acts a)).opened ≡ w.opened =
        ap (λ (v : Window). v.opened) (none p.window) ∙ sym same in
        subst (IsFew start (p.history ++ a ∷ [])) opened next

    begun_allowed : (a : HistoryEvent) (front behind events : List RingEvent)
        → events ≡ front ++ behind
        → history_events_of front ≡ a ∷ []
        → IsAllowed size p.history (history_events_of events ++ more)
        → IsAllowed size (p.history ++ a ∷ []) (history_events_of behind ++ more)
    begun_allowed a front behind events cut one allowed =
        let same : p.history ++ (history_events_of events ++ more)
        ≡ (p.history ++ a ∷ []) ++ (history_events_of behind ++ more) =
        ap (λ (l : List RingEvent). p.history ++ (history_events_of l ++ more)) cut
        ∙ ap (λ (l : List HistoryEvent). p.history ++ (l ++ more))
        (history_events-append front behind ∙ ap (λ (l : List HistoryEvent). l ++ history_events_of behind) one)
        ∙ sym (append_assoc p.history (a ∷ []) (history_events_of behind ++ more)) in
        record {
          history = subst IsHistory same allowed.history;
          packed = subst (λ (l : List HistoryEvent). IsPacked l size) same allowed.packed;
        }

    -- its frame is popped, so none is left
    none_after : (a : HistoryEvent) (payload : List ℕ) (between q : LineState)
        → between
        ≡ record {
          history = p.history ++ a ∷ [];
          window = between.window;
          frames = record { payload = payload; stepped = false } ∷ p.frames;
          finishing = p.finishing;
        }
        → frame_count q ≤ frame_count between - 1
        → frame_count q ≤ 0
    none_after a payload between q e low =
        let count = ap frame_count e in
        let none = resting_counts rs p rest in
        omega arith

    write_line : (moment : ℕ) (payload : List ℕ) (cpu : ℕ) (q : LineState) (events : List RingEvent)
        → LinePart n size (write cpu moment payload) p events q
        → IsAllowed size p.history (history_events_of events ++ more)
        → WritesTo moment payload q
    write_line moment payload cpu q events (writes_none (inl many) quiet) allowed =
        absurd (let none = resting_counts rs p rest in omega arith)
    write_line moment payload cpu q events (writes_none (inr unfit) quiet) allowed =
        inr (inl (unrecorded size moment (length payload) unfit), stays_resting q events quiet allowed)
    write_line moment payload cpu q events (writes front behind between may cut is_push finish) allowed =
        let a : HistoryEvent = push moment (length payload) in
        let (done, opened) =
        push_window n p.history p.window between.window front a is_push.window is_push.acts_one (λ v. refl)
        rest.closed in
        let short : IsTooLong size (length payload) → ⊥ = (λ long. may (inr (inl long))) in
        let early : moment < MOMENT_LIMIT = in_time (λ late. may (inr (inr late))) in
        let o : IsOpen payload (record_frame moment (length payload) None) rs (begun a payload between.window) =
        record { frames = begun_frames payload; not_finishing = rest.not_finishing; writer = begun_writer a } in
        by_writing moment payload (frame_count between - 1) short finish.top.reached q
        (recorded size moment (length payload) short early) finish.top.goes
        (none_after a payload between q is_push.after_is finish.is_gone)
        (writing_run n size start (frame_count between - 1) moment payload rs two short
        (begun a payload between.window) finish.top.reached behind more
        (subst (λ (l : LineState). TopRun n size (frame_count between - 1) l behind finish.top.reached)
        (ap (λ (l : LineState). let s : LineState = record l { frames = with_top_stepped l.frames } in s)
        is_push.after_is) finish.top.run)
        (begun_allowed a front behind events cut is_push.acts_one allowed)
        (begun_few a (λ e. cc) (λ v. refl) between.window opened)
        (waits o (let e = rest.closed in omega arith)))
      where
        in_time : (MOMENT_LIMIT ≤ moment → ⊥) → moment < MOMENT_LIMIT
        in_time early = omega arith

    close_line : (cpu : ℕ) (q : LineState) (events : List RingEvent)
        → LinePart n size (close cpu) p events q
        → IsAllowed size p.history (history_events_of events ++ more)
        → Resting rs q
    close_line cpu q events (writes_none many quiet) allowed =
        absurd (let none = resting_counts rs p rest in omega arith)
    close_line cpu q events (writes front behind between may cut is_push finish) allowed =
        let (done, opened) =
        push_window n p.history p.window between.window front push_close is_push.window is_push.acts_one (λ v. refl)
        rest.closed in
        let o : IsOpen [] close_frame rs (begun push_close [] between.window) =
        record { frames = begun_frames []; not_finishing = rest.not_finishing; writer = begun_writer push_close } in
        by_closing (frame_count between - 1) finish.top.reached q finish.top.goes
        (none_after push_close [] between q is_push.after_is finish.is_gone)
        (closing_run n size start (frame_count between - 1) rs
        (begun push_close [] between.window) finish.top.reached behind more
        (subst (λ (l : LineState). TopRun n size (frame_count between - 1) l behind finish.top.reached)
        (ap (λ (l : LineState). let s : LineState = record l { frames = with_top_stepped l.frames } in s)
        is_push.after_is) finish.top.run)
        (begun_allowed push_close front behind events cut is_push.acts_one allowed)
        (begun_few push_close (λ e. cc) (λ v. refl) between.window opened)
        (closing_open o))

    -- a part as of `f` does nothing
    finish_rest : (q : LineState) (events : List RingEvent)
        → FinishPart n size p events q
        → IsAllowed size p.history (history_events_of events ++ more)
        → Resting rs q
    finish_rest q events finish allowed =
        let same : record p { frames = with_top_stepped p.frames } ≡ p =
        ap (λ (l : List OpenFrame). let s : LineState = record p { frames = l } in s)
        (ap with_top_stepped rest.frames ∙ sym rest.frames) in
        let r = resting_run n size start (frame_count p - 1) rs p finish.top.reached events more
        (subst (λ (l : LineState). TopRun n size (frame_count p - 1) l events finish.top.reached) same finish.top.run)
        allowed few rest in
        by_go finish.top.reached finish.top.goes r
      where
        by_go : (reached : LineState) → MayGo reached q → Resting rs reached → Resting rs q
        by_go reached (stays_on e) r = subst (Resting rs) (sym e) r
        by_go reached (goes bare finishing last e) r =
            absurd (let both : true ≡ false = sym finishing ∙ r.keeps.not_finishing in cc)

-- ---- records

padded_twice : (payload : List ℕ) → padded (padded payload) ≡ padded payload
padded_twice payload = padded_whole (padded payload)
    (ap slot_len (length-padded payload) ∙ slot_len-slot_len (length payload) ∙ sym (length-padded payload))

last_snoc : (rs : List Reservation) (r : Reservation) → last_moment (rs ++ r ∷ []) ≡ r.moment
last_snoc [] r = refl
last_snoc (s ∷ []) r = refl
last_snoc (s ∷ t ∷ rs) r = last_snoc (t ∷ rs) r

-- one more record
more_written : (moment : ℕ) (payload : List ℕ) (rs : List Reservation)
    → map as_record (rs ++ written moment payload rs ∷ []) ≡ map as_record rs ++ record_of
    (last_moment rs) moment payload ∷ []
more_written moment payload rs = map-append as_record rs (written moment payload rs ∷ [])
    ∙ ap (λ (bytes : List ℕ). map as_record
    rs ++ record (record_of (last_moment rs) moment payload) { bytes = bytes } ∷ []) (padded_twice payload)

rest_commits : (h : List HistoryEvent) (rs : List Reservation)
    → writer_after h ≡ rest_with rs
    → committed_records h ≡ map as_record rs
rest_commits h rs e =
    ap (λ (g : List HistoryEvent). map as_record (reserved_records g))
    (whole_front (length h) h (omega arith) (settled_at_rest h (ap (λ (w : WriterState). w.stack) e)))
    ∙ ap (λ (w : WriterState). map as_record w.records) e

-- ---- lines

record Written (n size start : ℕ) (q : LineState) (more : List HistoryEvent) (records : List Record) : Type 0 where
  reserved : List Reservation
  rests : Reached n size start (IsResting reserved) more q
  records_are : map as_record reserved ≡ records

module _ (n size start : ℕ) (two : MIN_PAGES ≤ n) where
  cut_allowed : (p between : LineState) (front behind events : List RingEvent) (more : List HistoryEvent)
      → events ≡ front ++ behind
      → IsAllowed size p.history (history_events_of events ++ more)
      → IsAllowed size p.history (history_events_of front ++ (history_events_of behind ++ more))
  cut_allowed p between front behind events more cut allowed =
      let same : history_events_of events ++ more ≡ history_events_of front ++ (history_events_of behind ++ more) =
      ap (λ (l : List RingEvent). history_events_of l ++ more) cut
      ∙ ap (λ (l : List HistoryEvent). l ++ more) (history_events-append front behind)
      ∙ append_assoc (history_events_of front) (history_events_of behind) more in
      subst (IsAllowed size p.history) same allowed

  lines_written : (lines : List Command) (p q : LineState) (events : List RingEvent) (rs : List Reservation)
      (more : List HistoryEvent)
      → AllWriteOrClose lines
      → start + length rs + length lines + n ≤ LINK_FILLS
      → IsResting rs p
      → IsFew start p.history p.window.opened
      → IsAllowed size p.history (history_events_of events ++ more)
      → LineParts n size lines p events q
      → Written n size start q more (map as_record rs ++ records_of_lines size (last_moment rs) lines)
  lines_written [] p q events rs more whole room rest few allowed (none, same) =
      subst (λ (v : LineState). Written n size start v more (map as_record rs ++ [])) same record {
        reserved = rs;
        rests = record {
          keeps = rest;
          few = few;
          allowed = subst (λ (l : List RingEvent). IsAllowed size p.history (history_events_of l ++ more)) none allowed;
        };
        records_are = sym (append-nil (map as_record rs));
      }
  lines_written (write cpu moment payload ∷ lines) p q events rs more whole room rest few allowed
      (front, behind, between, cut, part, parts) =
      by_line (λ next low r. lines_written lines between q behind next more whole.1 low r.keeps r.few r.allowed parts)
      (write_line n size start two rs (history_events_of behind ++ more) p rest few moment payload cpu between front
      part
      (cut_allowed p between front behind events more cut allowed))
    where
      by_line : ((next : List Reservation)
          → start + length next + length lines + n ≤ LINK_FILLS
          → Reached n size start (IsResting next) (history_events_of behind ++ more) between
          → Written n size start q more (map as_record next ++ records_of_lines size (last_moment next) lines))
          → WritesTo n size start two rs (history_events_of behind ++ more) moment payload between
          → Written n size start q more
          (map as_record rs ++ records_of_lines size (last_moment rs) (write cpu moment payload ∷ lines))
      by_line on (inl (is, r)) =
          let long = length-append rs (written moment payload rs ∷ []) in
          let w = on (rs ++ written moment payload rs ∷ []) (omega arith) r in
          record {
            reserved = w.reserved;
            rests = w.rests;
            records_are = w.records_are
                ∙ (λ i. more_written moment payload rs i ++ records_of_lines size
                (last_snoc rs (written moment payload rs) i) lines)
                ∙ append_assoc (map as_record rs) (record_of (last_moment rs) moment payload ∷ [])
                (records_of_lines size (max moment (last_moment rs)) lines)
                ∙ ap (λ (b : Bool). map as_record
                rs ++ (if b then record_of (last_moment rs) moment payload ∷ records_of_lines size
                (max moment (last_moment rs)) lines else records_of_lines size (last_moment rs) lines)) (sym is);
          }
      by_line on (inr (inl not, r)) =
          let w = on rs (omega arith) r in
          record {
            reserved = w.reserved;
            rests = w.rests;
            records_are = w.records_are
                ∙ ap (λ (b : Bool). map as_record
                rs ++ (if b then record_of (last_moment rs) moment payload ∷ records_of_lines size
                (max moment (last_moment rs)) lines else records_of_lines size (last_moment rs) lines)) (sym not);
          }
      by_line on (inr (inr worn, r)) = absurd (omega arith)
  lines_written (close cpu ∷ lines) p q events rs more whole room rest few allowed
      (front, behind, between, cut, part, parts) =
      let r = close_line n size start two rs (history_events_of behind ++ more) p rest few cpu between front part
      (cut_allowed p between front behind events more cut allowed) in
      let w = lines_written lines between q behind rs more whole.1 (omega arith) r.keeps r.few r.allowed parts in
      record { reserved = w.reserved; rests = w.rests; records_are = w.records_are }
  lines_written (begin_frame cpu moment payload ∷ lines) p q events rs more whole room rest few allowed parts =
      absurd whole.0
  lines_written (step_frame cpu count ∷ lines) p q events rs more whole room rest few allowed parts = absurd whole.0
  lines_written (finish_frame cpu ∷ lines) p q events rs more whole room rest few allowed parts = absurd whole.0
  lines_written (step_reader cpu count ∷ lines) p q events rs more whole room rest few allowed parts = absurd whole.0
  lines_written (take_page cpu ∷ lines) p q events rs more whole room rest few allowed parts = absurd whole.0
  lines_written (wish cpu ∷ lines) p q events rs more whole room rest few allowed parts = absurd whole.0
  lines_written (deliver collector cpu fill ∷ lines) p q events rs more whole room rest few allowed parts =
      absurd whole.0

  rest_written : (count : ℕ) (p q : LineState) (events : List RingEvent) (rs : List Reservation)
      (more : List HistoryEvent)
      → IsResting rs p
      → IsFew start p.history p.window.opened
      → IsAllowed size p.history (history_events_of events ++ more)
      → FinishParts n size count p events q
      → Reached n size start (IsResting rs) more q
  rest_written zero p q events rs more rest few allowed (none, same) =
      subst (Reached n size start (IsResting rs) more) same record {
        keeps = rest;
        few = few;
        allowed = subst (λ (l : List RingEvent). IsAllowed size p.history (history_events_of l ++ more)) none allowed;
      }
  rest_written (suc count) p q events rs more rest few allowed (front, behind, between, cut, part, parts) =
      let r = finish_rest n size start two rs (history_events_of behind ++ more) p rest few between front part
      (cut_allowed p between front behind events more cut allowed) in
      rest_written count between q behind rs more r.keeps r.few r.allowed parts

pub whole_lines_have_committed : WholeLinesHaveCommitted
whole_lines_have_committed n size start lines h two whole room is_history packed made =
    let leads = leads_lines n size lines (first_state start) made.after made.events made.parts in
    let same : h ≡ history_events_of made.events ++ [] =
    made.history_is ∙ leads.history ∙ sym (append-nil (history_events_of made.events)) in
    let allowed : IsAllowed size [] (history_events_of made.events ++ []) = record {
      history = subst IsHistory same is_history;
      packed = subst (λ (l : List HistoryEvent). IsPacked l size) same packed;
    } in
    let w =
    lines_written n size start two lines (first_state start) made.after made.events [] [] whole (omega arith)
    record { frames = refl; not_finishing = refl; closed = refl; writer = refl }
    (few_start start) allowed made.parts in
    ap committed_records made.history_is
    ∙ rest_commits made.after.history w.reserved w.rests.keeps.writer
    ∙ w.records_are

-- parts as of `f` commit no more
rest_commits_none : (n size start : ℕ) (two : MIN_PAGES ≤ n) (count : ℕ) (p q : LineState) (events : List RingEvent)
    (records : List Record)
    → Written n size start p (history_events_of events ++ []) records
    → FinishParts n size count p events q
    → committed_records q.history ≡ records
rest_commits_none n size start two count p q events records w parts =
    let r =
    rest_written n size start two count p q events w.reserved [] w.rests.keeps w.rests.few w.rests.allowed parts in
    rest_commits q.history w.reserved r.keeps.writer ∙ w.records_are

pub whole_lines_commit : WholeLinesCommit
whole_lines_commit n size start lines h two whole room is_history packed made =
    let by_lines = leads_lines n size lines (first_state start) made.behind made.by_lines made.parts in
    let by_rest = leads_rest n size made.count made.behind made.last made.by_rest made.rest in
    let same : h ≡ history_events_of made.by_lines ++ (history_events_of made.by_rest ++ []) =
    made.history_is ∙ by_rest.history
    ∙ ap (λ (l : List HistoryEvent). l ++ history_events_of made.by_rest) by_lines.history
    ∙ ap (λ (l : List HistoryEvent). history_events_of made.by_lines ++ l)
    (sym (append-nil (history_events_of made.by_rest))) in
    let allowed : IsAllowed size [] (history_events_of made.by_lines ++ (history_events_of made.by_rest ++ [])) =
    record {
      history = subst IsHistory same is_history;
      packed = subst (λ (l : List HistoryEvent). IsPacked l size) same packed;
    } in
    ap committed_records made.history_is
    ∙ rest_commits_none n size start two made.count made.behind made.last made.by_rest (records_of_lines size 0 lines)
    (lines_written n size start two lines (first_state start) made.behind made.by_lines []
    (history_events_of made.by_rest ++ []) whole (omega arith)
    record { frames = refl; not_finishing = refl; closed = refl; writer = refl } (few_start start) allowed made.parts)
    made.rest

-- ---- one line

module _ (n size start : ℕ) (two : MIN_PAGES ≤ n) (p q : LineState) (more : List RingEvent) (rest : IsAtRest p)
    (few : IsFew start p.history p.window.opened)
    (leads : Leads n p more q) (is_history : IsHistory q.history) (packed : IsPacked q.history size) where
  abbrev reserved : List Reservation
  reserved = reserved_records p.history

  resting : IsResting reserved p
  resting = record {
    frames = rest.frames;
    not_finishing = rest.not_finishing;
    closed = rest.closed;
    writer = let none : (writer_after p.history).stack ≡ [] = none_stands p.history rest.settled in
        (λ i. record { stack = none i; records = reserved });
  }

  allowed_here : IsAllowed size p.history (history_events_of more ++ [])
  allowed_here =
      let same : q.history ≡ p.history ++ (history_events_of more ++ []) = leads.history
      ∙ ap (λ (l : List HistoryEvent). p.history ++ l) (sym (append-nil (history_events_of more))) in
      record {
        history = subst IsHistory same is_history;
        packed = subst (λ (l : List HistoryEvent). IsPacked l size) same packed;
      }

  at_rest : (rs : List Reservation) → Reached n size start (IsResting rs) [] q → IsAtRest q
  at_rest rs r = record {
    frames = r.keeps.frames;
    not_finishing = r.keeps.not_finishing;
    settled = settled_at_rest q.history (ap (λ (w : WriterState). w.stack) r.keeps.writer);
    closed = r.keeps.closed;
  }

  before_is : committed_records p.history ≡ map as_record reserved
  before_is = rest_commits p.history reserved resting.writer

  abbrev Commits : Command → Type 0
  Commits line = IsAtRest q
      × ((committed_records q.history ≡ committed_records p.history ++ records_of_line size (last_moment reserved) line)
      ⊎ ((LINK_FILLS ≤ start + length reserved + n) × (committed_records q.history ≡ committed_records p.history)))

  same_commits : (line : Command)
      → Reached n size start (IsResting reserved) [] q
      → records_of_line size (last_moment reserved) line ≡ []
      → Commits line
  same_commits line r none = (
    at_rest reserved r,
    inl (
        rest_commits q.history reserved r.keeps.writer ∙ sym before_is ∙ sym (append-nil (committed_records p.history))
        ∙ ap (λ (l : List Record). committed_records p.history ++ l) (sym none)),
  )

  line_commits : (line : Command) → WritesOrCloses line → LinePart n size line p more q → Commits line
  line_commits (write cpu moment payload) whole part =
      by_line (write_line n size start two reserved [] p resting few moment payload cpu q more part allowed_here)
    where
      by_line : WritesTo n size start two reserved [] moment payload q → Commits (write cpu moment payload)
      by_line (inl (is, r)) = (
        at_rest _ r,
        inl (
            rest_commits q.history _ r.keeps.writer ∙ more_written moment payload reserved
            ∙ ap (λ (l : List Record). l ++ record_of (last_moment reserved) moment payload ∷ []) (sym before_is)
            ∙ ap (λ (b : Bool). committed_records
            p.history ++ (if b then record_of (last_moment reserved) moment payload ∷ [] else [])) (sym is)),
      )
      by_line (inr (inl not, r)) =
          same_commits (write cpu moment payload) r
          (ap (λ (b : Bool). if b then record_of (last_moment reserved) moment payload ∷ [] else []) not)
      by_line (inr (inr worn, r)) =
          (at_rest reserved r, inr (worn, rest_commits q.history reserved r.keeps.writer ∙ sym before_is))
  line_commits (close cpu) whole part =
      same_commits (close cpu) (close_line n size start two reserved [] p resting few cpu q more part allowed_here) refl
  line_commits (begin_frame cpu moment payload) whole part = absurd whole
  line_commits (step_frame cpu count) whole part = absurd whole
  line_commits (finish_frame cpu) whole part = absurd whole
  line_commits (step_reader cpu count) whole part = absurd whole
  line_commits (take_page cpu) whole part = absurd whole
  line_commits (wish cpu) whole part = absurd whole
  line_commits (deliver collector cpu fill) whole part = absurd whole

pub lines_from_rest_commit : LinesFromRestCommit
lines_from_rest_commit n size start lines line p q events more two whole parts rest part is_history packed =
    let before = leads_lines n size lines (first_state start) p events parts in
    let leads = leads_line n size line p q more part in
    let begins : (front behind : List HistoryEvent) → history_events_of events ≡ front ++ open_fill ∷ behind
    → tail_of front ≢ [] =
    (λ front behind e. packed.begins front (behind ++ history_events_of more)
    (leads.history ∙ ap (λ (l : List HistoryEvent). l ++ history_events_of more) (before.history ∙ e)
    ∙ append_assoc front (open_fill ∷ behind) (history_events_of more))) in
    let few = few_run n start [] (first_state start).window p.window events before.window begins (few_start start) in
    line_commits n size start two p q more rest
    (subst (λ (l : List HistoryEvent). IsFew start l p.window.opened) (sym before.history) few) leads is_history packed
    line whole part
