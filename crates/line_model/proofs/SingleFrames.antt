-- The calls for a frame that is alone are served.
use Rattle.std.proofs.Common.{◌≡◌, ◌≢◌, ℕ, ◌+◌, ◌≤◌, ◌⊎◌, List, [], ◌∷◌, length, refl, sym, ap, ◌∙◌, subst, inl, inr}
use Rattle.std.proofs.Common.{arith}
use Rattle.trace_model.specs.Words.{padded}
use Rattle.trace_model.specs.History.{HistoryEvent, push, push_close, open_fill, Reservation, reserved_records}
use Rattle.trace_model.specs.Packing.{tail_of, IsPacked}
use Rattle.trace_model.specs.Frames.{Purpose, for_record, for_close, Progress, waiting, reserved, left, idle, Frame}
use Rattle.trace_model.specs.Frames.{crowded, worn}
use Rattle.trace_model.specs.Ring.{Core}
use Rattle.trace_model.specs.Steps.{Event, Answer, steps, ends, pushed, refused, Exchange, Step}
use Rattle.trace_model.proofs.histories.NextRecords.{records_snoc}
use Rattle.ring_model.specs.RingKept.{IsRingKept}
use Rattle.ring_model.specs.Reached.{IsReached}
use Rattle.ring_model.specs.AnswerLaws.{IsInNeed}
use Rattle.ring_model.proofs.frames.AnswersRight.{crowded_right, worn_right}
use Rattle.ring_model.proofs.seats.FrameEnds.{opened_tail, needs_tail}
use Rattle.ring_model.proofs.contents.PackedRuns.{runs_packed}
use Rattle.ring_model.proofs.partition.RingsKept.{reached_kept}
use Rattle.ring_model.proofs.frames.StackSteps.{closed_at_rest}
use Rattle.ring_model.proofs.histories.StepsAsEvents.{run_reported}
use Rattle.world_model.specs.Lanes.{event_in, event_on_top, payloads_left}
use Rattle.line_model.specs.WriterCalls.{LineWriting, writer_of, IsWriterCall, TopCalls}
use Rattle.line_model.specs.CallEvents.{CallMakes, goes_on, begins, has_reserved, leaves, leaves_fill, closes_one}
use Rattle.line_model.specs.CallEvents.{finds_wish, is_gone}
use Rattle.line_model.specs.SingleFrames.{push_of, IsServed, AreServed, SingleFramesAreServed}
use Rattle.line_model.proofs.FewFills.{fills_are_few}
use Rattle.line_model.proofs.StepsMake.{steps_make}
use Rattle.trace_model.proofs.steps.StepSound.{cases_of}
use Rattle.line_model.proofs.CallEventsMade.{first_of, ends_make}
use Rattle.line_model.proofs.PushParts.{Pushing, pushing_of}
use Rattle.line_model.proofs.CloseParts.{Closing, closing_of}
use Rattle.line_model.proofs.NeedsDue.{refused_frames_need_pages}

-- The frame waits, after this number of records, and all fills but the tail are closed, or the tail is empty; or it
-- waits no more; or none is on the stack.
data IsAlone (records : ℕ) (s : LineWriting) : Type 0 where
  none_left : s.frames ≡ [] → IsAlone records s
  still_waits : (frame : Frame)
      → s.frames ≡ frame ∷ []
      → (s.opened ≡ s.done + 1) ⊎ (tail_of s.history ≡ [])
      → length (reserved_records s.history) ≡ records
      → IsAlone records s
  waits_no_more : (frame : Frame) → s.frames ≡ frame ∷ [] → frame.state ≢ waiting → IsAlone records s

left_not : (frame : Frame) → frame.state ≡ left → frame.state ≢ waiting
left_not frame at waits = absurd (let both : left ≡ waiting = sym at ∙ waits in cc)

module _ (n size start records : ℕ) (c : Core) (x : Exchange) (after : Core) (reached : IsReached n size start c)
    (step : Step n size c x.event x.answer after) where
  kept : IsRingKept n size start c
  kept = reached_kept n size start c reached

  -- ---- what it is refused

  -- a frame that needs a page is one that waits, and the tail has a record
  in_need : IsInNeed n size c
      → (frame : Frame)
      → c.frames ≡ frame ∷ []
      → (frame.state ≡ waiting) × (tail_of c.history ≢ [])
  in_need need frame top =
      let same : need.top ≡ frame = ap (first_of frame) (sym need.is_top ∙ top) in (
        ap (λ (f : Frame). f.state) (sym same) ∙ need.waits,
        needs_tail n size start c need.top need.below kept need.is_top need.top.kind refl need.waits need.needs,
      )

  few : tail_of c.history ≢ [] → c.opened ≤ start + length (reserved_records c.history)
  few some =
      let (events, run) = run_reported n size start c reached in
      let packed =
      subst (λ (l : List HistoryEvent). IsPacked l size) (sym run.history_events)
      (runs_packed n size start c kept) in
      let (all, held) = fills_are_few n size start events _ run.window packed in
      subst (λ (l : List HistoryEvent). c.opened ≤ start + length (reserved_records l)) run.history_events
      (held (λ none. some (ap tail_of (sym run.history_events) ∙ none)))

  needy : x.answer ≡ refused crowded ⊎ x.answer ≡ refused worn → IsInNeed n size c
  needy (inl e) = (refused_frames_need_pages n size c x.event x.answer after step).0 e
  needy (inr e) = (refused_frames_need_pages n size c x.event x.answer after step).1 e

  -- if the stack is as this says, a refusal is one of a frame that waits
  stage_of : IsAlone records (writer_of c)
      → IsInNeed n size c
      → (c.opened ≡ c.done + 1) × (length (reserved_records c.history) ≡ records) × (tail_of c.history ≢ [])
  stage_of (none_left none) need =
      absurd (let z = ap (λ (l : List Frame). length l) (sym none ∙ need.is_top) in omega arith)
  stage_of (still_waits frame top (inl tall) count) need = (tall, count, (in_need need frame top).1)
  stage_of (still_waits frame top (inr bare) count) need = absurd ((in_need need frame top).1 bare)
  stage_of (waits_no_more frame top not) need = absurd (not (in_need need frame top).0)

  served : IsAlone records (writer_of c) → IsServed n start records x
  served alone = (
    λ e.
        let (tall, count, some) = stage_of alone (needy (inl e)) in
        let all = crowded_right n size c x.event after (subst (λ (a : Answer). Step n size c x.event a after) e step) in
        let two = reached.may_start.some_pages in
        omega arith,
    λ e.
        let (tall, count, some) = stage_of alone (needy (inr e)) in
        let (last, room) =
        worn_right n size start c x.event after kept
        (subst (λ (a : Answer). Step n size c x.event a after) e step) in
        let low = few some in
        omega arith,
  )

  -- ---- what becomes of it

  as_event : (payloads : List (List ℕ)) (frame : Frame) (e : Event)
      → c.frames ≡ frame ∷ []
      → x.event ≡ event_on_top c.frames payloads
      → event_in frame.state payloads ≡ e
      → Step n size c e x.answer after
  as_event payloads frame e top is same =
      subst (λ (v : Event). Step n size c v x.answer after)
      (is ∙ ap (λ (fs : List Frame). event_on_top fs payloads) top ∙ same) step

  -- a frame that waited
  waits_on : (frame : Frame)
      → frame.state ≡ waiting
      → (c.opened ≡ c.done + 1) ⊎ (tail_of c.history ≡ [])
      → length (reserved_records c.history) ≡ records
      → CallMakes n size c frame [] after
      → IsAlone records (writer_of after)
  waits_on frame at tall count (goes_on phase st fit e) =
      subst (IsAlone records) (sym e) (still_waits (record frame { phase = phase }) refl tall count)
  waits_on frame at tall count (begins phase st fit e) =
      subst (IsAlone records) (sym e) (still_waits (record frame { phase = phase }) refl (inr (opened_tail c.history))
      (ap (λ (l : List Reservation). length l) (records_snoc c.history open_fill) ∙ count))
  waits_on frame at tall count (has_reserved number w e) =
      subst (IsAlone records) (sym e)
      (waits_no_more (record frame { state = reserved number; phase = idle }) refl (λ z. cc))
  waits_on frame at tall count (leaves w why fit e) = subst (IsAlone records) (sym e) (waits_no_more _ refl (λ z. cc))
  waits_on frame at tall count (leaves_fill page kind w none fit e) =
      subst (IsAlone records) (sym e) (waits_no_more _ refl (λ z. cc))
  waits_on frame at tall count (closes_one phase has under more e) =
      absurd (let both : waiting ≡ left = sym at ∙ has in cc)
  waits_on frame at tall count (finds_wish phase has under e) = absurd (let both : waiting ≡ left = sym at ∙ has in cc)
  waits_on frame at tall count (is_gone has under last e) = absurd (let both : waiting ≡ left = sym at ∙ has in cc)

  -- one that has left
  left_on : (frame : Frame) → frame.state ≡ left → CallMakes n size c frame [] after → IsAlone records (writer_of after)
  left_on frame at (goes_on phase st fit e) =
      subst (IsAlone records) (sym e) (waits_no_more (record frame { phase = phase }) refl (left_not frame at))
  left_on frame at (begins phase st fit e) =
      subst (IsAlone records) (sym e) (waits_no_more (record frame { phase = phase }) refl (left_not frame at))
  left_on frame at (has_reserved number w e) = absurd (let both : waiting ≡ left = sym w ∙ at in cc)
  left_on frame at (leaves w why fit e) = absurd (let both : waiting ≡ left = sym w ∙ at in cc)
  left_on frame at (leaves_fill page kind w none fit e) = absurd (let both : waiting ≡ left = sym w ∙ at in cc)
  left_on frame at (closes_one phase has under more e) =
      subst (IsAlone records) (sym e) (waits_no_more (record frame { phase = phase }) refl (left_not frame at))
  left_on frame at (finds_wish phase has under e) =
      subst (IsAlone records) (sym e) (waits_no_more (record frame { phase = phase }) refl (left_not frame at))
  left_on frame at (is_gone has under last e) = subst (IsAlone records) (sym e) (none_left refl)

  by_state : (payloads : List (List ℕ)) (frame : Frame) (state : Progress)
      → frame.state ≡ state
      → c.frames ≡ frame ∷ []
      → x.event ≡ event_on_top c.frames payloads
      → (frame.state ≡ waiting → ((c.opened ≡ c.done + 1) ⊎ (tail_of c.history ≡ []))
      × (length (reserved_records c.history) ≡ records))
      → IsAlone records (writer_of after)
  by_state payloads frame waiting at top e stage =
      let (tall, count) = stage at in
      waits_on frame at tall count (steps_make n size start c frame [] x.answer after kept top (inl at)
      (as_event payloads frame steps top e (ap (λ (s : Progress). event_in s payloads) at)))
  by_state [] frame (reserved number) at top e stage =
      let is = ends_make n size c frame [] number (padded []) x.answer after top at
      (cases_of (as_event [] frame (ends (padded [])) top e (ap (λ (s : Progress). event_in s []) at))) in
      subst (IsAlone records) (sym (ap writer_of is)) (waits_no_more _ refl (λ z. cc))
  by_state (payload ∷ payloads) frame (reserved number) at top e stage =
      let is = ends_make n size c frame [] number (padded payload) x.answer after top at
      (cases_of (as_event (payload ∷ payloads) frame (ends (padded payload)) top e
      (ap (λ (s : Progress). event_in s (payload ∷ payloads)) at))) in
      subst (IsAlone records) (sym (ap writer_of is)) (waits_no_more _ refl (λ z. cc))
  by_state payloads frame left at top e stage =
      left_on frame at (steps_make n size start c frame [] x.answer after kept top (inr at)
      (as_event payloads frame steps top e (ap (λ (s : Progress). event_in s payloads) at)))

  alone_on : (payloads : List (List ℕ))
      → c.frames ≢ []
      → x.event ≡ event_on_top c.frames payloads
      → IsAlone records (writer_of c)
      → IsAlone records (writer_of after)
  alone_on payloads some e (none_left none) = absurd (some none)
  alone_on payloads some e (still_waits frame top tall count) =
      by_state payloads frame frame.state refl top e (λ at. (tall, count))
  alone_on payloads some e (waits_no_more frame top not) =
      by_state payloads frame frame.state refl top e (λ at. absurd (not at))

module _ (n size start records : ℕ) where
  calls_served : (s : LineWriting) (payloads : List (List ℕ)) (calls : List Exchange) (t : LineWriting)
      (lefts : List (List ℕ))
      → IsAlone records s
      → TopCalls n size start 0 s payloads calls t lefts
      → AreServed n start records calls
  calls_served s payloads [] t lefts alone same = tt
  calls_served s payloads (x ∷ calls) t lefts alone (count, e, u, call, rest) =
      let here = subst (IsAlone records) (sym call.before_is) alone in
      let some : call.core.frames ≢ [] =
      (λ none. let z = ap (λ (l : List Frame). length l)
      (ap (λ (w : LineWriting). w.frames) (sym call.before_is) ∙ none) in omega arith) in
      let event = subst (λ (w : LineWriting). x.event ≡ event_on_top w.frames payloads) (sym call.before_is) e in
      let next =
      subst (IsAlone records) call.after_is
      (alone_on n size start records call.core x call.next call.reached call.step payloads some event here) in (
        served n size start records call.core x call.next call.reached call.step here,
        calls_served u (payloads_left u.frames payloads) calls t lefts next rest,
      )

-- after its push it is alone
pushed_alone : (n size start : ℕ) (kind : Purpose) (s u : LineWriting)
    → s.frames ≡ []
    → IsWriterCall n size start s record { event = push_of kind; answer = pushed } u
    → IsAlone (length (reserved_records s.history)) u
pushed_alone n size start kind s u none call = by_kind kind call
  where
    closed : s.done + 1 ≡ s.opened
    closed = subst (λ (w : LineWriting). w.done + 1 ≡ w.opened) call.before_is
        (closed_at_rest n size start call.core (reached_kept n size start call.core call.reached)
        (ap (λ (w : LineWriting). w.frames) call.before_is ∙ none))

    by_kind : (k : Purpose)
        → IsWriterCall n size start s record { event = push_of k; answer = pushed } u
        → IsAlone (length (reserved_records s.history)) u
    by_kind (for_record moment len) own = by_push (pushing_of n size start moment len pushed s u own)
      where
        by_push : Pushing size s moment len pushed u → IsAlone (length (reserved_records s.history)) u
        by_push (inl (a, may, is)) = subst (IsAlone (length (reserved_records s.history))) (sym is)
            (still_waits _
            (ap (λ (l : List Frame). record { kind = for_record moment len; state = waiting; phase = idle } ∷ l)
            none) (inl (sym closed))
            (ap (λ (l : List Reservation). length l) (records_snoc s.history (push moment len))))
        by_push (inr (why, e, because, is)) = absurd (let both : pushed ≡ refused why = e in cc)
    by_kind for_close own = by_push (closing_of n size start pushed s u own)
      where
        by_push : Closing s pushed u → IsAlone (length (reserved_records s.history)) u
        by_push (inl (a, few, is)) = subst (IsAlone (length (reserved_records s.history))) (sym is)
            (still_waits _
            (ap (λ (l : List Frame). record { kind = for_close; state = waiting; phase = idle } ∷ l) none)
            (inl (sym closed))
            (ap (λ (l : List Reservation). length l) (records_snoc s.history push_close)))
        by_push (inr (why, e, because, is)) = absurd (let both : pushed ≡ refused why = e in cc)

pub single_frames_are_served : SingleFramesAreServed
single_frames_are_served n size start kind payload s u calls t lefts none call called =
    calls_served n size start (length (reserved_records s.history)) u (payload ∷ []) calls t lefts
    (pushed_alone n size start kind s u none call) called
