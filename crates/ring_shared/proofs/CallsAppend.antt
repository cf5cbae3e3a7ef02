-- What a call of a writer appends to the history of its frames.
use Rattle.std.proofs.Common.{◌≡◌, ◌≢◌, ℕ, List, [], ◌∷◌, ◌++◌, length, Some, None, refl, sym, ap, ◌∙◌, subst, inl, inr}
use Rattle.std.proofs.Common.{append-nil}
use Rattle.trace_model.specs.History.{HistoryEvent, push, push_close, reserve, leave, reserved_records}
use Rattle.trace_model.specs.Frames.{Purpose, for_record, for_close, Progress, waiting, reserved, left, Phase, Frame}
use Rattle.trace_model.specs.Frames.{WriteFault}
use Rattle.trace_model.specs.Ring.{Core}
use Rattle.trace_model.specs.Steps as model
use Rattle.ring_model.specs.Appended.{IsRefusedPage, PushAppends, is_pushed, isnt_pushed, EndAppends, TopEndAppends}
use Rattle.ring_model.specs.Appended.{record_reserved, record_refused, record_opens, record_goes_on, close_refused}
use Rattle.ring_model.specs.Appended.{close_opens, close_leaves, close_goes_on, left_opens, left_grants, left_stays}
use Rattle.ring_model.specs.Appended.{FrameAppends, TopAppends, Appends}
use Rattle.ring_model.proofs.partition.RingsKept.{reached_kept}
use Rattle.ring_model.proofs.histories.StepsAppend.{steps_append, leave_not_refused}
use Rattle.nested_writer.specs.declared.stack.leave.Ended.{Ended as How}
use Rattle.nested_writer.specs.declared.stack.leave.Ended.TheVariants.{Pending, Full}
use Rattle.ring_frames.specs.declared.answer.Answer.TheVariants.{Ended}
use Rattle.ring_frames.specs.Answers.{IsAnswerOf, refusal_of}
use Rattle.ring_steps.specs.Made.{WriterMade, writer_made_of}
use Rattle.ring_steps.specs.Views.{Writing, writing_of, writing_made, writing_after}
use Rattle.ring_steps.proofs.Made.{part_here}
use Rattle.ring_shared.specs.Laws.{CallsAppend, PushesAppend, ClosesAppend, EndsAppend, ReservationsAppend}
use Rattle.ring_shared.specs.Laws.{NumbersAreReportedAgain, RefusalsAppend, events_of_refusal}

-- a step is one more that the writer made, with the part after it
step_made : (before : Writing) (x : model.Exchange) (next : Core) (after : Writing)
    → writing_after before.made x (writing_of [] next) ≡ after → after.made ≡ before.made ++ writing_made x after ∷ []
step_made before x next after is = subst (λ (w : Writing). w.made ≡ before.made ++ writing_made x w ∷ []) is refl

pub calls_append : CallsAppend
calls_append shape before event result after call =
    let (history_events, is, by) =
    steps_append shape.pages shape.size shape.start call.core event call.answer call.next
    (reached_kept shape.pages shape.size shape.start call.core call.reached) call.step in
    record {
      core = call.core;
      answer = call.answer;
      history_events = history_events;
      before_is = part_here (writer_made_of call.reached) call.core before call.before_is;
      reports = call.reports;
      appends = by;
      history_is =
          ap (λ (w : Writing). w.history) (sym call.after_is) ∙ is
          ∙ ap (λ (w : Writing). w.history ++ history_events) call.before_is;
      made_is = step_made before record { event = event; answer = call.answer } call.next after call.after_is;
    }

-- ---- a push

pushed_event : (history_event : HistoryEvent) (answer : model.Answer) (history_events : List HistoryEvent)
    → answer ≡ model.pushed → PushAppends history_event answer history_events → history_events ≡ history_event ∷ []
pushed_event history_event answer history_events reported (is_pushed a is) = is
pushed_event history_event answer history_events reported (isnt_pushed why a is) = absurd (cc)

pub pushes_append : PushesAppend
pushes_append shape before moment len after call =
    let r = calls_append shape before _ _ after call in
    r.history_is
    ∙ ap (λ (history_events : List HistoryEvent). before.history ++ history_events)
    (pushed_event (push moment len) r.answer r.history_events r.reports r.appends)

pub closes_append : ClosesAppend
closes_append shape before after call =
    let r = calls_append shape before _ _ after call in
    r.history_is
    ∙ ap (λ (history_events : List HistoryEvent). before.history ++ history_events)
    (pushed_event push_close r.answer r.history_events r.reports r.appends)

-- ---- an end

ended_not_refused : (size : ℕ) (how : How) (answer : model.Answer) (why : WriteFault)
    → IsAnswerOf size (Ended how) answer → answer ≢ model.refused why
ended_not_refused size Pending answer why reported a = cc
ended_not_refused size Full answer why reported a = cc

ended_event : (payload : List ℕ) (frames : List Frame) (answer : model.Answer) (history_events : List HistoryEvent)
    → ((why : WriteFault) → answer ≢ model.refused why) → TopEndAppends payload frames answer history_events
    → history_events ≡ leave (Some payload) ∷ []
ended_event payload [] answer history_events stands (a, is) = absurd (stands _ a)
ended_event payload (frame ∷ below) answer history_events stands appends = by frame.state appends
  where
    by : (state : Progress) → EndAppends payload state below answer history_events
        → history_events ≡ leave (Some payload) ∷ []
    by waiting (a, is) = absurd (stands _ a)
    by (reserved number) (a, is) = is
    by left (a, is) = absurd (stands _ a)

pub ends_append : EndsAppend
ends_append shape before payload how after call =
    let r = calls_append shape before _ _ after call in
    r.history_is
    ∙ ap (λ (history_events : List HistoryEvent). before.history ++ history_events)
    (ended_event payload r.core.frames r.answer r.history_events
    (λ why. ended_not_refused shape.size how r.answer why r.reports) r.appends)

-- ---- a step that is answered a number

number_is : {a b : ℕ} → model.reserved_as a ≡ model.reserved_as b → a ≡ b
number_is e = cc

leave_no_number : (below : List Frame) (number : ℕ) → model.leave_answer below ≢ model.reserved_as number
leave_no_number [] number e = cc
leave_no_number (next ∷ below) number e = cc

page_no_number : (answer : model.Answer) (number : ℕ) → answer ≡ model.reserved_as number → IsRefusedPage answer → ⊥
page_no_number answer number reported (inl a) = cc
page_no_number answer number reported (inr a) = cc

module _ (n : ℕ) (c : Core) (below : List Frame) (answer : model.Answer) (history_events : List HistoryEvent) where
  reserved_event : (kind : Purpose) (state : Progress) (phase : Phase) (number : ℕ) → state ≡ waiting
      → answer ≡ model.reserved_as number → FrameAppends n c kind state phase below answer history_events
      → (number ≡ length (reserved_records c.history)) × (history_events ≡ reserve ∷ [])
  reserved_event (for_record moment len) waiting phase number waits reported (record_reserved a is) =
      (number_is (sym reported ∙ a), is)
  reserved_event (for_record moment len) waiting phase number waits reported (record_refused a is) =
      absurd (page_no_number answer number reported a)
  reserved_event (for_record moment len) waiting phase number waits reported (record_opens fill a is) = absurd (cc)
  reserved_event (for_record moment len) waiting phase number waits reported (record_goes_on none a is) = absurd (cc)
  reserved_event for_close waiting phase number waits reported (close_refused a is) =
      absurd (page_no_number answer number reported a)
  reserved_event for_close waiting phase number waits reported (close_opens fill a is) =
      absurd (leave_no_number below number (sym a ∙ reported))
  reserved_event for_close waiting phase number waits reported (close_leaves has a is) =
      absurd (leave_no_number below number (sym a ∙ reported))
  reserved_event for_close waiting phase number waits reported (close_goes_on none wants a is) = absurd (cc)
  reserved_event kind (reserved other) phase number waits reported appends = absurd (cc)
  reserved_event kind left phase number waits reported appends = absurd (cc)

  again_event : (kind : Purpose) (state : Progress) (phase : Phase) (number : ℕ) → state ≡ reserved number
      → FrameAppends n c kind state phase below answer history_events
      → (answer ≡ model.reserved_as number) × (history_events ≡ [])
  again_event kind state phase number has appends =
      subst (λ (s : Progress). FrameAppends n c kind s phase below answer history_events) has appends

-- the part's frames are the state's
frames_are : {made : List WriterMade} (core : Core) (before : Writing) (frames : List Frame)
    → writing_of made core ≡ before → before.frames ≡ frames → core.frames ≡ frames
frames_are core before frames is top = ap (λ (w : Writing). w.frames) is ∙ top

pub reservations_append : ReservationsAppend
reservations_append shape before frame below number after top waits call =
    let r = calls_append shape before _ _ after call in
    let appends =
    subst (λ (fs : List Frame). TopAppends shape.pages r.core fs r.answer r.history_events)
    (frames_are r.core before (frame ∷ below) r.before_is top) r.appends in
    let (number_at, is) =
    reserved_event shape.pages r.core below r.answer r.history_events frame.kind frame.state frame.phase number.0
    waits r.reports appends in (
      number_at ∙ ap (λ (w : Writing). length (reserved_records w.history)) r.before_is,
      r.history_is ∙ ap (λ (history_events : List HistoryEvent). before.history ++ history_events) is,
    )

pub numbers_again : NumbersAreReportedAgain
numbers_again shape before frame below number result after top has call =
    let r = calls_append shape before _ _ after call in
    let appends =
    subst (λ (fs : List Frame). TopAppends shape.pages r.core fs r.answer r.history_events)
    (frames_are r.core before (frame ∷ below) r.before_is top) r.appends in
    let (reported, is) =
    again_event shape.pages r.core below r.answer r.history_events frame.kind frame.state frame.phase number has
    appends in (
      subst (IsAnswerOf shape.size result) reported r.reports,
      r.history_is ∙ ap (λ (history_events : List HistoryEvent). before.history ++ history_events) is
          ∙ append-nil before.history,
    )

-- ---- a refusal

refused_push : (history_event : HistoryEvent) (answer : model.Answer) (why : WriteFault)
    (history_events : List HistoryEvent) → answer ≡ model.refused why
    → PushAppends history_event answer history_events → history_events ≡ []
refused_push history_event answer why history_events reported (is_pushed a is) = absurd (cc)
refused_push history_event answer why history_events reported (isnt_pushed other a is) = is

end_not_refused : (below : List Frame) (why : WriteFault) → model.end_answer below ≢ model.refused why
end_not_refused [] why e = cc
end_not_refused (next ∷ below) why e = cc

refused_end : (payload : List ℕ) (frames : List Frame) (answer : model.Answer) (why : WriteFault)
    (history_events : List HistoryEvent) → answer ≡ model.refused why
    → TopEndAppends payload frames answer history_events → history_events ≡ []
refused_end payload [] answer why history_events reported (a, is) = is
refused_end payload (frame ∷ below) answer why history_events reported appends = by frame.state appends
  where
    by : (state : Progress) → EndAppends payload state below answer history_events → history_events ≡ []
    by waiting (a, is) = is
    by (reserved number) (a, is) = absurd (end_not_refused below why (sym a ∙ reported))
    by left (a, is) = is

refused_frame : (n : ℕ) (c : Core) (kind : Purpose) (state : Progress) (phase : Phase) (below : List Frame)
    (answer : model.Answer) (why : WriteFault) (history_events : List HistoryEvent) → answer ≡ model.refused why
    → FrameAppends n c kind state phase below answer history_events → history_events ≡ leave None ∷ []
refused_frame n c (for_record moment len) waiting phase below answer why history_events reported
    (record_reserved a is) =
    absurd (cc)
refused_frame n c (for_record moment len) waiting phase below answer why history_events reported (record_refused a is) =
    is
refused_frame n c (for_record moment len) waiting phase below answer why history_events reported
    (record_opens fill a is) =
    absurd (cc)
refused_frame n c (for_record moment len) waiting phase below answer why history_events reported
    (record_goes_on none a is) =
    absurd (cc)
refused_frame n c for_close waiting phase below answer why history_events reported (close_refused a is) = is
refused_frame n c for_close waiting phase below answer why history_events reported (close_opens fill a is) =
    absurd (leave_not_refused below why (sym a ∙ reported))
refused_frame n c for_close waiting phase below answer why history_events reported (close_leaves has a is) =
    absurd (leave_not_refused below why (sym a ∙ reported))
refused_frame n c for_close waiting phase below answer why history_events reported (close_goes_on none wants a is) =
    absurd (cc)
refused_frame n c kind (reserved number) phase below answer why history_events reported (a, is) = absurd (cc)
refused_frame n c kind left phase below answer why history_events reported (left_opens fill a is) = absurd (cc)
refused_frame n c kind left phase below answer why history_events reported (left_grants wish a is) = absurd (cc)
refused_frame n c kind left phase below answer why history_events reported (left_stays none denied (inl a) is) =
    absurd (cc)
refused_frame n c kind left phase below answer why history_events reported (left_stays none denied (inr a) is) =
    absurd (cc)

refused_step : (n : ℕ) (c : Core) (frames : List Frame) (answer : model.Answer) (why : WriteFault)
    (history_events : List HistoryEvent) → answer ≡ model.refused why → TopAppends n c frames answer history_events
    → history_events ≡ events_of_refusal model.steps frames
refused_step n c [] answer why history_events reported (a, is) = is
refused_step n c (frame ∷ below) answer why history_events reported appends =
    refused_frame n c frame.kind frame.state frame.phase below answer why history_events reported appends

refused_events : (n : ℕ) (c : Core) (event : model.Event) (answer : model.Answer) (why : WriteFault)
    (history_events : List HistoryEvent) → answer ≡ model.refused why → Appends n c event answer history_events
    → history_events ≡ events_of_refusal event c.frames
refused_events n c (model.pushes moment len) answer why history_events reported appends =
    refused_push (push moment len) answer why history_events reported appends
refused_events n c model.pushes_close answer why history_events reported appends =
    refused_push push_close answer why history_events reported appends
refused_events n c model.steps answer why history_events reported appends =
    refused_step n c c.frames answer why history_events reported appends
refused_events n c (model.ends payload) answer why history_events reported appends =
    refused_end payload c.frames answer why history_events reported appends
refused_events n c model.reads answer why history_events reported appends = appends
refused_events n c model.wishes answer why history_events reported appends = appends

pub refusals_append : RefusalsAppend
refusals_append shape before event fault after call =
    let r = calls_append shape before _ _ after call in
    let is = refused_events shape.pages r.core event r.answer (refusal_of fault) r.history_events r.reports r.appends in
    r.history_is
    ∙ ap (λ (history_events : List HistoryEvent). before.history ++ history_events)
    (is ∙ ap (λ (w : Writing). events_of_refusal event w.frames) r.before_is)
