-- The calls for a frame, joined, are a part of the lines' events.
use Rattle.std.proofs.Common.{◌≡◌, ◌≢◌, ℕ, suc, ◌+◌, ◌-◌, ◌<◌, ◌≤◌, List, [], ◌∷◌, ◌++◌, length, sym, ap, ◌∙◌, subst}
use Rattle.std.proofs.Common.{arith, length-append}
use Rattle.trace_model.specs.History.{HistoryEvent}
use Rattle.trace_model.specs.Window.{RingEvent, acts, closes, takes, loses, history_events_of, window_after}
use Rattle.trace_model.specs.Frames.{for_record, for_close, Frame}
use Rattle.trace_model.specs.Steps.{Exchange}
use Rattle.trace_model.proofs.steps.StepSound.{cases_of}
use Rattle.ring_model.proofs.histories.WindowRuns.{history_events-append}
use Rattle.world_model.specs.Lanes.{event_on_top, payloads_left}
use Rattle.world_model.proofs.FramesMove.{Moves, stays, changes, pops, PushesNone, step_moves}
use Rattle.world_model.proofs.LanePayloads.{pushes_none}
use Rattle.line_model.specs.Lines.{LineState, OpenFrame, frame_count, state_after, state_moved, TopRun, MayGo, stays_on}
use Rattle.line_model.specs.Lines.{goes, ReservesFirst, TopPart, StepsPart, FinishPart}
use Rattle.line_model.specs.WriterCalls.{LineWriting, IsWriterCall, TopCalls}
use Rattle.line_model.specs.CallEvents.{Agrees, IsRecordOnTop, stepped}
use Rattle.line_model.specs.LineParts.{AreForRecords, CallsFinish}
use Rattle.line_model.proofs.EventsMade.{count_frames}
use Rattle.line_model.proofs.CallEventsMade.{calls_make_events}

top_joined : (n size depth : ℕ) (p between after : LineState) (xs ys : List RingEvent)
    → TopRun n size depth p xs between
    → TopRun n size depth between ys after
    → TopRun n size depth p (xs ++ ys) after
top_joined n size depth p between after [] ys one two =
    subst (λ (q : LineState). TopRun n size depth q ys after) (sym one) two
top_joined n size depth p between after (acts a ∷ xs) ys (count, of_top, may, one) two =
    (count, of_top, may, top_joined n size depth (state_after p a) between after xs ys one two)
top_joined n size depth p between after (closes ∷ xs) ys (may, one) two =
    (may, top_joined n size depth (state_moved p (window_after p.window closes)) between after xs ys one two)
top_joined n size depth p between after (takes ∷ xs) ys (may, one) two =
    (may, top_joined n size depth (state_moved p (window_after p.window takes)) between after xs ys one two)
top_joined n size depth p between after (loses ∷ xs) ys (may, one) two =
    (may, top_joined n size depth (state_moved p (window_after p.window loses)) between after xs ys one two)

reserves_more : (size : ℕ) (p : LineState) (xs : List OpenFrame) (history_events more : List HistoryEvent)
    → ReservesFirst size p xs history_events
    → ReservesFirst size p xs (history_events ++ more)
reserves_more size p [] history_events more first = tt
reserves_more size p (top ∷ below) history_events more first = λ fresh r wants fits. let (others, is) =
    first fresh r wants fits in (others ++ more, ap (λ (l : List HistoryEvent). l ++ more) is)

-- the events of calls, with the state that they reach
record CallsMake (n size depth count : ℕ) (frames : List Frame) (p : LineState) (lefts : List (List ℕ))
    (t : LineWriting)
    : Type 0 where
  events : List RingEvent
  reached : LineState
  behind : LineState
  run : TopRun n size depth (stepped p) events reached
  goes : MayGo reached behind
  agrees : Agrees n behind lefts t
  first : ReservesFirst size p p.frames (history_events_of events)
  few : AreForRecords frames → length (history_events_of events) ≤ count

-- they are a part of the events of the frame on top
top_part : (n size depth count : ℕ) (frames : List Frame) (p : LineState) (lefts : List (List ℕ)) (t : LineWriting)
    → depth ≡ frame_count p - 1
    → (m : CallsMake n size depth count frames p lefts t)
    → TopPart n size p m.events m.behind
top_part n size depth count frames p lefts t depth_is m = record {
  first = m.first;
  reached = m.reached;
  run = subst (λ (d : ℕ). TopRun n size d (stepped p) m.events m.reached) depth_is m.run;
  goes = m.goes;
}

has_some : (frames : List Frame) (depth : ℕ) → length frames ≡ suc depth → frames ≢ []
has_some frames depth e none = let z = ap (λ (fs : List Frame). length fs) none in omega arith

-- the frame is still on the stack, so it wasn't popped
still_there : (n depth : ℕ) (payloads : List (List ℕ)) (u : LineWriting) (reached behind : LineState)
    → MayGo reached behind
    → Agrees n behind payloads u
    → length u.frames ≡ suc depth
    → behind ≡ reached
still_there n depth payloads u reached behind (stays_on e) agrees some = e
still_there n depth payloads u reached behind (goes none finishing last e) agrees some =
    let count = count_frames u.frames payloads behind.frames behind.finishing agrees.frames in
    let bare : frame_count behind ≡ 0 = ap frame_count e ∙ ap (λ (xs : List OpenFrame). length xs + 0) none in
    absurd (omega arith)

-- ---- the kinds of frames

pub moved_records : (frames after : List Frame) → Moves frames after → AreForRecords frames → AreForRecords after
moved_records frames after (stays is) are = subst AreForRecords (sym is) are
moved_records frames after (changes frame next below top kind is) are =
    let ((moment, len, k), rest) = subst AreForRecords top are in
    subst AreForRecords (sym is) ((moment, len, kind ∙ k), rest)
moved_records frames after (pops frame below top is) are =
    subst AreForRecords (sym is) (subst AreForRecords top are).1

-- one call changes, or pops, the top frame
pub call_moves : (n size start : ℕ) (s : LineWriting) (x : Exchange) (u : LineWriting) (payloads : List (List ℕ))
    → x.event ≡ event_on_top s.frames payloads
    → IsWriterCall n size start s x u
    → Moves s.frames u.frames
call_moves n size start s x u payloads e call =
    subst (λ (v : LineWriting). Moves s.frames v.frames) call.after_is
    (subst (λ (v : LineWriting). Moves v.frames call.next.frames) call.before_is
    (step_moves n size call.core x.event x.answer call.next
    (subst PushesNone (sym e) (pushes_none s.frames payloads)) (cases_of call.step)))

call_keeps : (n size start : ℕ) (s : LineWriting) (x : Exchange) (u : LineWriting) (payloads : List (List ℕ))
    → x.event ≡ event_on_top s.frames payloads
    → IsWriterCall n size start s x u
    → AreForRecords s.frames
    → AreForRecords u.frames
call_keeps n size start s x u payloads e call are =
    moved_records s.frames u.frames (call_moves n size start s x u payloads e call) are

record_on_top : (frames : List Frame) (depth : ℕ)
    → length frames ≡ suc depth
    → AreForRecords frames
    → IsRecordOnTop frames
record_on_top [] depth some are = absurd (omega arith)
record_on_top (frame ∷ below) depth some ((moment, len, k), rest) =
    λ closes_page. absurd (let both : for_record moment len ≡ for_close = sym k ∙ closes_page in cc)

module _ (n size start depth : ℕ) where
  calls_make : (s : LineWriting) (payloads : List (List ℕ)) (x : Exchange) (calls : List Exchange) (t : LineWriting)
      (lefts : List (List ℕ)) (p : LineState)
      → Agrees n p payloads s
      → TopCalls n size start depth s payloads (x ∷ calls) t lefts
      → CallsMake n size depth (suc (length calls)) s.frames p lefts t
  calls_make s payloads x [] t lefts p agrees (some, e, u, call, (same, lasts)) =
      let m = calls_make_events n size start s x u payloads p call (has_some s.frames depth some) e agrees in record {
        events = m.events;
        reached = m.reached;
        behind = m.behind;
        run = subst (λ (d : ℕ). TopRun n size d (stepped p) m.events m.reached)
            (let it : length s.frames - 1 ≡ depth = omega arith in it) m.run;
        goes = m.goes;
        agrees = subst (Agrees n m.behind lefts) same
            (subst (λ (ps : List (List ℕ)). Agrees n m.behind ps u) lasts m.agrees);
        first = m.first;
        few = λ are. m.few (record_on_top s.frames depth some are);
      }
  calls_make s payloads x (y ∷ calls) t lefts p agrees (some, e, u, call, rest) =
      let m = calls_make_events n size start s x u payloads p call (has_some s.frames depth some) e agrees in
      let there : m.behind ≡ m.reached =
      still_there n depth (payloads_left u.frames payloads) u m.reached m.behind m.goes m.agrees rest.0 in
      let more = calls_make u (payloads_left u.frames payloads) y calls t lefts m.behind m.agrees rest in
      let from : stepped m.behind ≡ m.reached = m.on (rest.0 ∙ sym some) ∙ there in record {
        events = m.events ++ more.events;
        reached = more.reached;
        behind = more.behind;
        run = top_joined n size depth (stepped p) m.reached more.reached m.events more.events
            (subst (λ (d : ℕ). TopRun n size d (stepped p) m.events m.reached)
            (let it : length s.frames - 1 ≡ depth = omega arith in it) m.run)
            (subst (λ (q : LineState). TopRun n size depth q more.events more.reached) from more.run);
        goes = more.goes;
        agrees = more.agrees;
        first = subst (ReservesFirst size p p.frames) (sym (history_events-append m.events more.events))
            (reserves_more size p p.frames (history_events_of m.events) (history_events_of more.events) m.first);
        few = λ are.
            let one = m.few (record_on_top s.frames depth some are) in
            let others = more.few (call_keeps n size start s x u payloads e call are) in
            let long = ap (λ (l : List HistoryEvent). length l) (history_events-append m.events more.events) in
            omega (arith, length-append (history_events_of m.events) (history_events_of more.events));
      }

  finishes : (s : LineWriting) (payloads : List (List ℕ)) (t : LineWriting) (lefts : List (List ℕ)) (p : LineState)
      (count : ℕ)
      → Agrees n p payloads s
      → length s.frames ≡ suc depth
      → length t.frames < suc depth
      → CallsMake n size depth count s.frames p lefts t
      → (events : List RingEvent) × (behind : LineState) × FinishPart n size p events behind × Agrees n behind lefts t
  finishes s payloads t lefts p count agrees some low m =
      let frames_are = count_frames s.frames payloads p.frames p.finishing agrees.frames in
      let after = count_frames t.frames lefts m.behind.frames m.behind.finishing m.agrees.frames in
      let depth_is : depth ≡ frame_count p - 1 = omega arith in (
        m.events,
        m.behind,
        record { top = top_part n size depth count s.frames p lefts t depth_is m; is_gone = omega arith },
        m.agrees,
      )

-- calls, at most this number of them, are a part as of `s`
pub calls_step : (n size start depth count : ℕ) (s : LineWriting) (payloads : List (List ℕ)) (x : Exchange)
    (calls : List Exchange) (t : LineWriting) (lefts : List (List ℕ)) (p : LineState)
    → Agrees n p payloads s
    → AreForRecords s.frames
    → length s.frames ≡ suc depth
    → TopCalls n size start depth s payloads (x ∷ calls) t lefts
    → suc (length calls) ≤ count
    → (events : List RingEvent) × (behind : LineState) × StepsPart n size count p events behind
    × Agrees n behind lefts t
calls_step n size start depth count s payloads x calls t lefts p agrees are some called few =
    let m = calls_make n size start depth s payloads x calls t lefts p agrees called in
    let frames_are = count_frames s.frames payloads p.frames p.finishing agrees.frames in
    let depth_is : depth ≡ frame_count p - 1 = omega arith in
    let made = m.few are in (
      m.events,
      m.behind,
      record {
        top = top_part n size depth (suc (length calls)) s.frames p lefts t depth_is m;
        few = omega arith;
      },
      m.agrees,
    )

pub calls_finish : CallsFinish
calls_finish n size start depth s payloads [] t lefts p agrees some (same, lasts) low =
    absurd (let z = ap (λ (v : LineWriting). length v.frames) same in omega arith)
calls_finish n size start depth s payloads (x ∷ calls) t lefts p agrees some called low =
    finishes n size start depth s payloads t lefts p _ agrees some low
    (calls_make n size start depth s payloads x calls t lefts p agrees called)
