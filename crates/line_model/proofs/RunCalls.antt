-- What a line of a replay has with its ring are, for the writer, the calls of that line.
use Rattle.std.proofs.Common.{◌≡◌, ◌≢◌, ℕ, suc, ◌-◌, ◌≤◌, List, [], ◌∷◌, length, drop, refl, sym, ap, ◌∙◌, subst, inl}
use Rattle.std.proofs.Common.{inr, arith}
use Rattle.trace_model.specs.Frames.{Frame, WriteFault}
use Rattle.trace_model.specs.Ring.{Core}
use Rattle.trace_model.specs.Steps.{Event, pushes, pushes_close, reads, wishes, Answer, pushed, refused, Step, Exchange}
use Rattle.trace_model.proofs.steps.StepSound.{cases_of}
use Rattle.text_model.specs.Script.{begin_frame, step_frame, finish_frame, write, close, step_reader, take_page, wish}
use Rattle.text_model.specs.Script.{deliver}
use Rattle.ring_model.specs.Reached.{IsReached}
use Rattle.ring_model.specs.Seats.{IsOfReader}
use Rattle.ring_model.proofs.partition.RingsKept.{reached_further}
use Rattle.ring_model.proofs.seats.SeatSteps.{reader_leaves_writer}
use Rattle.world_model.specs.Lanes.{Lane, lane_behind, payloads_left, payloads_with, FrameRun, StepsFrame}
use Rattle.world_model.specs.Lanes.{lacks_to_step, steps_on, FinishesFrame, lacks_to_finish, finishes, PushesFrame}
use Rattle.world_model.specs.Lanes.{FinishesPushed, ReaderRun, Wishes}
use Rattle.world_model.proofs.LanePayloads.{as_many}
use Rattle.line_model.specs.WriterCalls.{LineWriting, writer_of, IsWriterCall, TopCalls, StepsCalls, none_to_step}
use Rattle.line_model.specs.WriterCalls.{steps_top, FinishCalls, none_to_finish, finishes_top, BeginCalls, begins_frame}
use Rattle.line_model.specs.WriterCalls.{begins_none, WholeCalls, writes_frame, writes_none, NoCalls}
use Rattle.line_model.specs.ReplayedLines.{LineRunsAreCalls}
use Rattle.line_model.proofs.PushParts.{Pushing, pushing_of}
use Rattle.line_model.proofs.CloseParts.{Closing, closing_of}

some_long : (frames : List Frame) → frames ≢ [] → length frames ≡ suc (length frames - 1)
some_long [] some = absurd (some refl)
some_long (frame ∷ below) some = omega arith

-- a step of a ring that steps reach
call_at : (n size start : ℕ) (c : Core) (x : Exchange) (next : Core)
    → IsReached n size start c
    → Step n size c x.event x.answer next
    → IsWriterCall n size start (writer_of c) x (writer_of next)
call_at n size start c x next reached step =
    record { core = c; next = next; reached = reached; before_is = refl; step = step; after_is = refl }

module _ (n size start : ℕ) where
  -- ---- the top frame

  frame_calls : (depth : ℕ) (before after : Lane) (xs : List Exchange)
      → IsReached n size start before.core
      → FrameRun n size (suc depth) before xs after
      → TopCalls n size start depth (writer_of before.core) before.payloads xs (writer_of after.core) after.payloads
  frame_calls depth before after [] reached same =
      (ap (λ (l : Lane). writer_of l.core) same, ap (λ (l : Lane). l.payloads) same)
  frame_calls depth before after (x ∷ xs) reached (count, event, core, step, run) = (
    count,
    event,
    writer_of core,
    call_at n size start before.core x core reached step,
    frame_calls depth (lane_behind before core) after xs
        (reached_further n size start before.core x.event x.answer core reached step) run,
  )

  module _ (before after : Lane) (reached : IsReached n size start before.core) where
    deep : before.core.frames ≢ [] → length before.core.frames ≡ suc (length before.core.frames - 1)
    deep some = some_long before.core.frames some

    top_calls : (xs : List Exchange)
        → before.core.frames ≢ []
        → FrameRun n size (length before.core.frames) before xs after
        → TopCalls n size start (length before.core.frames - 1) (writer_of before.core) before.payloads xs
        (writer_of after.core) after.payloads
    top_calls xs some run =
        frame_calls (length before.core.frames - 1) before after xs reached
        (subst (λ (d : ℕ). FrameRun n size d before xs after) (deep some) run)

    stays_calls : after ≡ before → (writer_of after.core ≡ writer_of before.core) × (after.payloads ≡ before.payloads)
    stays_calls same = (ap (λ (l : Lane). writer_of l.core) same, ap (λ (l : Lane). l.payloads) same)

    steps_calls : (count : ℕ) (xs : List Exchange)
        → 1 ≤ count
        → StepsFrame n size count before xs after
        → (made : List Exchange)
        × StepsCalls n size start count (writer_of before.core) before.payloads made (writer_of after.core)
        after.payloads
    steps_calls count xs one (lacks_to_step h) =
        let (same, all) = stays_calls h.stays in ([], none_to_step h.none refl same all)
    steps_calls count [] one (steps_on some same (few, inl all)) = absurd (let none : 0 ≡ count = all in omega arith)
    steps_calls count [] one (steps_on some same (few, inr gone)) =
        absurd (let z = ap (λ (l : Lane). length l.core.frames) same in omega arith)
    steps_calls count (x ∷ xs) one (steps_on some run (few, inl all)) =
        (_, steps_top (length before.core.frames - 1) x xs refl (deep some) (top_calls (x ∷ xs) some run) few (inl all))
    steps_calls count (x ∷ xs) one (steps_on some run (few, inr gone)) = (
      _,
      steps_top (length before.core.frames - 1) x xs refl (deep some) (top_calls (x ∷ xs) some run) few
          (inr (let d = deep some in omega arith)),
    )

    finish_calls : (xs : List Exchange)
        → FinishesFrame n size before xs after
        → (made : List Exchange)
        × FinishCalls n size start (writer_of before.core) before.payloads made (writer_of after.core) after.payloads
    finish_calls xs (lacks_to_finish h) =
        let (same, all) = stays_calls h.stays in ([], none_to_finish h.none refl same all)
    finish_calls xs (finishes some run gone) = (
      xs,
      finishes_top (length before.core.frames - 1) (deep some) (top_calls xs some run)
          (let d = deep some in omega arith),
    )

  -- ---- a push

  -- it is answered by the push or by a refusal
  data IsAnswer (answer : Answer) : Type 0 where
    is_pushed : answer ≡ pushed → IsAnswer answer
    is_refused : (why : WriteFault) → answer ≡ refused why → IsAnswer answer

  module _ (event : Event) (payload : List ℕ) (before between : Lane) (x : Exchange)
      (reached : IsReached n size start before.core) (p : PushesFrame n size event payload before x between) where
    push_call : IsWriterCall n size start (writer_of before.core) record { event = event; answer = x.answer }
        (writer_of between.core)
    push_call = record {
      core = before.core;
      next = p.core;
      reached = reached;
      before_is = refl;
      step = p.step;
      after_is = ap (λ (l : Lane). writer_of l.core) (sym p.after_is);
    }

    push_answered : (answer : Answer)
        → x.answer ≡ answer
        → IsWriterCall n size start (writer_of before.core) record { event = event; answer = answer }
        (writer_of between.core)
    push_answered answer e =
        subst (λ (a : Answer). IsWriterCall n size start (writer_of before.core) record { event = event; answer = a }
        (writer_of between.core)) e push_call

    push_payloads : (answer : Answer)
        → x.answer ≡ answer
        → between.payloads ≡ payloads_with payload answer before.payloads
    push_payloads answer e = ap (λ (l : Lane). l.payloads) p.after_is
        ∙ ap (λ (a : Answer). payloads_with payload a before.payloads) e

    push_reached : IsReached n size start between.core
    push_reached =
        subst (λ (l : Lane). IsReached n size start l.core) (sym p.after_is)
        (reached_further n size start before.core event x.answer p.core reached p.step)

    begin_calls : IsAnswer x.answer
        → (made : List Exchange)
        × BeginCalls n size start event payload (writer_of before.core) before.payloads made
        (writer_of between.core) between.payloads
    begin_calls (is_pushed e) = (_, begins_frame refl (push_answered pushed e) (push_payloads pushed e))
    begin_calls (is_refused why e) =
        (_, begins_none why refl (push_answered (refused why) e) (push_payloads (refused why) e))

    whole_calls : (after : Lane) (rest : List Exchange)
        → FinishesPushed n size x.answer between rest after
        → IsAnswer x.answer
        → (made : List Exchange)
        × WholeCalls n size start event payload (writer_of before.core) before.payloads made
        (writer_of after.core) after.payloads
    whole_calls after rest f (is_pushed e) =
        let own : FinishesFrame n size between rest after =
        subst (λ (a : Answer). FinishesPushed n size a between rest after) e f in
        let (finishing, finished) = finish_calls between after push_reached rest own in (
          _,
          writes_frame (writer_of between.core) finishing refl (push_answered pushed e)
              (subst (λ (l : List (List ℕ)). FinishCalls n size start (writer_of between.core) l finishing
              (writer_of after.core) after.payloads) (push_payloads pushed e) finished),
        )
    whole_calls after rest f (is_refused why e) =
        let (none, same) : (rest ≡ []) × (after ≡ between) =
        subst (λ (a : Answer). FinishesPushed n size a between rest after) e f in (
          _,
          writes_none why refl
              (subst (λ (l : Lane). IsWriterCall n size start
              (writer_of before.core) record { event = event; answer = refused why } (writer_of l.core)) (sym same)
              (push_answered (refused why) e))
              (ap (λ (l : Lane). l.payloads) same ∙ push_payloads (refused why) e),
        )

  record_answer : (moment len : ℕ) (answer : Answer) (s u : LineWriting)
      → Pushing size s moment len answer u
      → IsAnswer answer
  record_answer moment len answer s u (inl (e, may, is)) = is_pushed e
  record_answer moment len answer s u (inr (why, e, because, is)) = is_refused why e

  close_answer : (answer : Answer) (s u : LineWriting) → Closing s answer u → IsAnswer answer
  close_answer answer s u (inl (e, few, is)) = is_pushed e
  close_answer answer s u (inr (why, e, because, is)) = is_refused why e

  -- ---- the reader

  -- the reader changes nothing of the writer
  reader_stays : (c : Core) (event : Event) (answer : Answer) (after : Core)
      → IsOfReader event
      → Step n size c event answer after
      → writer_of after ≡ writer_of c
  reader_stays c event answer after of step =
      let w = reader_leaves_writer n size c event answer after of (cases_of step) in
      (λ i. record { frames = w.frames i; history = w.history i; done = w.done i; opened = w.opened i })

  all_left : (frames : List Frame) (payloads : List (List ℕ))
      → length payloads ≡ length frames
      → payloads_left frames payloads ≡ payloads
  all_left frames payloads e =
      ap (λ (k : ℕ). drop k payloads) (let it : length payloads - length frames ≡ 0 = omega arith in it)

  behind_stays : (before : Lane) (core : Core)
      → writer_of core ≡ writer_of before.core
      → length before.payloads ≡ length before.core.frames
      → NoCalls (writer_of before.core) before.payloads [] (writer_of core) (payloads_left core.frames before.payloads)
  behind_stays before core same many =
      (refl, same, all_left core.frames before.payloads (many ∙ ap (λ (w : LineWriting). length w.frames) (sym same)))

  reader_calls : (before after : Lane) (xs : List Exchange)
      → length before.payloads ≡ length before.core.frames
      → ReaderRun n size before xs after
      → NoCalls (writer_of before.core) before.payloads [] (writer_of after.core) after.payloads
  reader_calls before after [] many same =
      (refl, ap (λ (l : Lane). writer_of l.core) (sym same), ap (λ (l : Lane). l.payloads) (sym same))
  reader_calls before after (x ∷ xs) many (event, more, core, step, run) =
      let (none, same, all) = behind_stays before core (reader_stays before.core reads x.answer core tt step) many in
      let (nothing, later, others) =
      reader_calls (lane_behind before core) after xs
      (ap length all ∙ many ∙ ap (λ (w : LineWriting). length w.frames) (sym same)) run in
      (refl, later ∙ same, others ∙ all)

  wish_calls : (before after : Lane) (xs : List Exchange)
      → length before.payloads ≡ length before.core.frames
      → Wishes n size before xs after
      → NoCalls (writer_of before.core) before.payloads [] (writer_of after.core) after.payloads
  wish_calls before after xs many w =
      let (none, same, all) =
      behind_stays before w.core (reader_stays before.core wishes w.answer w.core tt w.step) many in
      (refl, ap (λ (l : Lane). writer_of l.core) w.after_is ∙ same, ap (λ (l : Lane). l.payloads) w.after_is ∙ all)

pub line_runs_are_calls : LineRunsAreCalls
line_runs_are_calls n size start cpus collectors (begin_frame cpu moment payload) before after xs reached fit within
    (x, is, p) =
    begin_calls n size start (pushes moment (length payload)) payload before after x reached p
    (record_answer n size start moment (length payload) x.answer (writer_of before.core) (writer_of after.core)
    (pushing_of n size start moment (length payload) x.answer (writer_of before.core) (writer_of after.core)
    (push_call n size start (pushes moment (length payload)) payload before after x reached p)))
line_runs_are_calls n size start cpus collectors (step_frame cpu count) before after xs reached fit within run =
    steps_calls n size start before after reached count xs (let low = within.1 in omega arith) run
line_runs_are_calls n size start cpus collectors (finish_frame cpu) before after xs reached fit within run =
    finish_calls n size start before after reached xs run
line_runs_are_calls n size start cpus collectors (write cpu moment payload) before after xs reached fit within w =
    whole_calls n size start
    (pushes moment (length payload)) payload before w.between w.push reached w.pushes after w.rest w.finishes
    (record_answer n size start moment (length payload) w.push.answer (writer_of before.core) (writer_of w.between.core)
    (pushing_of n size start moment (length payload) w.push.answer (writer_of before.core) (writer_of w.between.core)
    (push_call n size start (pushes moment (length payload)) payload before w.between w.push reached w.pushes)))
line_runs_are_calls n size start cpus collectors (close cpu) before after xs reached fit within w =
    whole_calls n size start pushes_close [] before w.between w.push reached w.pushes after w.rest w.finishes
    (close_answer n size start w.push.answer (writer_of before.core) (writer_of w.between.core)
    (closing_of n size start w.push.answer (writer_of before.core) (writer_of w.between.core)
    (push_call n size start pushes_close [] before w.between w.push reached w.pushes)))
line_runs_are_calls n size start cpus collectors (step_reader cpu count) before after xs reached fit within run =
    ([], reader_calls n size start before after xs (as_many before.core.frames before.payloads fit) run.0)
line_runs_are_calls n size start cpus collectors (take_page cpu) before after xs reached fit within run =
    ([], reader_calls n size start before after xs (as_many before.core.frames before.payloads fit) run.0)
line_runs_are_calls n size start cpus collectors (wish cpu) before after xs reached fit within run =
    ([], wish_calls n size start before after xs (as_many before.core.frames before.payloads fit) run)
line_runs_are_calls n size start cpus collectors (deliver collector cpu fill) before after xs reached fit within run =
    ([], (refl, ap (λ (l : Lane). writer_of l.core) run.1, ap (λ (l : Lane). l.payloads) run.1))
