-- A `c` line as a part of the lines' events.
use Rattle.std.proofs.Common.{◌≡◌, ℕ, ◌≤◌, ◌<◌, ◌⊎◌, false, List, [], ◌∷◌, ◌++◌, length, refl, sym, ap, ◌∙◌, subst, inl}
use Rattle.std.proofs.Common.{inr, arith}
use Rattle.trace_model.specs.declared.limits.TheConstants.{MAX_FRAMES}
use Rattle.trace_model.specs.History.{HistoryEvent, push_close}
use Rattle.trace_model.specs.Window.{RingEvent, acts}
use Rattle.trace_model.specs.Frames.{for_close, waiting, idle, WriteFault}
use Rattle.trace_model.specs.Ring.{Core}
use Rattle.trace_model.specs.Steps.{pushes_close, Answer, pushed, refused}
use Rattle.trace_model.proofs.steps.StepCases.{StepCases, push_step, push_refused, close_step, close_refused}
use Rattle.trace_model.proofs.steps.StepCases.{frame_step, frame_lacks, end_step, end_lacks, end_early, read_step}
use Rattle.trace_model.proofs.steps.StepCases.{store_wish_step}
use Rattle.trace_model.proofs.steps.StepSound.{cases_of}
use Rattle.trace_model.proofs.steps.EventKinds.{IsPushesClose}
use Rattle.text_model.specs.Script.{close}
use Rattle.line_model.specs.Lines.{LineState, frame_count, writes, writes_none, LinePart}
use Rattle.line_model.specs.WriterCalls.{LineWriting, writer_of, IsWriterCall, TopCalls}
use Rattle.line_model.specs.CallEvents.{Agrees}
use Rattle.line_model.specs.LineParts.{ClosesMake}
use Rattle.line_model.proofs.EventsMade.{count_frames}
use Rattle.line_model.proofs.CallParts.{calls_finish}

abbrev pub closed_with : LineWriting → LineWriting
closed_with s =
    record s {
      frames = record { kind = for_close; state = waiting; phase = idle } ∷ s.frames;
      history = s.history ++ push_close ∷ [];
    }

abbrev pub Closing : LineWriting → Answer → LineWriting → Type 0
Closing s answer t = ((answer ≡ pushed) × (length s.frames < MAX_FRAMES) × (t ≡ closed_with s))
    ⊎ ((why : WriteFault) × (answer ≡ refused why) × (MAX_FRAMES ≤ length s.frames) × (t ≡ s))

closing : (n size : ℕ) (c : Core) (answer : Answer) (after : Core)
    → StepCases n size c pushes_close answer after
    → Closing (writer_of c) answer (writer_of after)
closing n size c answer after (push_step m l e few short early a is) = absurd (subst IsPushesClose e tt)
closing n size c answer after (push_refused m l why e denied a is) = absurd (subst IsPushesClose e tt)
closing n size c answer after (close_step e few a is) = inl (a, few, ap writer_of is)
closing n size c answer after (close_refused e many a is) = inr (_, a, many, ap writer_of is)
closing n size c answer after (frame_step frame below e top made) = absurd (subst IsPushesClose e tt)
closing n size c answer after (frame_lacks e none a is) = absurd (subst IsPushesClose e tt)
closing n size c answer after (end_step paid frame below num m l e top state k slot a is) =
    absurd (subst IsPushesClose e tt)
closing n size c answer after (end_lacks paid e none a is) = absurd (subst IsPushesClose e tt)
closing n size c answer after (end_early paid frame below e top early a is) = absurd (subst IsPushesClose e tt)
closing n size c answer after (read_step e made) = absurd (subst IsPushesClose e tt)
closing n size c answer after (store_wish_step e a is) = absurd (subst IsPushesClose e tt)

pub closing_of : (n size start : ℕ) (answer : Answer) (s u : LineWriting)
    → IsWriterCall n size start s record { event = pushes_close; answer = answer } u
    → Closing s answer u
closing_of n size start answer s u call =
    subst (λ (v : LineWriting). Closing s answer v) call.after_is
    (subst (λ (v : LineWriting). Closing v answer (writer_of call.next)) call.before_is
    (closing n size call.core answer call.next (cases_of call.step)))

pub closes_make : ClosesMake
closes_make n size start cpu answer s u payloads calls t lefts p agrees call =
    (λ a called low. by_push a called low closes_now, λ why turned. by_refusal why turned closes_now)
  where
    closes_now : Closing s answer u
    closes_now = closing_of n size start answer s u call

    many : frame_count p ≡ length s.frames
    many = count_frames s.frames payloads p.frames p.finishing agrees.frames

    by_push : answer ≡ pushed
        → TopCalls n size start (length s.frames) u ([] ∷ payloads) calls t lefts
        → length t.frames ≤ length s.frames
        → Closing s answer u
        → (events : List RingEvent) × (behind : LineState) × LinePart n size (close cpu) p events behind
        × Agrees n behind lefts t
    by_push a called low (inl (same, few, is)) =
        let q : LineState =
        record {
          history = p.history ++ push_close ∷ [];
          window = p.window;
          frames = record { payload = []; stepped = false } ∷ p.frames;
          finishing = p.finishing;
        } in
        let made : Agrees n q ([] ∷ payloads) (closed_with s) = record {
          history = ap (λ (h : List HistoryEvent). h ++ push_close ∷ []) agrees.history;
          done = agrees.done;
          opened = agrees.opened;
          window = agrees.window;
          frames = inr (
            record { payload = []; stepped = false },
            p.frames,
            payloads,
            record { not_left = λ e. cc; open_is = refl; payloads_are = refl; fresh = λ e. (refl, refl) },
            agrees.frames,
          );
        } in
        let (events, behind, part, after) =
        calls_finish n size start (length s.frames) u ([] ∷ payloads) calls t lefts q
        (subst (Agrees n q ([] ∷ payloads)) (sym is) made) (ap (λ (v : LineWriting). length v.frames) is) called
        (omega arith) in (
          acts push_close ∷ events,
          behind,
          writes (acts push_close ∷ []) events q
              (λ full. let e = many in omega arith) refl
              record { acts_one = refl; window = (tt, refl); after_is = refl } part,
          after,
        )
    by_push a called low (inr (why, turned, stand, is)) =
        absurd (let both : pushed ≡ refused why = sym a ∙ turned in cc)

    by_refusal : (why : WriteFault)
        → answer ≡ refused why
        → Closing s answer u
        → LinePart n size (close cpu) p [] p × Agrees n p payloads u
    by_refusal why turned (inl (same, few, is)) = absurd (let both : pushed ≡ refused why = sym same ∙ turned in cc)
    by_refusal why turned (inr (because, same, stand, is)) = (
      writes_none (let e = many in omega arith) record { acts_none = refl; window = refl; after_is = refl },
      subst (Agrees n p payloads) (sym is) agrees,
    )
