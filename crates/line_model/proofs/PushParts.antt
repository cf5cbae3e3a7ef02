-- A push, and a whole `w` line, as parts of the lines' events.
use Rattle.std.proofs.Common.{◌≡◌, ℕ, ◌≤◌, ◌<◌, ◌⊎◌, false, List, [], ◌∷◌, ◌++◌, length, refl, sym, ap, ◌∙◌, subst, inl}
use Rattle.std.proofs.Common.{inr, arith}
use Rattle.trace_model.specs.declared.limits.TheConstants.{MAX_FRAMES, MOMENT_LIMIT}
use Rattle.trace_model.specs.History.{HistoryEvent, push}
use Rattle.trace_model.specs.Window.{RingEvent, acts}
use Rattle.trace_model.specs.Frames.{for_record, waiting, idle, WriteFault}
use Rattle.trace_model.specs.Ring.{Core}
use Rattle.trace_model.specs.Steps.{Event, pushes, Answer, pushed, refused}
use Rattle.trace_model.specs.Steps.{IsTooLong}
use Rattle.trace_model.proofs.steps.StepCases.{StepCases, PushRefused, all_stand, has_no_room, comes_late, push_step}
use Rattle.trace_model.proofs.steps.StepCases.{push_refused, close_step, close_refused, frame_step, frame_lacks}
use Rattle.trace_model.proofs.steps.StepCases.{end_step, end_lacks, end_early, read_step, store_wish_step}
use Rattle.trace_model.proofs.steps.StepSound.{cases_of}
use Rattle.trace_model.proofs.steps.EventKinds.{IsPushes, pushed_of}
use Rattle.text_model.specs.Script.{write}
use Rattle.line_model.specs.Lines.{LineState, frame_count, IsRefusedPush, IsQuiet, IsPush, begins, begins_none, writes}
use Rattle.line_model.specs.Lines.{writes_none, LinePart}
use Rattle.line_model.specs.WriterCalls.{LineWriting, writer_of, IsWriterCall}
use Rattle.line_model.specs.CallEvents.{Agrees}
use Rattle.line_model.specs.LineParts.{PushMakes, PushesMake, WritesMake}
use Rattle.line_model.proofs.EventsMade.{count_frames}
use Rattle.line_model.proofs.CallParts.{calls_finish}

abbrev moment_of : Event → ℕ
moment_of event = (pushed_of event).0

abbrev len_of : Event → ℕ
len_of event = (pushed_of event).1

-- the writer after the push
abbrev pub writer_with : LineWriting → ℕ → ℕ → LineWriting
writer_with s moment len =
    record s {
      frames = record { kind = for_record moment len; state = waiting; phase = idle } ∷ s.frames;
      history = s.history ++ push moment len ∷ [];
    }

-- why a push is refused, by the writer
abbrev pub Refuses : ℕ → LineWriting → ℕ → ℕ → Type 0
Refuses size s moment len = (MAX_FRAMES ≤ length s.frames) ⊎ (IsTooLong size len ⊎ (MOMENT_LIMIT ≤ moment))

abbrev pub Pushing : ℕ → LineWriting → ℕ → ℕ → Answer → LineWriting → Type 0
Pushing size s moment len answer t =
    ((answer ≡ pushed) × (Refuses size s moment len → ⊥) × (t ≡ writer_with s moment len))
    ⊎ ((why : WriteFault) × (answer ≡ refused why) × Refuses size s moment len × (t ≡ s))

module _ (n size : ℕ) (c : Core) (moment len : ℕ) (answer : Answer) (after : Core) where
  refuses_in : (m l : ℕ) (why : WriteFault)
      → m ≡ moment
      → l ≡ len
      → PushRefused size c m l why
      → Refuses size (writer_of c) moment len
  refuses_in m l why em el (all_stand many) = inl many
  refuses_in m l why em el (has_no_room few long) = inr (inl (subst (IsTooLong size) el long))
  refuses_in m l why em el (comes_late few short tardy) = inr (inr (omega arith))

  none_refuse : (m l : ℕ)
      → m ≡ moment
      → l ≡ len
      → length c.frames < MAX_FRAMES
      → (IsTooLong size l → ⊥)
      → m < MOMENT_LIMIT
      → Refuses size (writer_of c) moment len
      → ⊥
  none_refuse m l em el few short early (inl many) = omega arith
  none_refuse m l em el few short early (inr (inl long)) = short (subst (IsTooLong size) (sym el) long)
  none_refuse m l em el few short early (inr (inr tardy)) = omega arith

  pushing : StepCases n size c (pushes moment len) answer after
      → Pushing size (writer_of c) moment len answer (writer_of after)
  pushing (push_step m l e few short early a is) =
      let em : m ≡ moment = sym (ap moment_of e) in let el : l ≡ len = sym (ap len_of e) in
      inl (a, none_refuse m l em el few short early, ap writer_of is ∙ (λ i. writer_with (writer_of c) (em i) (el i)))
  pushing (push_refused m l why e denied a is) =
      inr (why, a, refuses_in m l why (sym (ap moment_of e)) (sym (ap len_of e)) denied, ap writer_of is)
  pushing (close_step e few a is) = absurd (subst IsPushes e tt)
  pushing (close_refused e many a is) = absurd (subst IsPushes e tt)
  pushing (frame_step frame below e top made) = absurd (subst IsPushes e tt)
  pushing (frame_lacks e none a is) = absurd (subst IsPushes e tt)
  pushing (end_step paid frame below num m l e top state k slot a is) = absurd (subst IsPushes e tt)
  pushing (end_lacks paid e none a is) = absurd (subst IsPushes e tt)
  pushing (end_early paid frame below e top early a is) = absurd (subst IsPushes e tt)
  pushing (read_step e made) = absurd (subst IsPushes e tt)
  pushing (store_wish_step e a is) = absurd (subst IsPushes e tt)

pub pushing_of : (n size start moment len : ℕ) (answer : Answer) (s u : LineWriting)
    → IsWriterCall n size start s record { event = pushes moment len; answer = answer } u
    → Pushing size s moment len answer u
pushing_of n size start moment len answer s u call =
    subst (λ (v : LineWriting). Pushing size s moment len answer v) call.after_is
    (subst (λ (v : LineWriting). Pushing size v moment len answer (writer_of call.next)) call.before_is
    (pushing n size call.core moment len answer call.next (cases_of call.step)))

module _ (n size : ℕ) (payloads : List (List ℕ)) (s : LineWriting) (p : LineState) (agrees : Agrees n p payloads s)
    (moment : ℕ) (payload : List ℕ) where
  many : frame_count p ≡ length s.frames
  many = count_frames s.frames payloads p.frames p.finishing agrees.frames

  to_state : Refuses size s moment (length payload) → IsRefusedPush size p moment (length payload)
  to_state (inl stand) = let e = many in inl (omega arith)
  to_state (inr other) = inr other

  to_part : IsRefusedPush size p moment (length payload) → Refuses size s moment (length payload)
  to_part (inl stand) = let e = many in inl (omega arith)
  to_part (inr other) = inr other

  abbrev pushed_state : LineState
  pushed_state =
      record {
        history = p.history ++ push moment (length payload) ∷ [];
        window = p.window;
        frames = record { payload = payload; stepped = false } ∷ p.frames;
        finishing = p.finishing;
      }

  is_push : IsPush n (push moment (length payload)) payload p (acts (push moment (length payload)) ∷ []) pushed_state
  is_push = record { acts_one = refl; window = (tt, refl); after_is = refl }

  pushed_agrees : Agrees n pushed_state (payload ∷ payloads) (writer_with s moment (length payload))
  pushed_agrees = record {
    history = ap (λ (h : List HistoryEvent). h ++ push moment (length payload) ∷ []) agrees.history;
    done = agrees.done;
    opened = agrees.opened;
    window = agrees.window;
    frames = inr (
      record { payload = payload; stepped = false },
      p.frames,
      payloads,
      record { not_left = λ e. cc; open_is = refl; payloads_are = refl; fresh = λ e. (refl, refl) },
      agrees.frames,
    );
  }

  quiet : IsQuiet n p [] p
  quiet = record { acts_none = refl; window = refl; after_is = refl }

pub pushes_make : PushesMake
pushes_make n size start cpu moment payload answer s u payloads p agrees call =
    by_push (pushing_of n size start moment (length payload) answer s u call)
  where
    by_push : Pushing size s moment (length payload) answer u
        → PushMakes n size cpu moment payload answer u payloads p
    by_push (inl (a, none, is)) = inl (
      a,
      pushed_state n size payloads s p agrees moment payload,
      begins (λ no_room. none (to_part n size payloads s p agrees moment payload no_room))
          (is_push n size payloads s p agrees moment payload),
      subst (Agrees n (pushed_state n size payloads s p agrees moment payload) (payload ∷ payloads)) (sym is)
          (pushed_agrees n size payloads s p agrees moment payload),
    )
    by_push (inr (why, a, because, is)) = inr (
      why,
      a,
      begins_none (to_state n size payloads s p agrees moment payload because)
          (quiet n size payloads s p agrees moment payload),
      writes_none (to_state n size payloads s p agrees moment payload because)
          (quiet n size payloads s p agrees moment payload),
      subst (Agrees n p payloads) (sym is) agrees,
    )

pub writes_make : WritesMake
writes_make n size start cpu moment payload s u payloads calls t lefts p agrees call called low =
    by_push (pushing_of n size start moment (length payload) pushed s u call)
  where
    by_push : Pushing size s moment (length payload) pushed u
        → (events : List RingEvent) × (behind : LineState) × LinePart n size (write cpu moment payload) p events behind
        × Agrees n behind lefts t
    by_push (inl (a, none, is)) =
        let q : LineState = pushed_state n size payloads s p agrees moment payload in
        let here : Agrees n q (payload ∷ payloads) u =
        subst (Agrees n q (payload ∷ payloads)) (sym is)
        (pushed_agrees n size payloads s p agrees moment payload) in
        let (events, behind, part, after) =
        calls_finish n size start (length s.frames) u (payload ∷ payloads) calls t lefts q here
        (ap (λ (v : LineWriting). length v.frames) is) called (omega arith) in (
          acts (push moment (length payload)) ∷ events,
          behind,
          writes (acts (push moment (length payload)) ∷ []) events q
              (λ no_room. none (to_part n size payloads s p agrees moment payload no_room)) refl
              (is_push n size payloads s p agrees moment payload) part,
          after,
        )
    by_push (inr (why, a, because, is)) = absurd (let both : pushed ≡ refused why = a in cc)
