-- The push of a frame as a private step: it is on the stack, or refused.
use Rattle.std.proofs.Common.{◌≡◌, ◌⊎◌, ⊎_elim, ℕ, ◌+◌, ◌<◌, ◌≤◌, true, false, [], ◌∷◌, ◌++◌, length, inl, inr, refl}
use Rattle.std.proofs.Common.{sym, ap, subst, arith}
use Rattle.std.specs.Prelude.{Result, Err}
use mathlib.Core.Logic.{dite}
use native.Mathlib.Decide.{dec_le}
use Rattle.trace_model.specs.declared.limits.TheConstants.{MAX_FRAMES, MOMENT_LIMIT}
use Rattle.trace_model.specs.Words.{encoded_len}
use Rattle.trace_model.specs.History.{HistoryEvent, push, push_close}
use Rattle.trace_model.specs.Ring.{Core}
use Rattle.trace_model.specs.Steps as model
use Rattle.trace_model.proofs.steps.StepCases as cases
use Rattle.trace_model.proofs.steps.StepIs.{step_by}
use Rattle.ring_model.specs.Seats.{IsPrivate}
use Rattle.nested_writer.specs.declared.fault.WriteFault.{WriteFault}
use Rattle.nested_writer.specs.declared.fault.WriteFault.TheVariants.{TooDeep, TooLong, LateMoment}
use Rattle.nested_writer.specs.declared.frame.Purpose.{Purpose}
use Rattle.nested_writer.specs.declared.frame.Purpose.TheVariants.{Record, Close}
use Rattle.nested_writer.specs.Stack.{Stack, kind_of}
use Rattle.nested_writer.specs.Calls.{with_frame}
use Rattle.nested_writer.specs.IsStack.{IsStack}
use Rattle.ring_frames.specs.declared.answer.Answer.TheVariants.{Pushed, Refused}
use Rattle.ring_frames.specs.Phases.{with_pushed_phase}
use Rattle.ring_frames.specs.Value.{FramesValue}
use Rattle.ring_frames.specs.AreFrames.{AreFrames}
use Rattle.ring_frames.specs.Answers.{refusal_of}
use Rattle.ring_frames.specs.Steps.{IsPrivateStep}
use Rattle.ring_frames.proofs.Privately.{privately}
use Rattle.ring_frames.proofs.Pushed.{new_frame, pushed_shown, has_room, has_no_room}

-- what a push makes of the value, if its stack is this one afterwards
abbrev pub pushed_value : FramesValue → Stack → FramesValue
pushed_value v stack = with_pushed_phase (record v { stack = stack })

-- and of the state
abbrev after_push : Core → Purpose → HistoryEvent → Core
after_push c purpose history_event = model.with_history_event (model.with_frame c (kind_of purpose)) history_event

shown_with : (n size start : ℕ) (v : FramesValue) (c : Core) (purpose : Purpose) (history_event : HistoryEvent)
    (stack : Stack) → AreFrames n size start v c → stack ≡ with_frame v.stack (new_frame purpose)
    → IsStack start (c.history ++ history_event ∷ []) stack
    → AreFrames n size start (pushed_value v stack) (after_push c purpose history_event)
shown_with n size start v c purpose history_event stack k is kept =
    subst (λ (s : Stack). AreFrames n size start (pushed_value v s) (after_push c purpose history_event)) (sym is)
    (pushed_shown n size start v c purpose history_event k
    (subst (IsStack start (c.history ++ history_event ∷ [])) is kept))

pub record_pushed : (n size start : ℕ) (v : FramesValue) (c : Core) (moment len : ℕ) (stack : Stack)
    → AreFrames n size start v c → length v.stack.frames < MAX_FRAMES → (model.IsTooLong v.stack.size len → ⊥)
    → moment < MOMENT_LIMIT → stack ≡ with_frame v.stack (new_frame (Record moment len))
    → IsStack start (c.history ++ push moment len ∷ []) stack
    → IsPrivateStep n size start c (model.pushes moment len) Pushed (pushed_value v stack)
record_pushed n size start v c moment len stack k few fits early is kept =
    privately n size start (pushed_value v stack) c (model.pushes moment len) Pushed model.pushed
    (after_push c (Record moment len) (push moment len))
    (step_by (cases.push_step moment len refl (has_room n size start v c k few)
    (subst (λ (s : ℕ). model.IsTooLong s len → ⊥) k.size_is fits) early refl refl))
    tt
    refl
    (shown_with n size start v c (Record moment len) (push moment len) stack k is kept)

pub close_pushed : (n size start : ℕ) (v : FramesValue) (c : Core) (stack : Stack) → AreFrames n size start v c
    → length v.stack.frames < MAX_FRAMES → stack ≡ with_frame v.stack (new_frame Close)
    → IsStack start (c.history ++ push_close ∷ []) stack
    → IsPrivateStep n size start c model.pushes_close Pushed (pushed_value v stack)
close_pushed n size start v c stack k few is kept =
    privately n size start (pushed_value v stack) c model.pushes_close Pushed model.pushed
    (after_push c Close push_close)
    (step_by (cases.close_step refl (has_room n size start v c k few) refl refl))
    tt
    refl
    (shown_with n size start v c Close push_close stack k is kept)

-- ---- refusals

-- nothing has changed
stays : (n size start : ℕ) (v : FramesValue) (c : Core) (event : model.Event) (fault why : WriteFault)
    → AreFrames n size start v c → fault ≡ why → model.Step n size c event (model.refused (refusal_of why)) c
    → IsPrivate c event → IsPrivateStep n size start c event (Refused fault) v
stays n size start v c event fault why k is step own =
    privately n size start v c event (Refused fault) (model.refused (refusal_of why)) c step own
    (ap (λ (f : WriteFault). model.refused (refusal_of f)) (sym is)) k

too_long_or : (size len : ℕ) → model.IsTooLong size len ⊎ (model.IsTooLong size len → ⊥)
too_long_or size len = dite (dec_le (size + 1) len) (λ long. inl (inl (omega arith)))
    (λ short.
    dite (dec_le (size + 1) (encoded_len len 0 true)) (λ long. inl (inr (omega arith)))
    (λ fits. inr (λ is. neither short fits is)))
  where
    neither : (size + 1 ≤ len → ⊥) → (size + 1 ≤ encoded_len len 0 true → ⊥) → model.IsTooLong size len → ⊥
    neither short fits (inl long) = short (omega arith)
    neither short fits (inr long) = fits (omega arith)

-- the first of the three that holds
pub record_refused : (n size start : ℕ) (v : FramesValue) (c : Core) (moment len : ℕ) (fault : WriteFault)
    → AreFrames n size start v c
    → (MAX_FRAMES ≤ length v.stack.frames → fault ≡ TooDeep)
    → (length v.stack.frames < MAX_FRAMES → model.IsTooLong v.stack.size len → fault ≡ TooLong)
    → (length v.stack.frames < MAX_FRAMES → (model.IsTooLong v.stack.size len → ⊥) → MOMENT_LIMIT ≤ moment
    → fault ≡ LateMoment)
    → (length v.stack.frames < MAX_FRAMES → (model.IsTooLong v.stack.size len → ⊥) → moment < MOMENT_LIMIT → ⊥)
    → IsPrivateStep n size start c (model.pushes moment len) (Refused fault) v
record_refused n size start v c moment len fault k deep long late none =
    dite (dec_le MAX_FRAMES (length v.stack.frames))
    (λ many. refused_for TooDeep (deep many) (cases.all_stand (has_no_room n size start v c k many)))
    (λ few. ⊎_elim
    (λ is.
    refused_for TooLong (long (omega arith) is)
    (cases.has_no_room (has_room n size start v c k (omega arith))
    (subst (λ (s : ℕ). model.IsTooLong s len) k.size_is is)))
    (λ fits. dite (dec_le MOMENT_LIMIT moment)
    (λ is.
    refused_for LateMoment (late (omega arith) fits is)
    (cases.comes_late (has_room n size start v c k (omega arith))
    (subst (λ (s : ℕ). model.IsTooLong s len → ⊥) k.size_is fits) is))
    (λ early. absurd (none (omega arith) fits (omega arith))))
    (too_long_or v.stack.size len))
  where
    refused_for : (why : WriteFault) → fault ≡ why → cases.PushRefused size c moment len (refusal_of why)
        → IsPrivateStep n size start c (model.pushes moment len) (Refused fault) v
    refused_for why is refused =
        stays n size start v c (model.pushes moment len) fault why k is
        (step_by (cases.push_refused moment len (refusal_of why) refl refused refl refl)) tt

pub close_refused : (n size start : ℕ) (v : FramesValue) (c : Core) (fault : WriteFault) → AreFrames n size start v c
    → (MAX_FRAMES ≤ length v.stack.frames → fault ≡ TooDeep)
    → (length v.stack.frames < MAX_FRAMES → ⊥)
    → IsPrivateStep n size start c model.pushes_close (Refused fault) v
close_refused n size start v c fault k deep none =
    dite (dec_le MAX_FRAMES (length v.stack.frames))
    (λ many.
    stays n size start v c model.pushes_close fault TooDeep k (deep many)
    (step_by (cases.close_refused refl (has_no_room n size start v c k many) refl refl)) tt)
    (λ few. absurd (none (omega arith)))

-- ---- what the stack answers a push

pub same_fault : {A : Type 0} {a b : WriteFault} → ◌≡◌ {A = Result A WriteFault} (Err a) (Err b) → a ≡ b
same_fault e = cc

pub not_pushed : false ≡ true → ⊥
not_pushed e = cc
