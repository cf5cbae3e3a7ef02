use Rattle.std.proofs.Common.{◌≡◌, length, refl, sym, ap, ◌∙◌, subst, arith}
use mathlib.Core.Logic.{dite}
use native.Mathlib.Decide.{dec_le}
use Rattle.std.specs.Prelude.{Result, Ok, Err}
use Rattle.trace_model.specs.Steps.{ends}
use Rattle.nested_writer.specs.declared.fault.WriteFault.{WriteFault}
use Rattle.nested_writer.specs.declared.stack.leave.Ended.{Ended}
use Rattle.nested_writer.specs.declared.stack.leave.Ended.TheVariants.{Pending, Full}
use Rattle.ring_frames.specs.Value.{FramesValue}
use Rattle.ring_frames.specs.Inside.{frames_in}
use Rattle.ring_frames.specs.Answers.{top_bytes, EndsPayload}
use Rattle.ring_frames.specs.AreFrames.{AreFrames}
use Rattle.ring_frames.specs.declared.answer.Answer.TheVariants.{Ended as HasEndedSo, Refused}
use Rattle.ring_frames.specs.Steps.{IsPrivateStep, AreSomeFrames}
use Rattle.ring_frames.proofs.Ended.{frame_ended, end_refused}
use Rattle.ring_frames.proofs.Left.{none_below, some_below, left_alone}
use Rattle.ring_frames.proofs.Payloads.{ended_payload, same_payload}
use Rattle.ring_frames.proofs.frames.Frames.end.Goals as goal

pub returns-in-Ok-Full-clause-step : goal.returns-in-Ok-Full-clause-step
returns-in-Ok-Full-clause-step c = λ n size start s reached now.
    let v : FramesValue = frames_in c.self.inside in
    let are : AreFrames n size start v s =
    subst (λ (x : FramesValue). AreFrames n size start x s) (sym c.self.view_is) now in
    let one = (c.in-Ok-Full.ensures.full.0 (ap Ok c.in-Ok-Full.field-0-is)).1 in
    let made =
    frame_ended n size start v s Full c.end.new.self are (λ may many. absurd (omega (arith, one, many)))
    (λ may few. refl) c.in-Ok-Full.ensures.ok in
    subst
    (λ (x : FramesValue).
    IsPrivateStep n size start s (ends (top_bytes x.stack x.stack.frames)) (HasEndedSo Full)
    c.start_closing.new.self) c.self.view_is
    (subst (IsPrivateStep n size start s (ends (top_bytes v.stack v.stack.frames)) (HasEndedSo Full))
    (left_alone v c.end.new.self (none_below v.stack.frames v.below are.below_are one) ∙ sym c.start_closing.ensures)
    made)

pub uncover_phase-requires : goal.uncover_phase-requires
uncover_phase-requires c =
    let v : FramesValue = frames_in c.self.inside in
    let (n, size, start, s, are) = subst AreSomeFrames (sym c.self.view_is) c.requires.shown in
    record {
      below =
          some_below v.stack.frames v.below are.below_are
          (c.in-Ok-Pending.ensures.pending.0 (ap Ok c.in-Ok-Pending.field-0-is)).1;
    }

pub returns-in-Ok-Pending-clause-step : goal.returns-in-Ok-Pending-clause-step
returns-in-Ok-Pending-clause-step c = λ n size start s reached now.
    let v : FramesValue = frames_in c.self.inside in
    let are : AreFrames n size start v s =
    subst (λ (x : FramesValue). AreFrames n size start x s) (sym c.self.view_is) now in
    let more = (c.in-Ok-Pending.ensures.pending.0 (ap Ok c.in-Ok-Pending.field-0-is)).1 in
    let made =
    frame_ended n size start v s Pending c.end.new.self are (λ may many. refl)
    (λ may few. absurd (omega (arith, more, few))) c.in-Ok-Pending.ensures.ok in
    subst
    (λ (x : FramesValue).
    IsPrivateStep n size start s (ends (top_bytes x.stack x.stack.frames)) (HasEndedSo Pending)
    c.uncover_phase.new.self) c.self.view_is
    (subst (IsPrivateStep n size start s (ends (top_bytes v.stack v.stack.frames)) (HasEndedSo Pending))
    (sym c.uncover_phase.ensures.phase) made)

pub returns-in-Err-clause-step : goal.returns-in-Err-clause-step
returns-in-Err-clause-step c = λ n size start s reached now.
    let are : AreFrames n size start (frames_in c.self.inside) s =
    subst (λ (x : FramesValue). AreFrames n size start x s) (sym c.self.view_is) now in
    let made =
    end_refused n size start (frames_in c.self.inside) s c.in-Err.fault are
    (λ none. err_is (c.in-Err.ensures.no_frame.1 none))
    (λ early. err_is (c.in-Err.ensures.not_reserved.1 early))
    (λ may.
    dite (dec_le 2 (length c.self.inside.stack.frames))
    (λ many. err_not_ok (c.in-Err.ensures.pending.1 (may, many)))
    (λ one. err_not_ok (c.in-Err.ensures.full.1 (may, omega arith)))) in
    subst
    (λ (x : FramesValue).
    IsPrivateStep n size start s (ends (top_bytes x.stack x.stack.frames)) (Refused c.in-Err.fault)
    (frames_in record c.self.inside { stack = c.end.new.self })) c.self.view_is
    (rw c.in-Err.ensures.err made)
  where
    err_is : {a b : WriteFault} → ◌≡◌ {A = Result Ended WriteFault} (Err a) (Err b) → a ≡ b
    err_is e = cc

    err_not_ok : {a : WriteFault} {b : Ended} → ◌≡◌ {A = Result Ended WriteFault} (Err a) (Ok b) → ⊥
    err_not_ok e = cc

-- ---- payloads

pub returns-in-Ok-Full-clause-payloads : goal.returns-in-Ok-Full-clause-payloads
returns-in-Ok-Full-clause-payloads c =
    let v : FramesValue = frames_in c.self.inside in
    rw c.start_closing.ensures
    (subst (λ (x : FramesValue). EndsPayload x.stack c.end.new.self) c.self.view_is
    (ended_payload v.stack c.end.new.self c.in-Ok-Full.ensures.ok))

pub returns-in-Ok-Pending-clause-payloads : goal.returns-in-Ok-Pending-clause-payloads
returns-in-Ok-Pending-clause-payloads c =
    let v : FramesValue = frames_in c.self.inside in
    rw c.uncover_phase.ensures.phase
    (subst (λ (x : FramesValue). EndsPayload x.stack c.end.new.self) c.self.view_is
    (ended_payload v.stack c.end.new.self c.in-Ok-Pending.ensures.ok))

pub returns-in-Err-clause-payloads : goal.returns-in-Err-clause-payloads
returns-in-Err-clause-payloads c =
    let v : FramesValue = frames_in c.self.inside in
    subst (λ (x : FramesValue). EndsPayload x.stack c.end.new.self) c.self.view_is
    (same_payload v.stack c.end.new.self c.in-Err.ensures.err)
