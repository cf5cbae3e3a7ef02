use Rattle.std.proofs.Common.{refl, sym, subst}
use Rattle.ring_frames.specs.Value.{FramesValue}
use Rattle.ring_frames.specs.Inside.{frames_in}
use Rattle.ring_frames.specs.AreFrames.{AreFrames}
use Rattle.ring_frames.proofs.Pushes.{close_pushed, close_refused, same_fault, not_pushed}
use Rattle.ring_frames.proofs.Payloads.{same_stack, pushed_kept, kept_called}
use Rattle.ring_frames.proofs.frames.Frames.push_close.Goals as goal

pub returns-in-Ok-clause-step : goal.returns-in-Ok-clause-step
returns-in-Ok-clause-step c = λ n size start s reached now.
    let are : AreFrames n size start (frames_in c.self.inside) s =
    subst (λ (x : FramesValue). AreFrames n size start x s) (sym c.self.view_is) now in
    rw (c.push_phase.ensures.pushed, c.push_phase.ensures.phase)
    (close_pushed n size start (frames_in c.self.inside) s c.begin_close.new.self are (c.in-Ok.ensures.begun.0 refl)
    c.in-Ok.ensures.ok (c.in-Ok.ensures.pushed start s.history are.stack_is))

pub returns-in-Err-clause-step : goal.returns-in-Err-clause-step
returns-in-Err-clause-step c = λ n size start s reached now.
    let are : AreFrames n size start (frames_in c.self.inside) s =
    subst (λ (x : FramesValue). AreFrames n size start x s) (sym c.self.view_is) now in
    rw c.in-Err.ensures.err
    (close_refused n size start (frames_in c.self.inside) s c.in-Err.fault are
    (λ many. same_fault (c.in-Err.ensures.too_deep.1 many))
    (λ few. not_pushed (c.in-Err.ensures.begun.1 few)))

-- ---- payloads

pub returns-in-Ok-clause-payloads : goal.returns-in-Ok-clause-payloads
returns-in-Ok-clause-payloads c =
    rw c.push_phase.ensures.phase
    (kept_called c.self.view_is c.begin_close.new.self
    (pushed_kept (frames_in c.self.inside).stack _ _ c.in-Ok.ensures.ok))

pub returns-in-Err-clause-payloads : goal.returns-in-Err-clause-payloads
returns-in-Err-clause-payloads c =
    kept_called c.self.view_is c.begin_close.new.self
    (same_stack (frames_in c.self.inside).stack _ c.in-Err.ensures.err)
