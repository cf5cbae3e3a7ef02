use Rattle.std.proofs.Common.{sym, ap, subst}
use Rattle.ring_frames.specs.declared.phase.Phase.{Phase}
use Rattle.ring_frames.specs.Value.{FramesValue}
use Rattle.ring_frames.specs.Inside.{frames_in}
use Rattle.ring_frames.specs.Steps.{GoesOnIn, IsNotedIn}
use Rattle.ring_frames.proofs.PhaseMoves.{goes_on}
use Rattle.ring_frames.proofs.frames.Frames.go_on.Goals as goal

pub returns-clause-goes_on : goal.returns-clause-goes_on
returns-clause-goes_on c = λ noted is.
    let v : FramesValue = frames_in c.self.inside in
    rw c.set.ensures
    (subst (λ (x : FramesValue). GoesOnIn x c.args.phase (record v { phase = c.args.phase })) c.self.view_is
    (goes_on v c.args.phase noted
    (subst (λ (p : Phase). IsNotedIn p c.args.phase noted) (sym (ap (λ (x : FramesValue). x.phase) c.self.view_is))
    is)))
