use Rattle.std.proofs.Common.{sym, subst}
use Rattle.trace_model.specs.Steps.{pushes}
use Rattle.ring_core.specs.Value.{CoreValue}
use Rattle.ring_core.specs.Inside.{core_of}
use Rattle.ring_core.specs.Steps.{IsReachedCore, MakesStep}
use Rattle.ring_core.proofs.Privately.{made_privately}
use Rattle.ring_core.proofs.ring.Core.push.Goals as goal

pub push-requires : goal.push-requires
unfolding IsReachedCore
push-requires c = let (n, size, start, m, core) = subst IsReachedCore (sym c.self.view_is) c.requires.ring in
    record { shown = (n, size, start, m, core.shows.frames) }

pub returns-clause-makes : goal.returns-clause-makes
returns-clause-makes c =
    subst
    (λ (x : CoreValue).
    MakesStep x (pushes c.args.moment c.args.len) c.push.result
    (core_of record c.self.inside { frames = c.push.new.self })) c.self.view_is
    (made_privately (core_of c.self.inside) (pushes c.args.moment c.args.len) c.push.result c.push.new.self
    c.push.ensures.step)
