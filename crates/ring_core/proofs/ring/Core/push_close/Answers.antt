use Rattle.std.proofs.Common.{sym, subst}
use Rattle.trace_model.specs.Steps.{pushes_close}
use Rattle.ring_core.specs.Value.{CoreValue}
use Rattle.ring_core.specs.Inside.{core_of}
use Rattle.ring_core.specs.Steps.{IsReachedCore, MakesStep}
use Rattle.ring_core.proofs.Privately.{made_privately}
use Rattle.ring_core.proofs.ring.Core.push_close.Goals as goal

pub push_close-requires : goal.push_close-requires
unfolding IsReachedCore
push_close-requires c = let (n, size, start, m, core) = subst IsReachedCore (sym c.self.view_is) c.requires.ring in
    record { shown = (n, size, start, m, core.shows.frames) }

pub returns-clause-makes : goal.returns-clause-makes
returns-clause-makes c =
    subst
    (λ (x : CoreValue).
    MakesStep x pushes_close c.push_close.result
    (core_of record c.self.inside { frames = c.push_close.new.self })) c.self.view_is
    (made_privately (core_of c.self.inside) pushes_close c.push_close.result c.push_close.new.self
    c.push_close.ensures.step)
