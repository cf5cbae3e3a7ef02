use Rattle.std.proofs.Common.{sym, subst}
use Rattle.trace_model.specs.Steps.{steps}
use Rattle.ring_frames.specs.Answers.{ZerosSlot}
use Rattle.ring_core.specs.Value.{CoreValue}
use Rattle.ring_core.specs.Inside.{core_of}
use Rattle.ring_core.specs.Steps.{IsReachedCore, MakesStep}
use Rattle.ring_core.proofs.Privately.{made_privately}
use Rattle.ring_core.proofs.ring.Core.reserve.Goals as goal

pub reserve-requires-clause-frames : goal.reserve-requires-clause-frames
unfolding IsReachedCore
reserve-requires-clause-frames c =
    let (n, size, start, m, core) = subst IsReachedCore (sym c.self.view_is) c.requires.ring in
    (n, size, start, m, record { reached = core.reached; are = core.shows.frames })

pub returns-clause-makes : goal.returns-clause-makes
returns-clause-makes c =
    subst
    (λ (x : CoreValue).
    MakesStep x steps c.reserve.result (core_of record c.self.inside { frames = c.reserve.new.self }))
    c.self.view_is
    (made_privately (core_of c.self.inside) steps c.reserve.result c.reserve.new.self c.reserve.ensures.step)

pub returns-clause-zeros : goal.returns-clause-zeros
returns-clause-zeros c =
    subst (λ (x : CoreValue). ZerosSlot x.stack c.reserve.result c.reserve.new.self.stack) c.self.view_is
    c.reserve.ensures.zeros
