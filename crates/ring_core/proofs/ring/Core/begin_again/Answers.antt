use Rattle.std.proofs.Common.{sym, subst}
use Rattle.trace_model.specs.Steps.{steps}
use Rattle.ring_frames.specs.Phases.{as_answer}
use Rattle.ring_core.specs.Value.{CoreValue}
use Rattle.ring_core.specs.Inside.{core_of}
use Rattle.ring_core.specs.Steps.{IsReachedCore, IsLate, MakesStep}
use Rattle.ring_core.proofs.Privately.{made_privately}
use Rattle.ring_core.proofs.ring.Core.begin_again.Goals as goal

pub begin_again-requires-clause-shown : goal.begin_again-requires-clause-shown
unfolding IsReachedCore
begin_again-requires-clause-shown c =
    let (n, size, start, m, core) = subst IsReachedCore (sym c.self.view_is) c.requires.ring in
    (n, size, start, m, core.shows.frames)

pub begin_again-requires-clause-passed : goal.begin_again-requires-clause-passed
begin_again-requires-clause-passed c =
    let (noted, is, passed, own) = subst IsLate (sym c.self.view_is) c.requires.late in
    (noted, is, passed)

pub returns-clause-makes : goal.returns-clause-makes
returns-clause-makes c =
    let (noted, is, passed, own) = subst IsLate (sym c.self.view_is) c.requires.late in
    subst
    (λ (x : CoreValue).
    MakesStep x steps (as_answer c.begin_again.result)
    (core_of record c.self.inside { frames = c.begin_again.new.self })) c.self.view_is
    (made_privately (core_of c.self.inside) steps (as_answer c.begin_again.result) c.begin_again.new.self
    (c.begin_again.ensures.late own))
