use Rattle.std.proofs.Common.{sym, subst}
use Rattle.trace_model.specs.Steps.{ends}
use Rattle.ring_frames.specs.Answers.{top_bytes}
use Rattle.ring_core.specs.Value.{CoreValue}
use Rattle.ring_core.specs.Inside.{core_of}
use Rattle.ring_core.specs.Steps.{IsReachedCore, MakesStep}
use Rattle.ring_core.proofs.Privately.{made_privately}
use Rattle.ring_core.proofs.ring.Core.end.Goals as goal

pub end-requires : goal.end-requires
unfolding IsReachedCore
end-requires c = let (n, size, start, m, core) = subst IsReachedCore (sym c.self.view_is) c.requires.ring in
    record { shown = (n, size, start, m, core.shows.frames) }

pub returns-clause-makes : goal.returns-clause-makes
returns-clause-makes c =
    subst
    (λ (x : CoreValue).
    MakesStep x (ends (top_bytes x.stack x.stack.frames)) c.end.result
    (core_of record c.self.inside { frames = c.end.new.self })) c.self.view_is
    (made_privately (core_of c.self.inside)
    (ends (top_bytes c.self.inside.frames.stack c.self.inside.frames.stack.frames)) c.end.result c.end.new.self
    c.end.ensures.step)
