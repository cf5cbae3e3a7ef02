use Rattle.std.proofs.Common.{rules, sym, subst}
use Rattle.trace_model.specs.Steps.{steps}
use Rattle.ring_frames.specs.Phases.{as_answer}
use Rattle.ring_core.specs.Value.{CoreValue}
use Rattle.ring_core.specs.Inside.{core_of}
use Rattle.ring_core.specs.Steps.{IsReachedCore, MakesStep}
use Rattle.ring_core.proofs.Privately.{looked_for_wish}
use Rattle.ring_core.proofs.ring.Core.load_wish.Goals as goal

pub load_wish-requires : goal.load_wish-requires
unfolding IsReachedCore
load_wish-requires c = record {
  frames = let (n, size, start, m, core) = subst IsReachedCore (sym c.self.view_is) c.requires.ring in
      (n, size, start, m, record { reached = core.reached; are = core.shows.frames });
  top = search rules;
  phase = search rules;
}

pub returns-clause-makes : goal.returns-clause-makes
returns-clause-makes c =
    subst
    (λ (x : CoreValue).
    MakesStep x steps (as_answer c.load_wish.result)
    (core_of record c.self.inside { frames = c.load_wish.new.self })) c.self.view_is
    (looked_for_wish (core_of c.self.inside) (as_answer c.load_wish.result) c.load_wish.new.self
    c.load_wish.ensures.looks)
