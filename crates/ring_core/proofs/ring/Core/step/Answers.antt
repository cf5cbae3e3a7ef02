use Rattle.ring_core.proofs.Stepped.{ring_behind, size_behind, whole_page}
use Rattle.ring_core.specs.Steps.{IsReachedCore}
use Rattle.ring_core.proofs.ring.Core.step.Goals as goal

pub returns-clause-ring : goal.returns-clause-ring
unfolding IsReachedCore
returns-clause-ring c = ring_behind _ _ _ _ c.requires.ring c.obey.ensures.step

pub returns-clause-size : goal.returns-clause-size
unfolding IsReachedCore
returns-clause-size c = size_behind _ _ _ _ c.requires.ring c.obey.ensures.step

pub returns-clause-page : goal.returns-clause-page
unfolding IsReachedCore
returns-clause-page c = whole_page _ _ _ _ c.requires.ring c.obey.ensures.step
