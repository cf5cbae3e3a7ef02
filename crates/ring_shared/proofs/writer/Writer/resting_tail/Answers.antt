use Rattle.std.proofs.Common.{subst}
use Rattle.ring_shared.specs.Value.{WriterValue}
use Rattle.ring_shared.specs.Calls.{IsWriter}
use Rattle.ring_shared.proofs.RestingTail.{RestsByFrames, rests_there, numbers_there}
use Rattle.ring_shared.proofs.writer.Writer.resting_tail.Goals as goal

pub returns-clause-rests : goal.returns-clause-rests
unfolding IsWriter
returns-clause-rests c =
    rests_there c.args.self.now c.resting_tail.result.now c.requires.writer
    (subst (λ (v : WriterValue). RestsByFrames v c.resting_tail.result.now) c.self.view_is c.resting_tail.ensures.rests)

pub returns-clause-numbers_fit : goal.returns-clause-numbers_fit
unfolding IsWriter
returns-clause-numbers_fit c =
    numbers_there c.args.self.now c.resting_tail.result.now c.requires.writer
    (subst (λ (v : WriterValue). RestsByFrames v c.resting_tail.result.now) c.self.view_is c.resting_tail.ensures.rests)
