use Rattle.ring_steps.specs.NewRings.{first_writing, first_reading}
use Rattle.ring_steps.proofs.FirstSteps.{tail_taken}
use Rattle.ring_steps.proofs.making.take_tail.Goals as goal

pub load-requires-clause-allowed : goal.load-requires-clause-allowed
load-requires-clause-allowed c =
    tail_taken c.args.shape (first_writing c.args.shape) (first_reading c.args.shape) _ _ _ c.requires.seat
