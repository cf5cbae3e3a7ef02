use Rattle.ring_shared.proofs.Settles.{tails_are_the_rest}
use Rattle.ring_shared.proofs.laws.tails_are_the_rest.Goals as goal

pub returns : goal.returns
returns c = tails_are_the_rest
