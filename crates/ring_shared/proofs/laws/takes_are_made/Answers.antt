use Rattle.ring_shared.proofs.TakenMade.{takes_made}
use Rattle.ring_shared.proofs.laws.takes_are_made.Goals as goal

pub returns : goal.returns
returns c = takes_made
