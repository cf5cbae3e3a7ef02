use Rattle.ring_shared.proofs.WholeAppends.{writers_have_histories}
use Rattle.ring_shared.proofs.laws.writers_have_histories.Goals as goal

pub returns : goal.returns
returns c = writers_have_histories
