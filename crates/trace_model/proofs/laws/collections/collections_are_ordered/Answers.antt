use Rattle.trace_model.proofs.collections.Collections.{below_itself, below_below, below_both, same_itself, same_back}
use Rattle.trace_model.proofs.collections.Collections.{same_same}
use Rattle.trace_model.proofs.laws.collections.collections_are_ordered.Goals as goal

pub returns : goal.returns
returns c = assumption (below_itself, below_below, below_both, same_itself, same_back, same_same)
