use Rattle.trace_model.proofs.collections.Collections.{below_more, same_parcels, repeated, joined_commutes}
use Rattle.trace_model.proofs.collections.Collections.{joined_regrouped, joined_twice, same_joined}
use Rattle.trace_model.proofs.collections.Joined.{below_agrees}
use Rattle.trace_model.proofs.laws.collections.order_and_repeats_change_nothing.Goals as goal

pub returns : goal.returns
returns c =
    assumption
    (below_more, same_parcels, repeated, joined_commutes, joined_regrouped, joined_twice, same_joined, below_agrees)
