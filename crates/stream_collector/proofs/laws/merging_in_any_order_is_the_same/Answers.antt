use Rattle.stream_collector.proofs.MergeLaws.{merged_either_way, merged_regrouped, merged_with_itself}
use Rattle.stream_collector.proofs.laws.merging_in_any_order_is_the_same.Goals as goal

pub returns-clause-either_way : goal.returns-clause-either_way
returns-clause-either_way c = merged_either_way

pub returns-clause-regrouped : goal.returns-clause-regrouped
returns-clause-regrouped c = merged_regrouped

pub returns-clause-itself : goal.returns-clause-itself
returns-clause-itself c = merged_with_itself
