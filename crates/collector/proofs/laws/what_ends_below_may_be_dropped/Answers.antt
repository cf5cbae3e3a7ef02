use Rattle.collector.proofs.Known.{dropped_from, filtered_from}
use Rattle.collector.proofs.laws.what_ends_below_may_be_dropped.Goals as goal

pub returns : goal.returns
returns c = record { dropped = dropped_from; filtered = filtered_from }
