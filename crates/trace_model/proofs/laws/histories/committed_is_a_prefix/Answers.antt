use Rattle.trace_model.proofs.histories.HistoryPrefixes.{settled_records_prefix}
use Rattle.trace_model.proofs.laws.histories.committed_is_a_prefix.Goals as goal

pub returns : goal.returns
returns c = settled_records_prefix
