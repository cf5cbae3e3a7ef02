use Rattle.stream_collector.proofs.MergeLaws.{records_merged, missing_merged}
use Rattle.stream_collector.proofs.laws.merging_is_the_union.Goals as goal

pub returns-clause-records : goal.returns-clause-records
returns-clause-records c = records_merged

pub returns-clause-missing : goal.returns-clause-missing
returns-clause-missing c = missing_merged
