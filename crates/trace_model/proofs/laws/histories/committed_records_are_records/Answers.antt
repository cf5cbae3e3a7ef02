use Rattle.trace_model.proofs.histories.RecordsFill.{committed-IsRecord}
use Rattle.trace_model.proofs.laws.histories.committed_records_are_records.Goals as goal

pub returns : goal.returns
returns c = committed-IsRecord
