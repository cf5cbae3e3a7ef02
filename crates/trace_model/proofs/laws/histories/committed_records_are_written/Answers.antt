use Rattle.trace_model.proofs.histories.CommittedWritten.{committed-IsWritten}
use Rattle.trace_model.proofs.laws.histories.committed_records_are_written.Goals as goal

pub returns : goal.returns
returns c = committed-IsWritten
