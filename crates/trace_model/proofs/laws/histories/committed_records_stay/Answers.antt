use Rattle.trace_model.proofs.histories.Committed.{committed_prefix}
use Rattle.trace_model.proofs.laws.histories.committed_records_stay.Goals as goal

pub returns : goal.returns
returns c = record { stay = λ h. (committed_prefix h).agrees }
