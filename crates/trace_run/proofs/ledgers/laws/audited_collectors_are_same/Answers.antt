use Rattle.trace_run.proofs.Sums.{is_sum, are_same}
use Rattle.trace_run.proofs.ledgers.laws.audited_collectors_are_same.Goals as goal

pub returns : goal.returns
returns c = record { sum = is_sum; same = are_same }
