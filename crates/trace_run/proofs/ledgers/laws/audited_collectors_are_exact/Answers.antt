use Rattle.trace_run.specs.ledgers.Audit.{taken_in}
use Rattle.trace_run.proofs.Sums.{is_sum, headline}
use Rattle.trace_run.proofs.ledgers.laws.audited_collectors_are_exact.Goals as goal

pub returns : goal.returns
returns c = λ n size start cores ledgers kept rings audited.
    headline n size start cores ledgers rings kept (is_sum kept (taken_in ledgers) audited)
