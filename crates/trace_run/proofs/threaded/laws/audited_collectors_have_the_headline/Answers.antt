use Rattle.trace_run.specs.ledgers.Audit.{taken_in}
use Rattle.trace_run.proofs.Sums.{is_sum, headline}
use Rattle.trace_run.proofs.threaded.laws.audited_collectors_have_the_headline.Goals as goal

pub returns : goal.returns
returns c = λ script ran run kept audited.
    let taken = taken_in ran.ledgers.items in
    headline script.pages script.size script.start run.rings ran.ledgers.items run.are_of_rings kept
    (is_sum kept taken audited)
