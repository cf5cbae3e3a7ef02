use Rattle.trace_script.proofs.UsualLemmas.{usual_next}
use Rattle.trace_script.proofs.read.next_order.Goals as goal

pub returns-in-Some-clause-next : goal.returns-in-Some-clause-next
returns-in-Some-clause-next c =
    usual_next c.args.cpus c.args.collectors _ _ _ _ _ _ c.in-Some.line c.in-Some.ensures c.pass_to.ensures.rest
    c.pass_to.ensures.passed
