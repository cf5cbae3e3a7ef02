use Rattle.trace_script.proofs.ScriptLemmas.{puts_numbered}
use Rattle.trace_script.proofs.read.order_at.Goals as goal

pub returns : goal.returns
returns c =
    puts_numbered c.args.line.number c.order_in-order.result c.reading_at.result _ _ _ c.order_in-order.ensures
    c.reading_at.ensures
