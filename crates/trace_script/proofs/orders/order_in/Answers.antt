use Rattle.trace_script.proofs.OrderLemmas.{order_stands}
use Rattle.trace_script.proofs.orders.order_in.Goals as goal

pub returns-in-Ok : goal.returns-in-Ok
returns-in-Ok c =
    order_stands c.args.cpus c.args.collectors c.args.line.now c.fields_of-fields.result c.in-Ok.order _ _
    c.fields_of-fields.ensures c.in-Ok.ensures

pub returns-in-Err : goal.returns-in-Err
returns-in-Err c = c.fault_of.ensures c.args.cpus c.args.collectors c.in-Err.ensures
