use Rattle.std.proofs.Common.{rules}
use Rattle.text_model.specs.Script.{deliver}
use Rattle.text_model.specs.CommandReading.{deliver_in}
use Rattle.trace_script.proofs.orders.deliver_in.Goals as goal

-- memory was refused to a delivery without a fault
pub returns-in_default : goal.returns-in_default
unfolding deliver_in
returns-in_default c =
    (deliver c.in_ok-collector.collector c.in_ok-cpu.cpu.0 c.in_ok-fill.fill, search rules)
