use Rattle.std.proofs.Common.{ap, ◌∙◌}
use Rattle.text_model.specs.Script.{command_of}
use Rattle.trace_script.specs.declared.fields.Fields.{Fields}
use Rattle.trace_script.specs.ScriptFields.{fields_seen}
use Rattle.trace_script.proofs.OrderLemmas.{no_fields}
use Rattle.trace_script.proofs.orders.order_of.Goals as goal

pub returns-in-One : goal.returns-in-One
returns-in-One c =
    ap (λ (fields : Fields). command_of c.args.cpus c.args.collectors (fields_seen fields)) c.in-One.is
    ∙ no_fields c.args.cpus c.args.collectors
