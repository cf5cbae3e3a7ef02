use Rattle.trace_run.specs.ledgers.Audit.{taken_in}
use Rattle.run_command.proofs.Answered.{answered}
use Rattle.run_command.proofs.text.runs.answer_of.Goals as goal

pub returns : goal.returns
returns c = answered c.args.collector.now (taken_in c.args.ledgers.now) c.audit.result c.audit.ensures.audited
    c.audit.ensures.stray c.audit.ensures.lacks
