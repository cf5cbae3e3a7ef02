use Rattle.text_values.proofs.Behind.{behind_behind}
use Rattle.collector_text.proofs.lines.put_each.Goals as goal

pub returns-in_err-put_line-clause-behind : goal.returns-in_err-put_line-clause-behind
returns-in_err-put_line-clause-behind c =
    behind_behind _ _ _ c.loop-line.invariant.behind c.put_line.ensures.behind

pub returns-clause-behind : goal.returns-clause-behind
returns-clause-behind c = c.loop-line.invariant.behind
