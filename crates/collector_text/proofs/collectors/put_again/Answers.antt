use Rattle.std.proofs.Common.{arith}
use Rattle.std.proofs.lemmas.Grind.{common_steps}
use Rattle.collector_text.proofs.collectors.put_again.Goals as goal

put : goal.returns-clause-text
put c =
    grind (arith, common_steps)

pub returns-clause-text : goal.returns-clause-text
returns-clause-text c = put c

pub returns-clause-behind : goal.returns-clause-behind
returns-clause-behind c = (_, put c)
