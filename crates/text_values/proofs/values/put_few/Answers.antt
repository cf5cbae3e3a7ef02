use Rattle.text_values.proofs.Behind.{behind_behind}
use Rattle.text_values.proofs.values.put_few.Goals as goal

pub returns-in-len4-up-clause-behind : goal.returns-in-len4-up-clause-behind
returns-in-len4-up-clause-behind c =
    behind_behind c.args.out.now.items c.extend_from_slice.new.self.items c.put_each.new.out.items
    (_, c.in_ok-extend_from_slice.ensures.items) c.put_each.ensures.behind

pub returns-clause-text : goal.returns-clause-text
returns-clause-text c = c.put_each-2.ensures.text

pub returns-clause-behind : goal.returns-clause-behind
returns-clause-behind c = c.put_each-2.ensures.behind
