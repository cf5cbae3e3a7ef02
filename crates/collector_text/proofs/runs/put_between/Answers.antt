use Rattle.collector_text.proofs.Pieces.{three_put}
use Rattle.collector_text.proofs.runs.put_between.Goals as goal

put : goal.returns-clause-text
put c =
    three_put _ _ _ _ _ _ _ c.in_ok-extend_from_slice.ensures.items c.in_ok-put_number.ensures.text
    c.in_ok-extend_from_slice-2.ensures.items

pub returns-clause-text : goal.returns-clause-text
returns-clause-text c = put c

pub returns-clause-behind : goal.returns-clause-behind
returns-clause-behind c = (_, put c)
