-- The line's parts are joined one after the other.
use Rattle.step_text.proofs.Joined.{join_five}
use Rattle.step_text.proofs.step_line.put_step_line.Goals as goal

pub returns : goal.returns
returns c size before after event reported known asked answers links =
    join_five _ _ _ _ _ _ _ _ _ _ _ c.in_ok-put_front.ensures.text
    (c.in_ok-put_done.ensures before event known.parts asked)
    (c.in_ok-put_answer.ensures size reported answers)
    (c.in_ok-put_exchange.ensures before after event known asked links)
    c.in_ok-push.ensures.items
