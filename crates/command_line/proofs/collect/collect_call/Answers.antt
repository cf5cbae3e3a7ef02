use Rattle.std.proofs.Common.{sym, ◌∙◌, inr}
use Rattle.command_line.specs.Calls.{asked_of}
use Rattle.command_line.proofs.collect.collect_call.Goals as goal

pub returns-clause-unread : goal.returns-clause-unread
returns-clause-unread c = λ _.
    inr (
      asked_of c.in_ok-call.call,
      c.in_ok-call.ensures.asked,
      sym c.goes_together.ensures ∙ c.if-goes_together.false,
    )
