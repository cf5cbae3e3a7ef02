use Rattle.command_line.proofs.given.given_call.Goals as goal

pub returns-in-Ok-clause-words : goal.returns-in-Ok-clause-words
returns-in-Ok-clause-words c = rw c.in-Ok.is (rw c.as_slice.ensures.value at c.call_of.ensures.call)
