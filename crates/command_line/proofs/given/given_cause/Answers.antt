use Rattle.command_line.proofs.given.given_cause.Goals as goal

pub returns-in-Ok-clause-words : goal.returns-in-Ok-clause-words
returns-in-Ok-clause-words c = rw (c.in-Ok.is, ← c.as_slice.ensures.value) c.cause_of.ensures.cause
