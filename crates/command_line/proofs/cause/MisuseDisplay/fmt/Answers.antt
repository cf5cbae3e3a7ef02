use Rattle.command_line.proofs.cause.MisuseDisplay.fmt.Goals as goal

pub returns-in-BadValue-clause-writes : goal.returns-in-BadValue-clause-writes
returns-in-BadValue-clause-writes g c = λ plain ok.
    rw (c.in-BadValue.is, ← c.needed_by.ensures) (c.write-in-BadValue.ensures.writes plain ok)

pub returns-in-BadCpu-clause-writes : goal.returns-in-BadCpu-clause-writes
returns-in-BadCpu-clause-writes g c = λ plain ok. rw c.in-BadCpu.is (c.write-in-BadCpu.ensures.writes plain ok)
