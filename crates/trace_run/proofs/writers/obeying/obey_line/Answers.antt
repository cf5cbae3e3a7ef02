use Rattle.trace_run.proofs.Passed.{asks_nothing}
use Rattle.trace_run.proofs.writers.obeying.obey_line.Goals as goal

pub returns-in-Begin-clause-line : goal.returns-in-Begin-clause-line
returns-in-Begin-clause-line g c = rw c.in-Begin.is c.begin.ensures.line

pub returns-in-Step-clause-line : goal.returns-in-Step-clause-line
returns-in-Step-clause-line g c = rw c.in-Step.is c.step.ensures.line

pub returns-in-Finish-clause-line : goal.returns-in-Finish-clause-line
returns-in-Finish-clause-line g c = rw c.in-Finish.is c.finish.ensures.line

pub returns-in-Write-clause-line : goal.returns-in-Write-clause-line
returns-in-Write-clause-line g c = rw c.in-Write.is c.write.ensures.line

pub returns-in-Close-clause-line : goal.returns-in-Close-clause-line
returns-in-Close-clause-line g c = rw c.in-Close.is c.close.ensures.line

pub returns-in-Begin-clause-gate : goal.returns-in-Begin-clause-gate
returns-in-Begin-clause-gate g c =
    asks_nothing g.G.Gate.answers c.args.gate.now c.args.cpu.0 c.args.writer.now c.begin.new.self
    c.begin.ensures.line.is c.begin.ensures.line.same c.begin.ensures.done
