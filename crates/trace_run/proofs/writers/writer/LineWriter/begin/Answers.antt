use Rattle.trace_run.proofs.LineRuns.{begun}
use Rattle.trace_run.proofs.writers.writer.LineWriter.begin.Goals as goal

pub returns-clause-line : goal.returns-clause-line
returns-clause-line c =
    begun c.args.cpu.0 c.args.moment c.args.payload.now c.args.self.now c.push-pushed.new.self c.push-pushed.result
    c.push-pushed.ensures

pub returns-clause-done : goal.returns-clause-done
returns-clause-done c = c.push-pushed.ensures.done_is
