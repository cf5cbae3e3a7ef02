use Rattle.std.proofs.Common.{[]}
use Rattle.std.proofs.lemmas.Result.{on_ok_weaker}
use Rattle.trace_model.specs.Steps.{pushes_close}
use Rattle.trace_run.proofs.LineRuns.{not_written, written}
use Rattle.trace_run.proofs.writers.writer.LineWriter.close.Goals as goal

pub returns-then-not-push_close-clause-line : goal.returns-then-not-push_close-clause-line
returns-then-not-push_close-clause-line g c =
    not_written pushes_close [] c.args.self.now c.push_close.new.self c.push_close.new.self c.push_close.result
    c.push_close.ensures c.if-not-push_close.true

pub returns-clause-line : goal.returns-clause-line
returns-clause-line g c =
    on_ok_weaker c.finish.result
    (λ f. written pushes_close [] c.args.self.now c.push_close.new.self c.finish.new.self c.push_close.result
    c.push_close.ensures c.args.cpu.0 c.if-not-push_close.false f)
    c.finish.ensures.line
