use Rattle.std.proofs.Common.{ap}
use Rattle.trace_run.specs.threaded.Threads.{RunningValue}
use Rattle.trace_run.proofs.Completed.{is_passed}
use Rattle.trace_run.proofs.threaded.threads.complete.Goals as goal

pub returns-in-Ok-clause-ledger : goal.returns-in-Ok-clause-ledger
returns-in-Ok-clause-ledger g c =
    is_passed g.G.Gate.answers c.args.running c.args.gate.now c.running.inside.cpu.0
    (c.in_ok-writer.writer, c.in_ok-writer.reader) c.in_ok-writer.ensures.joined c.requires.gate
    (ap (λ (r : RunningValue g.row.G.Denot). r.cpu) c.running.view_is) c.in-Ok.ledger c.in_ok-writer.ensures.passed
    c.in-Ok.ensures.ledger c.in-Ok.ensures.writer c.in-Ok.ensures.passed
