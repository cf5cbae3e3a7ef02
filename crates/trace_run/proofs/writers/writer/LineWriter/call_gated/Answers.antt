use Rattle.std.proofs.Common.{arith}
use Rattle.trace_run.proofs.Passed.{top_forward}
use Rattle.trace_run.proofs.writers.writer.LineWriter.call_gated.Goals as goal

pub pass_closed-requires-clause-forward : goal.pass_closed-requires-clause-forward
pass_closed-requires-clause-forward g c κs within =
    let was = c.done-done.ensures.part c.requires.is.writer in
    let rises = top_forward c.args.self.now c.call_top.new.self c.call_top.ensures in
    omega (arith, was, rises)
