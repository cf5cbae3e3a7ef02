use Rattle.std.specs.Prelude.{Result, Ok, Err, OnOk}
use Rattle.std.proofs.Common.{arith}
use Rattle.trace_run.proofs.Passed.{whole_forward}
use Rattle.trace_run.proofs.writers.writer.LineWriter.write.Goals as goal

on_ok : {A E P : Type 0} (result : Result A E) → P → OnOk result P
on_ok (Ok a) p = p
on_ok (Err e) p = tt

pub returns-clause-line : goal.returns-clause-line
returns-clause-line g c = on_ok c.pass_closed.result c.write_whole.ensures

pub pass_closed-requires-clause-forward : goal.pass_closed-requires-clause-forward
pass_closed-requires-clause-forward g c κs within =
    let was = c.done-done.ensures.part c.requires.writer in
    let rises =
    whole_forward c.args.moment c.args.payload.now c.args.self.now c.write_whole.new.self c.write_whole.ensures in
    omega (arith, was, rises)
