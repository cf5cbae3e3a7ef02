use Rattle.std.proofs.lemmas.Result.{err_from_is_err_and}
use Rattle.std.proofs.Common.{suc}
use Rattle.trace_run.proofs.LinesMade.{rest_none, rest_more}
use Rattle.trace_run.proofs.Passed.{asks_none, asks_then}
use Rattle.trace_run.proofs.writers.writer.LineWriter.finish_rest.Goals as goal

pub loop-cpu-init : goal.loop-cpu-init
loop-cpu-init g c = (
  (0, rest_none c.args.self.now c.requires),
  asks_none g.G.Gate.answers c.args.gate.now c.args.cpu.0 c.args.self.now c.requires,
)

pub loop-cpu-preserved : goal.loop-cpu-preserved
loop-cpu-preserved g c = (
  (
    suc c.loop-cpu.invariant.0.0,
    rest_more c.args.self.now c.loop-cpu.self c.finish.new.self c.loop-cpu.invariant.0.0
        c.args.cpu.0 c.loop-cpu.invariant.0.1 c.in_ok-finish.ensures.line,
  ),
  asks_then g.G.Gate.answers c.args.gate.now c.args.cpu.0 c.args.self.now c.loop-cpu.self c.finish.new.self _
      c.loop-cpu.invariant.1 c.in_ok-finish.ensures.gate,
)

pub returns-in_err-finish-clause-gate : goal.returns-in_err-finish-clause-gate
returns-in_err-finish-clause-gate g c =
    let p = err_from_is_err_and c.from_residual.result c.from_residual.ensures.1 in
    rw (p.1, p.2)
    (asks_then g.G.Gate.answers c.args.gate.now c.args.cpu.0 c.args.self.now c.loop-cpu.self c.finish.new.self _
    c.loop-cpu.invariant.1 c.in_err-finish.ensures.gate)
