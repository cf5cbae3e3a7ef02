use Rattle.std.proofs.Common.{map}
use Rattle.std.proofs.lemmas.Result.{err_from_is_err_and}
use Rattle.trace_dat.specs.Parts.{seen}
use Rattle.trace_dat.specs.Contents.{recorded_seen}
use Rattle.trace_dat.specs.Buffers.{pages_at}
use Rattle.trace_dat.proofs.Loops.{goes_on, ends, is_done}
use Rattle.trace_dat.proofs.buffers.pages_in_order.Goals as goal

pub returns-in_err-rest : goal.returns-in_err-rest
returns-in_err-rest c =
    let p = err_from_is_err_and c.from_residual.result c.from_residual.ensures.1 in
    rw (p.1, p.2)
    (ends (pages_at c.args.file.now) (map recorded_seen c.loop-cpu.cpus.items) c.args.count c.loop-cpu.cpu
    (seen c.loop-cpu.rest)
    c.in_err-rest.field-0.0 _ c.loop-cpu-test.true c.in_err-rest.ensures c.loop-cpu.invariant)

pub loop-cpu-preserved : goal.loop-cpu-preserved
loop-cpu-preserved c =
    goes_on (pages_at c.args.file.now) (map recorded_seen c.loop-cpu.cpus.items) _ c.args.count c.loop-cpu.cpu
    (seen c.loop-cpu.rest)
    (seen c.in_ok-rest.rest) _ c.loop-cpu-test.true c.in_ok-rest.ensures c.loop-cpu.invariant

pub returns : goal.returns
returns c =
    is_done (pages_at c.args.file.now) (map recorded_seen c.loop-cpu.cpus.items) c.args.count c.loop-cpu.cpu
    (seen c.loop-cpu.rest) _
    c.loop-cpu-test.false c.loop-cpu.invariant
