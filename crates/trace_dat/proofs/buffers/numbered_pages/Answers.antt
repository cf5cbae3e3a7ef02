use Rattle.std.proofs.Common.{map}
use Rattle.std.proofs.lemmas.Result.{err_from_is_err_and}
use Rattle.trace_dat.specs.Parts.{seen}
use Rattle.trace_dat.specs.Contents.{recorded_seen}
use Rattle.trace_dat.specs.Buffers.{numbered_pages_at}
use Rattle.trace_dat.proofs.Loops.{goes_on, ends, is_done}
use Rattle.trace_dat.proofs.buffers.numbered_pages.Goals as goal

pub returns-in_err-rest : goal.returns-in_err-rest
returns-in_err-rest c =
    let p = err_from_is_err_and c.from_residual.result c.from_residual.ensures.1 in
    rw (p.1, p.2)
    (ends (λ _. numbered_pages_at c.args.file.now) (map recorded_seen c.loop.cpus.items) c.args.count c.loop.counter
    (seen c.loop.rest)
    c.in_err-rest.field-0.0 _ c.loop-test.true c.in_err-rest.ensures c.loop.invariant)

pub loop-preserved : goal.loop-preserved
loop-preserved c =
    goes_on (λ _. numbered_pages_at c.args.file.now) (map recorded_seen c.loop.cpus.items) _ c.args.count c.loop.counter
    (seen c.loop.rest)
    (seen c.in_ok-rest.rest) _ c.loop-test.true c.in_ok-rest.ensures c.loop.invariant

pub returns : goal.returns
returns c =
    is_done (λ _. numbered_pages_at c.args.file.now) (map recorded_seen c.loop.cpus.items) c.args.count c.loop.counter
    (seen c.loop.rest) _
    c.loop-test.false c.loop.invariant
