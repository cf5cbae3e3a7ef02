use Rattle.std.proofs.Common.{map}
use Rattle.std.proofs.lemmas.Result.{err_from_is_err_and}
use Rattle.trace_dat.specs.Contents.{recorded_seen}
use Rattle.capture.specs.files.Files.{part_of}
use Rattle.capture.specs.files.Giving.{part_seen}
use Rattle.capture.proofs.EachLoop.{each_goes_on_at, each_fails_at, each_is_done}
use Rattle.capture.proofs.files.parts.put_parts.Goals as goal

pub returns-in_err-put_part : goal.returns-in_err-put_part
returns-in_err-put_part c =
    let p = err_from_is_err_and c.from_residual.result c.from_residual.ensures.1 in
    rw (p.1, p.2)
    (each_fails_at recorded_seen (part_of c.args.size.bytes) (map part_seen c.loop-recorded.parts.items)
    c.args.cpus.now
    c.loop-recorded.recorded-index _ c.in_err-put_part.field-0.0 _ c.loop-recorded-test.true
    c.in_err-put_part.ensures c.loop-recorded.invariant)

pub loop-recorded-preserved : goal.loop-recorded-preserved
loop-recorded-preserved c =
    each_goes_on_at recorded_seen (part_of c.args.size.bytes) (map part_seen c.loop-recorded.parts.items) _
    c.args.cpus.now
    c.loop-recorded.recorded-index _ _ c.loop-recorded-test.true c.in_ok-put_part.ensures
    c.loop-recorded.invariant

pub returns : goal.returns
returns c =
    each_is_done recorded_seen (part_of c.args.size.bytes) (map part_seen c.loop-recorded.parts.items) c.args.cpus.now
    c.loop-recorded.recorded-index _ c.loop-recorded-test.false c.loop-recorded.invariant
