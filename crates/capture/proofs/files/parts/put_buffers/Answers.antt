use Rattle.std.proofs.Common.{map}
use Rattle.std.proofs.lemmas.Result.{err_from_is_err_and}
use Rattle.trace_dat.specs.Contents.{buffer_seen}
use Rattle.capture.specs.files.Files.{parts_of_buffer}
use Rattle.capture.specs.files.Giving.{part_seen}
use Rattle.capture.proofs.EachLoop.{each_goes_on, each_fails, each_is_done}
use Rattle.capture.proofs.files.parts.put_buffers.Goals as goal

pub returns-in_err-put_buffer : goal.returns-in_err-put_buffer
returns-in_err-put_buffer c =
    let p = err_from_is_err_and c.from_residual.result c.from_residual.ensures.1 in
    rw (p.1, p.2) (each_fails buffer_seen (parts_of_buffer c.args.name.now)
    (map part_seen c.loop-buffer.parts.items) c.args.buffers.now
    c.loop-buffer.buffer-index c.buffer-item.result c.in_err-put_buffer.field-0.0 _ c.loop-buffer-test.true
    c.buffer-item.is
    c.in_err-put_buffer.ensures c.loop-buffer.invariant)

pub loop-buffer-preserved : goal.loop-buffer-preserved
loop-buffer-preserved c =
    each_goes_on buffer_seen (parts_of_buffer c.args.name.now)
    (map part_seen c.loop-buffer.parts.items) _ c.args.buffers.now
    c.loop-buffer.buffer-index c.buffer-item.result _ c.loop-buffer-test.true c.buffer-item.is
    c.in_ok-put_buffer.ensures
    c.loop-buffer.invariant

pub returns : goal.returns
returns c =
    each_is_done buffer_seen (parts_of_buffer c.args.name.now)
    (map part_seen c.loop-buffer.parts.items) c.args.buffers.now
    c.loop-buffer.buffer-index _ c.loop-buffer-test.false c.loop-buffer.invariant
