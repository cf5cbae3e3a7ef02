use Rattle.std.proofs.Common.{map}
use Rattle.std.proofs.lemmas.Result.{err_from_is_err_and}
use Rattle.trace_dat.specs.Contents.{buffer_seen}
use Rattle.trace_dat.specs.Entries.{option_seen}
use Rattle.trace_dat.specs.Buffers.{buffer_of}
use Rattle.trace_dat.proofs.EachLoop.{each_goes_on, each_fails, each_is_done}
use Rattle.trace_dat.proofs.buffers.put_buffers.Goals as goal

pub returns-in_err-put_buffer_of : goal.returns-in_err-put_buffer_of
returns-in_err-put_buffer_of c =
    let p = err_from_is_err_and c.from_residual.result c.from_residual.ensures.1 in
    rw (p.1, p.2)
    (each_fails option_seen (buffer_of c.args.file.now) (map buffer_seen c.loop-option.buffers.items)
    c.args.options.now
    c.loop-option.option-index c.option-item.result c.in_err-put_buffer_of.field-0.0 _ c.loop-option-test.true
    c.option-item.is
    c.in_err-put_buffer_of.ensures c.loop-option.invariant)

pub loop-option-preserved : goal.loop-option-preserved
loop-option-preserved c =
    each_goes_on option_seen (buffer_of c.args.file.now) (map buffer_seen c.loop-option.buffers.items) _
    c.args.options.now
    c.loop-option.option-index c.option-item.result _ c.loop-option-test.true c.option-item.is
    c.in_ok-put_buffer_of.ensures
    c.loop-option.invariant

pub returns : goal.returns
returns c =
    each_is_done option_seen (buffer_of c.args.file.now) (map buffer_seen c.loop-option.buffers.items)
    c.args.options.now
    c.loop-option.option-index _ c.loop-option-test.false c.loop-option.invariant
