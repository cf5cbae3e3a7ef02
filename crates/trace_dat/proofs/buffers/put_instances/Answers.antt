use Rattle.std.proofs.Common.{map}
use Rattle.std.proofs.lemmas.Result.{err_from_is_err_and}
use Rattle.trace_dat.specs.Contents.{buffer_seen}
use Rattle.trace_dat.specs.Entries.{option_seen}
use Rattle.trace_dat.specs.Buffers.{instance_of}
use Rattle.trace_dat.proofs.EachLoop.{each_goes_on, each_fails, each_is_done}
use Rattle.trace_dat.proofs.buffers.put_instances.Goals as goal

pub returns-in_err-put_instance : goal.returns-in_err-put_instance
returns-in_err-put_instance c =
    let p = err_from_is_err_and c.from_residual.result c.from_residual.ensures.1 in
    rw (p.1, p.2)
    (each_fails option_seen (instance_of c.args.file.now c.args.shape.page_size c.args.shape.cpus)
    (map buffer_seen c.loop-option.buffers.items) c.args.options.now
    c.loop-option.option-index c.option-item.result c.in_err-put_instance.field-0.0 _ c.loop-option-test.true
    c.option-item.is
    c.in_err-put_instance.ensures c.loop-option.invariant)

pub loop-option-preserved : goal.loop-option-preserved
loop-option-preserved c =
    each_goes_on option_seen (instance_of c.args.file.now c.args.shape.page_size c.args.shape.cpus)
    (map buffer_seen c.loop-option.buffers.items) _ c.args.options.now
    c.loop-option.option-index c.option-item.result _ c.loop-option-test.true c.option-item.is
    c.in_ok-put_instance.ensures
    c.loop-option.invariant

pub returns : goal.returns
returns c =
    each_is_done option_seen (instance_of c.args.file.now c.args.shape.page_size c.args.shape.cpus)
    (map buffer_seen c.loop-option.buffers.items) c.args.options.now
    c.loop-option.option-index _ c.loop-option-test.false c.loop-option.invariant
