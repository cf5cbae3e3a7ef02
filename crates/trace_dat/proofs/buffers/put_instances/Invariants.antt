use Rattle.std.proofs.Common.{◌≡◌, drop, map}
use Rattle.trace_dat.specs.Fields.{with_list, each_of}
use Rattle.trace_dat.specs.Contents.{buffer_seen}
use Rattle.trace_dat.specs.Entries.{option_seen}
use Rattle.trace_dat.specs.Buffers.{instance_of}
use Rattle.trace_dat.proofs.buffers.put_instances.Given as goal

abbrev pub invariant-loop-option : goal.invariant-loop-option
invariant-loop-option l =
    with_list (map buffer_seen l.buffers.items)
    (each_of (instance_of l.file l.shape.page_size l.shape.cpus) (map option_seen (drop l.option-index l.options)))
    ≡ with_list (map buffer_seen l.fn.buffers.items)
    (each_of (instance_of l.file l.shape.page_size l.shape.cpus) (map option_seen l.options))
