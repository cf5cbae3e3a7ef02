use Rattle.std.proofs.Common.{◌≡◌, drop, map}
use Rattle.trace_dat.specs.Fields.{with_list, each_of}
use Rattle.trace_dat.specs.Entries.{option_seen}
use Rattle.trace_dat.specs.TracedKernel.{list_of}
use Rattle.trace_dat.proofs.traced_kernel.list_texts.Given as goal

abbrev pub invariant-loop-option : goal.invariant-loop-option
invariant-loop-option l =
    with_list (map (λ text. text.now) l.texts.items)
    (each_of (list_of l.list l.file) (map option_seen (drop l.option-index l.options)))
    ≡ each_of (list_of l.list l.file) (map option_seen l.options)
