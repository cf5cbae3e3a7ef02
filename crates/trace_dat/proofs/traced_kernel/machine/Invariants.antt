use Rattle.std.proofs.Common.{◌≡◌, drop, map}
use Rattle.std.specs.Option.{option_map}
use Rattle.trace_dat.specs.Entries.{option_seen}
use Rattle.trace_dat.specs.TracedKernel.{later_of, machine_among}
use Rattle.trace_dat.proofs.traced_kernel.machine.Given as goal

abbrev pub invariant-loop-option : goal.invariant-loop-option
invariant-loop-option l =
    later_of (option_map (λ text. text.now) l.machine)
    (machine_among (map option_seen (drop l.option-index l.options)))
    ≡ machine_among (map option_seen l.options)
