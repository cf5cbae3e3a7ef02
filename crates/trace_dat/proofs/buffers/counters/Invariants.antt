use Rattle.std.proofs.Common.{◌≡◌, ◌++◌, drop, map, flat_map}
use Rattle.trace_dat.specs.Entries.{option_seen}
use Rattle.trace_dat.specs.Buffers.{counters_of}
use Rattle.trace_dat.proofs.buffers.counters.Given as goal

abbrev pub invariant-loop-option : goal.invariant-loop-option
invariant-loop-option l =
    map (λ text. text.now) l.counters.items ++ flat_map counters_of (map option_seen (drop l.option-index l.options))
    ≡ flat_map counters_of (map option_seen l.options)
