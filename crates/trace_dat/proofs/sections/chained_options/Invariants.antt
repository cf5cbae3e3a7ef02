use Rattle.std.proofs.Common.{length, map}
use Rattle.std.specs.Option.{option_map}
use Rattle.trace_dat.specs.Parts.{seen}
use Rattle.trace_dat.specs.Entries.{option_seen}
use Rattle.trace_dat.specs.Sections.{place_seen, chained_options_at}
use Rattle.trace_dat.proofs.ChainLoop.{IsChainedTo, offsets_left}
use Rattle.trace_dat.proofs.sections.chained_options.Given as goal

abbrev pub invariant-loop-next : goal.invariant-loop-next
invariant-loop-next l =
    IsChainedTo l.file (map option_seen l.options.items) (option_map place_seen l.next)
    (chained_options_at l.file (seen l.pointer))

abbrev pub decreases-loop-next : goal.decreases-loop-next
decreases-loop-next l = offsets_left (length l.file) (option_map place_seen l.next)
