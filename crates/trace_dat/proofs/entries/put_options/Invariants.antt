use Rattle.std.proofs.Common.{length, map}
use Rattle.trace_dat.specs.Parts.{seen}
use Rattle.trace_dat.specs.Fields.{with_front}
use Rattle.trace_dat.specs.Entries.{option_seen, options_at}
use Rattle.trace_dat.proofs.OptionLoop.{IsReadTo}
use Rattle.trace_dat.proofs.entries.put_options.Given as goal

abbrev pub invariant-loop-option : goal.invariant-loop-option
invariant-loop-option l = IsReadTo (map option_seen l.options.items) (seen l.rest)
    (with_front (map option_seen l.fn.options.items) (options_at (seen l.part)))

abbrev pub decreases-loop-option : goal.decreases-loop-option
decreases-loop-option l = length l.rest.bytes.now
