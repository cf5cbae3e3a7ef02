use Rattle.std.proofs.Common.{map}
use Rattle.fleet_collector.specs.Fleet.{entry_seen}
use Rattle.fleet_collector.specs.Lines.{line_seen, AreLinesOf, HasIn}
use Rattle.fleet_collector.proofs.listing.all_lines.Given as goal

abbrev pub invariant-loop-stream : goal.invariant-loop-stream
invariant-loop-stream l = AreLinesOf (HasIn l.before (map entry_seen l.yielded)) (map line_seen l.lines.items)
