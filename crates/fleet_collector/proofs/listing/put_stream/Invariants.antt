use Rattle.std.proofs.Common.{◌≡◌, ◌++◌, List, map}
use Rattle.collector.specs.Known.{cpu_number}
use Rattle.fleet_collector.specs.Listing.{Line}
use Rattle.fleet_collector.specs.Lines.{line_seen, AreLinesOf, HasAmong}
use Rattle.fleet_collector.proofs.listing.put_stream.Given as goal

abbrev pub invariant-loop-cpu : goal.invariant-loop-cpu
invariant-loop-cpu l = (more : List Line) × AreLinesOf (HasAmong l.before l.stream.0 l.known
    (map cpu_number l.yielded)) more
    × (map line_seen l.lines.items ≡ map line_seen l.initial.lines.items ++ more)
