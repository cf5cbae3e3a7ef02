use Rattle.std.proofs.Common.{map}
use Rattle.fleet_collector.specs.Fleet.{entry_seen}
use Rattle.fleet_text.specs.Cpus.{cpu_seen, AreCpusIn}
use Rattle.fleet_text.proofs.cpus.all_cpus.Given as goal

abbrev pub invariant-loop-stream : goal.invariant-loop-stream
invariant-loop-stream l = AreCpusIn (map entry_seen l.yielded) (map cpu_seen l.list.items)
