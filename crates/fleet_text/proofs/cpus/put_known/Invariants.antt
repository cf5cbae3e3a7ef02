use Rattle.std.proofs.Common.{map}
use Rattle.collector.specs.Known.{cpu_number}
use Rattle.fleet_text.specs.Cpus.{HasBoth}
use Rattle.fleet_text.proofs.cpus.put_known.Given as goal

abbrev pub invariant-loop-cpu : goal.invariant-loop-cpu
invariant-loop-cpu l = HasBoth l.initial.cpus.keys l.cpus.keys (map cpu_number l.yielded)
