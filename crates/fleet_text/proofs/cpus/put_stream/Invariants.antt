use Rattle.std.proofs.Common.{◌≡◌, ◌++◌, map}
use Rattle.fleet_text.specs.Cpus.{cpu_seen}
use Rattle.fleet_text.proofs.CpusInOrder.{cpu_at}
use Rattle.fleet_text.proofs.cpus.put_stream.Given as goal

abbrev pub invariant-loop-cpu : goal.invariant-loop-cpu
invariant-loop-cpu l =
    map cpu_seen l.list.items
    ≡ map cpu_seen l.initial.list.items ++ map (cpu_at l.stream.0 l.known) (map (λ k. k.now) l.yielded)
