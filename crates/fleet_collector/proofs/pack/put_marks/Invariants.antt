use Rattle.std.proofs.Common.{map}
use Rattle.collector.specs.Known.{cpu_number}
use Rattle.fleet_collector.specs.Snapshot.{ArePut, marks_of_all}
use Rattle.fleet_collector.proofs.pack.put_marks.Given as goal

abbrev pub invariant-loop-cpu : goal.invariant-loop-cpu
invariant-loop-cpu l = ArePut l.initial.out.items l.out.items
    (marks_of_all l.stream.0 l.known (map cpu_number l.yielded))
