use Rattle.std.proofs.Common.{length}
use Rattle.library_values.proofs.LeastFrom.{AreBelow}
use Rattle.library_values.proofs.listed_fleet.cpus.least_marked.Given as goal

abbrev pub invariant-loop-cpu : goal.invariant-loop-cpu
invariant-loop-cpu l = AreBelow l.fn.cpus (length l.yielded) l.from
