use Rattle.std.proofs.Common.{map, take}
use Rattle.fleet_text.specs.Cpus.{cpu_seen}
use Rattle.fleet_text.specs.Runs.{run_seen, AreRunsOf, IsOfKindAmong}
use Rattle.fleet_text.proofs.runs.runs_of.Given as goal

abbrev pub invariant-loop-at : goal.invariant-loop-at
invariant-loop-at l = AreRunsOf (IsOfKindAmong l.kind (take l.at-index (map cpu_seen l.cpus)))
    (map run_seen l.runs.items)
