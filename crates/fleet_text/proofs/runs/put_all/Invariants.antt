use Rattle.std.proofs.Common.{◌≡◌, ◌++◌, map}
use Rattle.collector.specs.Runs.{run_numbers}
use Rattle.fleet_text.specs.Runs.{run_seen, run_at}
use Rattle.fleet_text.proofs.runs.put_all.Given as goal

abbrev pub invariant-loop-first : goal.invariant-loop-first
invariant-loop-first l =
    map run_seen l.runs.items
    ≡ map run_seen l.initial.runs.items ++ map (run_at l.stream.0 l.cpu.0) (map run_numbers l.yielded)
