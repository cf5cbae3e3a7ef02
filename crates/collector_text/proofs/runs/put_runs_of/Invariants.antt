use Rattle.std.proofs.Common.{◌≡◌, ◌++◌, flat_map, map}
use Rattle.collector.specs.Runs.{run_numbers}
use Rattle.world_model.specs.Printing.{printed_missing}
use Rattle.collector_text.proofs.runs.put_runs_of.Given as goal

abbrev pub invariant-loop-first : goal.invariant-loop-first
invariant-loop-first l =
    l.out.items ≡ l.initial.out.items ++ flat_map (printed_missing l.cpu.0) (map run_numbers l.yielded)
