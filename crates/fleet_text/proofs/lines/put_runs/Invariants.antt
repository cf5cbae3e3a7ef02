use Rattle.std.proofs.Common.{take, map, flat_map}
use Rattle.fleet_text.specs.Runs.{run_seen}
use Rattle.fleet_text.specs.Printing.{run_line}
use Rattle.text_values.specs.Putting.{Puts}
use Rattle.fleet_text.proofs.lines.put_runs.Given as goal

abbrev pub invariant-loop-run : goal.invariant-loop-run
invariant-loop-run g l =
    Puts (flat_map (run_line l.form l.name) (map run_seen (take l.run-index l.runs))) l.fn.out l.out
