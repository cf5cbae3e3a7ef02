use Rattle.std.proofs.Common.{flat_map, map}
use Rattle.std.specs.Option.{option_map}
use Rattle.collector.specs.Runs.{run_numbers}
use Rattle.capture_text.specs.Window.{bound_seen}
use Rattle.capture_text.specs.Listed.{listed_run}
use Rattle.text_values.specs.Putting.{Puts}
use Rattle.capture_text.proofs.losses.put_runs_of.Given as goal

abbrev pub invariant-loop-first : goal.invariant-loop-first
invariant-loop-first g l =
    Puts (flat_map (listed_run l.form (option_map bound_seen l.bound) l.cpu.0) (map run_numbers l.yielded)) l.fn.out
    l.out
