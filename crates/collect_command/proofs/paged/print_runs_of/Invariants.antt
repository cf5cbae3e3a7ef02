use Rattle.std.proofs.Common.{flat_map, map, take}
use Rattle.capture_text.specs.Listed.{listed_run}
use Rattle.capture_text.specs.Printed.{bounds_of}
use Rattle.text_values.specs.Putting.{Puts}
use Rattle.page_lines.specs.Tallies.{run_numbers}
use Rattle.collect_command.proofs.paged.print_runs_of.Given as goal

abbrev pub invariant-loop-first : goal.invariant-loop-first
invariant-loop-first g l =
    Puts (flat_map (listed_run l.printer.form (bounds_of l.printer l.tally.cpu.0) l.tally.cpu.0)
    (map run_numbers (take l.first-index l.first-items))) l.fn.out l.out
