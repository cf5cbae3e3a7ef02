use Rattle.std.proofs.Common.{List, take}
use Rattle.capture_text.specs.Printed.{bounds_of}
use Rattle.text_values.specs.Putting.{Puts}
use Rattle.collect_command.specs.Paged.{RawFile, AreRawOf, raw_runs}
use Rattle.collect_command.proofs.paged.print_runs.Given as goal

abbrev pub invariant-loop-source : goal.invariant-loop-source
invariant-loop-source g l =
    (raws : List RawFile) → AreRawOf l.sources raws
    → Puts (raw_runs l.printer.form (bounds_of l.printer) (take l.source-index raws)) l.fn.out l.out
