use Rattle.std.proofs.Common.{ℕ, List, [], take, Option, slice_index_or}
use Rattle.collector.specs.Runs.{AreMissingRuns}
use Rattle.capture.specs.Pages.{Page}
use Rattle.capture.specs.files.Files.{ModelPart}
use Rattle.trace_dat.specs.declared.kernel_texts.counters.Counters.{Counters}
use Rattle.capture_text.specs.Selection.{selection_seen}
use Rattle.text_values.specs.Putting.{Puts}
use Rattle.collect_command.specs.Gathered.{AreReadFrom}
use Rattle.collect_command.specs.Listings.{AreCounted, all_sums}
use Rattle.collect_command.proofs.listing.print_sums.Given as goal

abbrev pub invariant-loop-found : goal.invariant-loop-found
invariant-loop-found g l =
    (counted : ℕ → Option Counters) (parts : List ModelPart) (captures : List (List Page)) (runs : List (List (ℕ × ℕ)))
    → AreReadFrom parts 0 (take l.found-index l.cpus) captures → AreCounted counted 0 (take l.found-index l.cpus)
    → ((cpu : ℕ) → AreMissingRuns l.collector cpu (slice_index_or runs cpu []))
    → Puts (all_sums l.printer.form (selection_seen l.printer.selection) counted runs 0 captures) l.fn.out l.out
