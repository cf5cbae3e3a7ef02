use Rattle.std.proofs.Common.{List, take}
use Rattle.capture.specs.Pages.{Page}
use Rattle.capture.specs.files.Files.{ModelPart}
use Rattle.capture_text.specs.Printed.{bounds_of}
use Rattle.text_values.specs.Putting.{Puts}
use Rattle.collect_command.specs.Gathered.{AreReadFrom}
use Rattle.collect_command.specs.Listings.{all_unknown}
use Rattle.collect_command.proofs.listing.print_unknown.Given as goal

abbrev pub invariant-loop-found : goal.invariant-loop-found
invariant-loop-found g l =
    (parts : List ModelPart) (captures : List (List Page))
    → AreReadFrom parts 0 (take l.found-index l.cpus) captures
    → Puts (all_unknown l.printer.form (bounds_of l.printer) 0 captures) l.fn.out l.out
