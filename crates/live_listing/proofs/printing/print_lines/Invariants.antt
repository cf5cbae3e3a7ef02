use Rattle.std.proofs.Common.{◌≡◌, ◌++◌, List, take}
use Rattle.std.specs.Prelude.{count_by}
use Rattle.trace_model.specs.Listing.{Line}
use Rattle.capture_text.specs.declared.form.Form.{Form}
use Rattle.capture_text.specs.Printed.{IsSound}
use Rattle.capture_text.specs.Printing.{Detail}
use Rattle.capture_text.specs.Selection.{Selected}
use Rattle.text_values.specs.Putting.{Puts}
use Rattle.live_listing.specs.Printing.{said_texts, listed_all, is_late, HasPrinted}
use Rattle.live_listing.proofs.printing.print_lines.Given as goal

abbrev pub invariant-loop-said : goal.invariant-loop-said
invariant-loop-said g l =
    IsSound l.printer.naming
    × (l.late ≡ count_by is_late (take l.said-index l.given))
    × ((form : Form) (detail : Detail) (selected : Selected) (before : List Line)
    → HasPrinted form detail selected before l.initial.printer
    → HasPrinted form detail selected (before ++ listed_all (take l.said-index l.given)) l.printer
    × Puts (said_texts form detail selected l.size before (take l.said-index l.given)) l.initial.out l.out)
