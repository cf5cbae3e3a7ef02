use Rattle.std.proofs.Common.{Option, length, ap, sym, ◌∙◌}
use Rattle.trace_dat.specs.declared.kernel_texts.counters.Counters.{Counters}
use Rattle.capture.specs.Pages.{unknown_from}
use Rattle.capture_text.specs.LossSums.{missing_count, listed_sum}
use Rattle.capture_text.specs.Selection.{selection_seen}
use Rattle.text_values.proofs.Chains.{put_same}
use Rattle.collect_command.specs.Listings.{sum_of}
use Rattle.collect_command.proofs.listing.print_sum.Goals as goal

pub returns-in-Some : goal.returns-in-Some
returns-in-Some g c = λ pages runs is missing.
    let form = c.args.printer.now.form in
    let selected = selection_seen c.args.printer.now.selection in
    let cpu = c.args.found.now.capture.cpu.0 in
    let count = missing_count runs in
    let unknown = length (unknown_from 0 pages) in
    put_same _ _
    (ap (listed_sum form selected cpu count unknown) c.ring_losses.ensures
    ∙ ap (λ (counters : Option Counters). sum_of form selected counters cpu count unknown) (sym c.in-Some.is))
    (c.put_losses_in_sum.ensures pages runs is missing)
