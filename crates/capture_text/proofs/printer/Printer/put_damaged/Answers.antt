use Rattle.std.proofs.Common.{ap, ◌∙◌, List, flat_map}
use Rattle.capture.specs.Pages.{damages_from}
use Rattle.capture.specs.declared.pages.Damaged.{Damaged}
use Rattle.capture_text.specs.Listed.{listed_page}
use Rattle.capture_text.specs.Printed.{bounds_of}
use Rattle.text_values.proofs.Chains.{put_same}
use Rattle.capture_text.proofs.Damages.{all_lines}
use Rattle.capture_text.proofs.printer.Printer.put_damaged.Goals as goal

pub returns : goal.returns
returns g c = λ pages is.
    let form = c.args.self.now.form in
    let parts = c.args.parts.now in
    let capture = c.args.capture.now in
    let cpu = capture.cpu.0 in
    let bound = bounds_of c.args.self.now cpu in
    put_same _ _
    (ap (λ (more : List Damaged). flat_map (listed_page form bound parts cpu) more) c.deref.ensures.value
    ∙ all_lines form bound parts cpu capture.damaged.items (damages_from 0 0 pages) is.damaged_are)
    c.put_damaged_pages.ensures
