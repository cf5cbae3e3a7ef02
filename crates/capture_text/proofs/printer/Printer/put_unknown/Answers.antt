use Rattle.std.proofs.Common.{ap, ◌∙◌, List, ℕ}
use Rattle.capture.specs.Captures.{numbers_of}
use Rattle.capture_text.specs.Listed.{listed_losses}
use Rattle.capture_text.specs.Printed.{bounds_of}
use Rattle.text_values.proofs.Chains.{put_same}
use Rattle.capture_text.proofs.printer.Printer.put_unknown.Goals as goal

pub returns : goal.returns
returns g c = λ pages is.
    let cpu = c.args.capture.now.cpu.0 in
    let printer = c.args.self.now in
    put_same _ _
    (ap (λ (numbers : List ℕ). listed_losses printer.form (bounds_of printer cpu) cpu numbers)
    (ap numbers_of c.deref.ensures.value ∙ is.unknown_are))
    c.put_unknown_at.ensures
