use Rattle.std.proofs.Common.{ap, Option, flat_map}
use Rattle.capture_text.specs.Listed.{listed_page}
use Rattle.capture_text.specs.Window.{KnownBound}
use Rattle.text_values.proofs.Chains.{put_same}
use Rattle.capture_text.proofs.printer.Printer.put_damaged_pages.Goals as goal

pub returns : goal.returns
returns g c =
    put_same _ _
    (ap (λ (b : Option KnownBound).
    flat_map (listed_page c.args.self.now.form b c.args.parts.now c.args.cpu.0) c.args.pages.now) c.of-bound.ensures)
    c.put_damages.ensures
