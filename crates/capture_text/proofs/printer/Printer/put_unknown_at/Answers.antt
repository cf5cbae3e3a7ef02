use Rattle.std.proofs.Common.{ap, Option}
use Rattle.capture.specs.Captures.{numbers_of}
use Rattle.capture_text.specs.Listed.{listed_losses}
use Rattle.capture_text.specs.Window.{KnownBound}
use Rattle.text_values.proofs.Chains.{put_same}
use Rattle.capture_text.proofs.printer.Printer.put_unknown_at.Goals as goal

pub returns : goal.returns
returns g c =
    put_same _ _
    (ap (λ (b : Option KnownBound).
    listed_losses c.args.self.now.form b c.args.cpu.0 (numbers_of c.args.numbers.now)) c.of-bound.ensures)
    c.put_losses.ensures
