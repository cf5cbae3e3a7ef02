use Rattle.std.proofs.Common.{ap, Option}
use Rattle.capture_text.specs.Listed.{listed_run}
use Rattle.capture_text.specs.Window.{KnownBound}
use Rattle.text_values.proofs.Chains.{put_same}
use Rattle.capture_text.proofs.printer.Printer.put_run.Goals as goal

pub returns : goal.returns
returns g c =
    put_same _ _
    (ap (λ (b : Option KnownBound).
    listed_run c.args.self.now.form b c.args.cpu.0 (c.args.first.0, c.args.last.0)) c.of-bound.ensures)
    c.put_listed_run.ensures
