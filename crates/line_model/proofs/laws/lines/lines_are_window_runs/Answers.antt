use Rattle.line_model.proofs.LineWindows.{lines_run}
use Rattle.line_model.proofs.laws.lines.lines_are_window_runs.Goals as goal

pub returns : goal.returns
returns c = record { run = lines_run }
