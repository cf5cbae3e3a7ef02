use Rattle.line_model.proofs.AccountWindows.{accounts_are_window_runs}
use Rattle.line_model.proofs.laws.accounts.accounts_are_window_runs.Goals as goal

pub returns : goal.returns
returns c = accounts_are_window_runs
