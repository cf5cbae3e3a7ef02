use Rattle.line_model.proofs.RunCalls.{line_runs_are_calls}
use Rattle.line_model.proofs.laws.replays.line_runs_are_calls.Goals as goal

pub returns : goal.returns
returns c = record { calls = line_runs_are_calls }
