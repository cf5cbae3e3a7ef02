use Rattle.ring_core.proofs.Runs.{calls_are_runs}
use Rattle.ring_core.proofs.laws.calls_are_a_run_of_the_model.Goals as goal

pub returns : goal.returns
returns c = calls_are_runs
