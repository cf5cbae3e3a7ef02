use Rattle.ring_core.proofs.Runs.{calls_from_new_are_runs}
use Rattle.ring_core.proofs.laws.calls_on_a_new_ring_are_a_run_from_the_start.Goals as goal

pub returns : goal.returns
returns c = calls_from_new_are_runs
