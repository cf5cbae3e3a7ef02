use Rattle.ring_steps.proofs.Joins.{looks}
use Rattle.ring_steps.proofs.settling.load_done_joined.Goals as goal

pub load-requires-clause-allowed : goal.load-requires-clause-allowed
load-requires-clause-allowed c = looks c.args.shape _ _ _ c.requires.seat
