use Rattle.ring_model.proofs.partition.RingsKept.{is_ring, ring_step, reached_kept, reached_ring}
use Rattle.ring_model.proofs.laws.rings.steps_keep_ring.Goals as goal

pub returns : goal.returns
returns c = record { kept = ring_step; ring = is_ring; reached = reached_kept; runs = reached_ring }
