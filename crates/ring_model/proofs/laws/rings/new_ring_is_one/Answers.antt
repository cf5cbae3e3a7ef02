use Rattle.ring_model.proofs.partition.OneNewRing.{new_ring_is_one}
use Rattle.ring_model.proofs.laws.rings.new_ring_is_one.Goals as goal

pub returns : goal.returns
returns c = record { one = new_ring_is_one }
