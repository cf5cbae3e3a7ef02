use Rattle.ring_region.proofs.Held.{held_agree}
use Rattle.ring_region.proofs.laws.parcels_of_a_region_agree.Goals as goal

pub returns : goal.returns
returns c = λ bytes held is. held_agree bytes held is.slots
