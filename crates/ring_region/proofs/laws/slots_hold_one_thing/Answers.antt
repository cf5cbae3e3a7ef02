use Rattle.ring_region.proofs.OnePage.{alike-behind, same_slot}
use Rattle.ring_region.proofs.Slotted.{some_slot, one_slot}
use Rattle.ring_region.proofs.laws.slots_hold_one_thing.Goals as goal

pub returns-clause-some : goal.returns-clause-some
returns-clause-some c = λ cpu bytes known small limit. some_slot cpu bytes known small limit

pub returns-clause-one : goal.returns-clause-one
returns-clause-one c = λ cpu bytes slot other is also. one_slot cpu bytes slot other is also

pub returns-clause-behind : goal.returns-clause-behind
returns-clause-behind c =
    λ cpu bytes other slot long same is. same_slot cpu bytes other slot (alike-behind bytes other long same) is
