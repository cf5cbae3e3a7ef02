use Rattle.std.proofs.Common.{refl}
use Rattle.ring_region.proofs.Held.{held_agree, held_cpu, held_gaps}
use Rattle.ring_region.proofs.Together.{all_agree}
use Rattle.ring_region.proofs.laws.recovered_and_taken_agree.Goals as goal

pub returns : goal.returns
returns c = λ bytes held records before is was left.
    all_agree records held.header.cpu.0 held.header.taken.0 before held refl refl was left
    (held_agree bytes held is.slots)
    (held_cpu bytes held is.slots) (held_gaps bytes held is.slots)
