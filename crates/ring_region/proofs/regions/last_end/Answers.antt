use Rattle.std.proofs.Common.{◌+◌, sym, ◌∙◌}
use Rattle.ring_region.proofs.Keeping.{last_some}
use Rattle.ring_region.proofs.regions.last_end.Goals as goal

pub returns-in-Some : goal.returns-in-Some
returns-in-Some c =
    (λ i. c.first.ensures.first i + c.count.ensures i)
    ∙ sym (last_some c.args.parcels.now c.in-Some.parcel.now c.in-Some.ensures.value)
