use Rattle.ring_region.proofs.Taken.{are_taken}
use Rattle.ring_region.proofs.laws.genuine_parcels_are_taken.Goals as goal

pub returns : goal.returns
returns c =
    λ records pieces rest before cpu taken partition genuine left.
    are_taken records pieces rest before cpu taken partition genuine left
