use Rattle.std.proofs.Common.{◌-◌, length}
use Rattle.page_image.proofs.Sought.{IsAhead}
use Rattle.page_image.proofs.places.is_payload.Given as goal

abbrev pub invariant-loop-at : goal.invariant-loop-at
invariant-loop-at l = IsAhead l.data l.place.start l.place.len l.at

abbrev pub decreases-loop-at : goal.decreases-loop-at
decreases-loop-at l = length l.data - l.at
