use Rattle.std.proofs.Common.{length, ◌-◌}
use Rattle.parcel_streams.proofs.Steps.{StandsAt}
use Rattle.parcel_streams.proofs.read.read_pieces.Given as goal

abbrev pub invariant-loop-at : goal.invariant-loop-at
invariant-loop-at l = StandsAt l.bytes l.pieces.items l.at

abbrev pub decreases-loop-at : goal.decreases-loop-at
decreases-loop-at l = length l.bytes - l.at
