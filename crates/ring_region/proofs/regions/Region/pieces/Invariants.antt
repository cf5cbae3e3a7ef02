use Rattle.std.proofs.Common.{◌≡◌, take}
use Rattle.std.specs.Prelude.{map}
use Rattle.parcel_streams.specs.Answers.{piece_of_parcel, pieces_seen}
use Rattle.ring_region.proofs.regions.Region.pieces.Given as goal

abbrev pub invariant-loop-parcel : goal.invariant-loop-parcel
invariant-loop-parcel l =
    pieces_seen l.pieces.items ≡ map (piece_of_parcel l.self.header.stream.0) (take l.parcel-index l.self.parcels.items)
