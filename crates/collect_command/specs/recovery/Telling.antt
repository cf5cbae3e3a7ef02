-- What regions state, as pieces of their streams.
use Rattle.std.specs.Prelude.{◌≡◌, ◌<◌, List, [], ◌∷◌, ◌++◌, Some, None, ⊤}
use Rattle.trace_model.specs.declared.limits.TheConstants.{MAX_CPUS}
use Rattle.parcel_streams.specs.Pieces.{Packed}
use Rattle.parcel_streams.specs.Answers.{pieces_seen}
use Rattle.parcel_streams.specs.declared.piece.Mark.TheVariants.{End, Forgotten, Undelivered}
use Rattle.parcel_streams.specs.declared.piece.Piece.{Piece}
use Rattle.parcel_streams.specs.declared.piece.Piece.TheVariants.{Parcel as ParcelPiece, Mark as MarkPiece}
use Rattle.ring_region.specs.Regions.{IsClean, count_in}
use Rattle.ring_region.specs.Answers.{region_seen, pieces_of}
use Rattle.ring_region.specs.declared.regions.Region.{Region}

-- A region states these pieces: its parcels, and how many records its CPU has, if it is clean.
pub record IsToldBy (region : Region) (pieces : List Packed) : Type 0 where
  pub ended : IsClean (region_seen region) → pieces ≡ pieces_of region (Some (count_in (region_seen region)))
  pub unended : ¬ IsClean (region_seen region) → pieces ≡ pieces_of region None

-- the pieces that these regions state, those of one region after those of the other
abbrev pub AreToldBy : List Region → List Piece → Type 0
AreToldBy [] pieces = pieces ≡ []
AreToldBy (region ∷ regions) pieces = (own others : List Piece) × (pieces ≡ own ++ others)
    × IsToldBy region (pieces_seen own) × AreToldBy regions others

-- a region may state this piece: a parcel, or how many records a CPU has, which is one that there is
abbrev pub MayBeTold : Piece → Type 0
MayBeTold (ParcelPiece stream parcel) = ⊤
MayBeTold (MarkPiece stream cpu (End count)) = cpu.0 < MAX_CPUS
MayBeTold (MarkPiece stream cpu (Forgotten bound)) = ⊥
MayBeTold (MarkPiece stream cpu (Undelivered first end)) = ⊥
