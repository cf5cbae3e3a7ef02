-- How pieces are added to a fleet, and the bytes of some are kept.
use Rattle.std.specs.Prelude.{◌≡◌, ◌⊎◌, ℕ, List, [], ◌∷◌, ◌++◌, length, ⊤}
use Rattle.parcel_streams.specs.Pieces.{Packed, AreAllPieces, bytes_of_pieces}
use Rattle.parcel_streams.specs.Answers.{pieces_seen}
use Rattle.parcel_streams.specs.declared.piece.Piece.{Piece}
use Rattle.stream_collector.specs.Stream.{Stream}
use Rattle.fleet_collector.specs.Pieces.{IsRefusal}
use Rattle.command_io.specs.declared.ends.Sink.{Ghosts}
use Rattle.text_values.specs.declared.output.Out.{Out}
use Rattle.text_values.specs.Putting.{Start}
use Rattle.collect_command.specs.streams.Reading.{capped, IsOrigin}
use Rattle.collect_command.specs.streams.Gathering.{Gathers, HasGathered}
use Rattle.ring_region.specs.declared.regions.Region.{Region}
use Rattle.collect_command.specs.declared.recovery.gather.Stop.{Stop}
use Rattle.collect_command.specs.declared.recovery.gather.Stop.TheVariants.{Refused, NoMemory}
use Rattle.collect_command.specs.declared.recovery.gather.StoppedAt.{StoppedAt}
use Rattle.collect_command.specs.recovery.Telling.{IsToldBy, AreToldBy}

-- A fleet, and where the bytes of the pieces that are kept are put.
pub record Gathering (K : Type 0) (g : Ghosts K) : Type 0 where
  pub fleet : List (ℕ × Stream)
  pub out : Out K g

module _ {K : Type 0} {g : Ghosts K} where
  abbrev pub gathering_of : List (ℕ × Stream) → Out K g → Gathering K g
  gathering_of fleet out = record { fleet = fleet; out = out }

  -- these pieces were added since nothing was there, and the bytes of those that are kept were put
  abbrev pub Has : (start : Start) → Gathering K g → List Piece → Type 0
  Has start at pieces = HasGathered start at.out at.fleet pieces

  -- one piece was added, and its bytes were put if it is kept
  abbrev pub AddsOne : Piece → (old new : Gathering K g) → Type 0
  AddsOne piece old new = Gathers piece old.fleet old.out new.fleet new.out

  -- These pieces were added after whatever was added before. Each is one that can be read again.
  pub record AddsAll (pieces : List Piece) (old new : Gathering K g) : Type 0 where
    pub sound : AreAllPieces (pieces_seen pieces)
    pub adds : (start : Start) (before : List Piece) → Has start old before → Has start new (before ++ pieces)

-- ---- where it stops

-- how many of these pieces there are, and how many bytes they take; the numbers stop at 2^64 - 1
pub record AreCounted (pieces : List Piece) (index at : ℕ) : Type 0 where
  pub index_is : index ≡ capped (length pieces)
  pub at_is : at ≡ capped (length (bytes_of_pieces (pieces_seen pieces)))

-- The next piece after these isn't added to the fleet: memory was refused, or the fleet refuses the piece.
abbrev pub IsStop : (pieces : List Piece) (piece : Piece) (fleet : List (ℕ × Stream)) → Stop → Type 0
IsStop pieces piece fleet NoMemory = ⊤
IsStop pieces piece fleet (Refused index at stream cpu refusal) =
    AreCounted pieces index at × IsOrigin piece stream cpu × IsRefusal fleet piece refusal

-- Of these pieces some were added, and the next one wasn't.
pub record StopsAmong {K : Type 0} {g : Ghosts K} (pieces : List Piece) (old new : Gathering K g) (stop : Stop)
    : Type 0 where
  pub front : List Piece
  pub piece : Piece
  pub behind : List Piece
  pub pieces_are : pieces ≡ front ++ piece ∷ behind
  pub adds : AddsAll front old new
  pub why : IsStop front piece new.fleet stop

-- These are some of the pieces that a region states, from the first one on, and why the next one isn't added: memory
-- was refused, for it or before the pieces were there; or the fleet refuses it.
abbrev pub IsRegionStop : Region → (pieces : List Piece) (fleet : List (ℕ × Stream)) → Stop → Type 0
IsRegionStop region pieces fleet NoMemory =
    (pieces ≡ []) ⊎ ((rest : List Packed) × IsToldBy region (pieces_seen pieces ++ rest))
IsRegionStop region pieces fleet (Refused index at stream cpu refusal) =
    (piece : Piece) × (behind : List Piece) × IsToldBy region (pieces_seen (pieces ++ piece ∷ behind))
    × AreCounted pieces index at × IsOrigin piece stream cpu × IsRefusal fleet piece refusal

-- all pieces that a region states were added
pub record AddsRegion {K : Type 0} {g : Ghosts K} (region : Region) (old new : Gathering K g) : Type 0 where
  pub pieces : List Piece
  pub told : IsToldBy region (pieces_seen pieces)
  pub adds : AddsAll pieces old new

-- or some of them, and the next one wasn't
pub record StopsInRegion {K : Type 0} {g : Ghosts K} (region : Region) (old new : Gathering K g) (stop : Stop)
    : Type 0 where
  pub pieces : List Piece
  pub adds : AddsAll pieces old new
  pub why : IsRegionStop region pieces new.fleet stop

-- all pieces that these regions state were added
pub record AddsRegions {K : Type 0} {g : Ghosts K} (regions : List Region) (old new : Gathering K g) : Type 0 where
  pub pieces : List Piece
  pub told : AreToldBy regions pieces
  pub adds : AddsAll pieces old new

-- or all those of the first regions, and some of the next one's
pub record StopsInRegions {K : Type 0} {g : Ghosts K} (regions : List Region) (old new : Gathering K g)
    (stopped : StoppedAt) : Type 0 where
  pub front : List Region
  pub this : Region
  pub behind : List Region
  pub regions_are : regions ≡ front ++ this ∷ behind
  pub input_is : stopped.input ≡ length front
  pub before : List Piece
  pub told : AreToldBy front before
  pub own : List Piece
  pub adds : AddsAll (before ++ own) old new
  pub why : IsRegionStop this own new.fleet stopped.stop
