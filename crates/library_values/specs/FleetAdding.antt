-- What becomes of bytes, of which the piece at the front is to be added to a fleet.
use Rattle.std.specs.Prelude.{◌≡◌, ◌↔◌, ℕ, List, [], ◌∷◌, ◌++◌, length}
use Rattle.parcel_streams.specs.declared.piece.Piece.{Piece}
use Rattle.parcel_streams.specs.declared.piece.Piece.TheVariants.{Parcel, Mark}
use Rattle.parcel_streams.specs.declared.fault.PieceFault.{PieceFault}
use Rattle.parcel_streams.specs.declared.fault.PieceFault.TheVariants.{NoMemory as NoPieceMemory}
use Rattle.parcel_streams.specs.Pieces.{Packed, bytes_of_piece, BeginsWith}
use Rattle.parcel_streams.specs.Faults.{PieceCause, FirstPieceFault}
use Rattle.parcel_streams.specs.Answers.{piece_seen, piece_fault, HasPiece}
use Rattle.stream_collector.specs.Stream.{Stream}
use Rattle.stream_collector.specs.declared.added.Added.{Added as AddedIs}
use Rattle.fleet_collector.specs.Pieces.{AddsPiece, IsRefusal}
use Rattle.fleet_collector.specs.Told.{IsFleetOf}
use Rattle.library_values.specs.declared.listed_fleet.adding.RefusedPiece.{RefusedPiece}
use Rattle.library_values.specs.declared.listed_fleet.adding.AddAnswer.{AddAnswer}
use Rattle.library_values.specs.declared.listed_fleet.adding.AddAnswer.TheVariants.{Added, Refused, NoPiece}

-- the stream and the CPU of a piece
abbrev pub place_of : Piece → ℕ × ℕ
place_of (Parcel stream parcel) = (stream.0, parcel.cpu)
place_of (Mark stream cpu mark) = (stream.0, cpu.0)

-- the bytes begin with this piece, which takes `len` of them
pub record IsAtFront (bytes : List ℕ) (piece : Piece) (len : ℕ) : Type 0 where
  pub begins : BeginsWith bytes (piece_seen piece)
  pub len_is : len ≡ length (bytes_of_piece (piece_seen piece))

-- The piece at the front is added to its stream, or was known or forgotten: a fleet of some pieces is afterwards the
-- fleet of these and of this one.
pub record IsAdded (old : List (ℕ × Stream)) (bytes : List ℕ) (added : AddedIs) (len : ℕ) (new : List (ℕ × Stream))
    : Type 0 where
  pub piece : Piece
  pub front : IsAtFront bytes piece len
  pub adds : AddsPiece old new piece added
  pub told : (pieces : List Packed) → IsFleetOf pieces old → IsFleetOf (pieces ++ piece_seen piece ∷ []) new

-- The piece at the front isn't added, and this is why.
pub record IsNotAdded (old : List (ℕ × Stream)) (bytes : List ℕ) (refused : RefusedPiece) (len : ℕ) : Type 0 where
  pub piece : Piece
  pub front : IsAtFront bytes piece len
  pub place_is : (refused.stream.0, refused.cpu.0) ≡ place_of piece
  pub fault : IsRefusal old piece refused.refusal

-- The bytes have no piece at their front: this is their first fault, or memory was refused for the piece that is there.
pub record IsNoPiece (bytes : List ℕ) (fault : PieceFault) : Type 0 where
  pub first : (cause : PieceCause) → (fault ≡ piece_fault cause) ↔ FirstPieceFault bytes cause
  pub no_memory : fault ≡ NoPieceMemory → HasPiece bytes

-- What is answered says what the fleet is then.
abbrev pub AddsSo : List (ℕ × Stream) → List ℕ → AddAnswer → List (ℕ × Stream) → Type 0
AddsSo old bytes (Added added len) new = IsAdded old bytes added len new
AddsSo old bytes (Refused refused len) new = IsNotAdded old bytes refused len × (new ≡ old)
AddsSo old bytes (NoPiece fault) new = IsNoPiece bytes fault × (new ≡ old)
