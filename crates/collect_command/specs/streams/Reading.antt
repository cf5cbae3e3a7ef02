-- How inputs are read, one after the other, and what takes their pieces.
use Rattle.std.specs.Prelude.{◌≡◌, ◌⊎◌, ℕ, suc, ◌+◌, ◌-◌, ◌^◌, min, Bool, true, false, List, [], ◌∷◌, ◌++◌, length}
use Rattle.std.specs.Prelude.{Option}
use Rattle.std.specs.Io.KnownBytes.{IsAtEnd}
use Rattle.trace_model.specs.declared.numbers.CpuId.{CpuId}
use Rattle.parcel_streams.specs.Pieces.{bytes_of_piece, bytes_of_pieces}
use Rattle.parcel_streams.specs.Faults.{PieceCause}
use Rattle.parcel_streams.specs.Answers.{piece_seen, pieces_seen, piece_fault}
use Rattle.parcel_streams.specs.declared.piece.StreamId.{StreamId}
use Rattle.parcel_streams.specs.declared.piece.Piece.{Piece}
use Rattle.parcel_streams.specs.declared.piece.Piece.TheVariants.{Parcel as ParcelPiece, Mark as MarkPiece}
use Rattle.parcel_streams.specs.declared.fault.PieceFault.{PieceFault}
use Rattle.parcel_streams.specs.declared.fault.PieceFault.TheVariants.{NoMemory}
use Rattle.fleet_collector.specs.declared.refusal.PieceRefusal.{PieceRefusal}
use Rattle.fleet_text.specs.declared.fault.PieceTrouble.{PieceTrouble}
use Rattle.fleet_text.specs.declared.fault.PieceTrouble.TheVariants.{Unread, Refused}
use Rattle.parcel_streams.specs.declared.source.reader.PieceReader.{PieceReader}
use Rattle.parcel_streams.specs.source.Reading.{GivesPiece, GivesPieces, HasFaultAhead, HasPieceAhead}
use Rattle.parcel_streams.specs.source.Readers.{source_of, left_of, index_of, at_of}
use Rattle.collect_command.specs.declared.streams.read.Stop.{Stop}
use Rattle.collect_command.specs.declared.streams.read.Stop.TheVariants.{Read, Piece as PieceStop}
use Rattle.collect_command.specs.declared.streams.read.Stopped.{Stopped}

-- ---- pieces and their places

-- a piece, how many inputs are before the one that has it, and how many bytes of that are before it
pub record Placed : Type 0 where
  pub input : ℕ
  pub at : ℕ
  pub piece : Piece

-- a count that stops at 2^64 - 1
abbrev pub capped : ℕ → ℕ
capped n = min n (2 ^ 64 - 1)

abbrev pub piece_length : Piece → ℕ
piece_length piece = length (bytes_of_piece (piece_seen piece))

-- the pieces of an input, from one on before which there are `at` bytes
abbrev pub placed : (input at : ℕ) → List Piece → List Placed
placed input at [] = []
placed input at (piece ∷ pieces) =
    record { input = input; at = capped at; piece = piece } ∷ placed input (at + piece_length piece) pieces

-- the piece is of this CPU of this stream
abbrev pub IsOrigin : Piece → StreamId → CpuId → Type 0
IsOrigin (ParcelPiece of parcel) stream cpu = (stream ≡ of) × (cpu.0 ≡ parcel.cpu)
IsOrigin (MarkPiece of own mark) stream cpu = (stream ≡ of) × (cpu ≡ own)

-- taking the pieces, one after the other, leads from one state to the other
abbrev pub TakesAll : {S : Type 0} → (S → Placed → S → Type 0) → S → List Placed → S → Type 0
TakesAll takes before [] after = before ≡ after
TakesAll {S} takes before (piece ∷ pieces) after =
    (between : S) × takes before piece between × TakesAll takes between pieces after

-- ---- inputs

-- nothing was given of it yet
pub record IsFresh {R : Type 0} (reader : PieceReader R) : Type 0 where
  pub index_is : index_of reader ≡ 0
  pub at_is : at_of reader ≡ 0

-- why no piece was given of what is left: it is its first fault, or memory was refused for the piece that is there
pub record IsUnread (left : Option (List ℕ)) (fault : PieceFault) : Type 0 where
  pub is_fault : (cause : PieceCause) → fault ≡ piece_fault cause → HasFaultAhead left cause
  pub no_memory : fault ≡ NoMemory → HasPieceAhead left

module _ {R : Type 0} (remaining : R → Option (List ℕ)) (has_failed : R → Bool) where
  -- These pieces are all of the input.
  pub record IsWhole (old new : PieceReader R) (pieces : List Piece) : Type 0 where
    pub left : Option (List ℕ)
    pub gives : GivesPieces (left_of remaining old) left (pieces_seen pieces)
    pub end : IsAtEnd left
    pub sound : has_failed (source_of new) ≡ false

  -- these are all of the inputs, the first of which has this index
  abbrev pub AreWhole : (input : ℕ) (old new : List (PieceReader R)) → List Placed → Type 0
  AreWhole input [] [] pieces = pieces ≡ []
  AreWhole input (old ∷ olds) (new ∷ news) pieces =
      (own : List Piece) × (others : List Placed) × (pieces ≡ placed input 0 own ++ others)
      × IsWhole old new own × AreWhole (suc input) olds news others
  AreWhole input [] (new ∷ news) pieces = ⊥
  AreWhole input (old ∷ olds) [] pieces = ⊥

  module _ {S : Type 0} (takes : S → Placed → S → Type 0) (refuses : S → Placed → PieceRefusal → S → Type 0) where
    -- why nothing is made of the next piece, if this is left
    abbrev pub IsTrouble : (input at : ℕ) (new : PieceReader R) (left : Option (List ℕ)) (before after : S)
        → PieceTrouble → Type 0
    IsTrouble input at new left before after (Unread fault) = (before ≡ after) × IsUnread left fault
    IsTrouble input at new left before after (Refused stream cpu refusal) =
        (piece : Piece) × IsOrigin piece stream cpu × GivesPiece left (left_of remaining new) (piece_seen piece)
        × refuses before record { input = input; at = at; piece = piece } refusal after

    -- Why an input isn't read on after these pieces: a read failed, or 2^64 - 1 pieces were read; or nothing is made of
    -- the next one.
    abbrev pub IsWhy : (input : ℕ) (new : PieceReader R) (pieces : List Piece) (left : Option (List ℕ))
        (before after : S) → Stop → Type 0
    IsWhy input new pieces left before after Read =
        (before ≡ after) × ((has_failed (source_of new) ≡ true) ⊎ (index_of new ≡ 2 ^ 64 - 1))
    IsWhy input new pieces left before after (PieceStop index at trouble) =
        (index ≡ capped (length pieces)) × (at ≡ capped (length (bytes_of_pieces (pieces_seen pieces))))
        × IsTrouble input at new left before after trouble

    -- an input was read to its end, and its pieces were taken
    pub record TakesInput (input : ℕ) (old new : PieceReader R) (before after : S) : Type 0 where
      pub pieces : List Piece
      pub whole : IsWhole old new pieces
      pub taken : TakesAll takes before (placed input 0 pieces) after

    -- an input was read up to a piece, and no further
    pub record StopsInput (input : ℕ) (old new : PieceReader R) (before after : S) (stop : Stop) : Type 0 where
      pub pieces : List Piece
      pub left : Option (List ℕ)
      pub gives : GivesPieces (left_of remaining old) left (pieces_seen pieces)
      pub between : S
      pub taken : TakesAll takes before (placed input 0 pieces) between
      pub why : IsWhy input new pieces left between after stop

    -- each input was read to its end, and all pieces were taken
    pub record TakesInputs (old new : List (PieceReader R)) (before after : S) : Type 0 where
      pub pieces : List Placed
      pub are_whole : AreWhole 0 old new pieces
      pub taken : TakesAll takes before pieces after

    -- An input wasn't read to its end: those before it were, and those after it are untouched.
    pub record StopsInputs (old new : List (PieceReader R)) (before after : S) (stopped : Stopped) : Type 0 where
      pub front : List (PieceReader R)
      pub front_new : List (PieceReader R)
      pub this : PieceReader R
      pub this_new : PieceReader R
      pub behind : List (PieceReader R)
      pub old_is : old ≡ front ++ this ∷ behind
      pub new_is : new ≡ front_new ++ this_new ∷ behind
      pub input_is : stopped.input ≡ length front
      pub pieces : List Placed
      pub are_whole : AreWhole 0 front front_new pieces
      pub between : S
      pub taken : TakesAll takes before pieces between
      pub here : StopsInput stopped.input this this_new between after stopped.stop
