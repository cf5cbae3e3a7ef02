-- What the calls answer, in the words of the definitions.
use Rattle.std.specs.Prelude.{◌≡◌, ℕ, ◌^◌, ◌<◌, ◌≤◌, ◌==◌, if◌then◌else◌, List, [], ◌∷◌, ◌++◌, length, drop, map}
use Rattle.trace_model.specs.Image.{le64, from_le64}
use Rattle.trace_model.specs.ParcelBytes.{bytes_of_parcel, DecodesParcel, ParcelCause, FirstParcelFault}
use Rattle.trace_model.specs.Parcel.{Parcel as ParcelSeen}
use Rattle.page_numbers.specs.declared.fault.ParcelFault.{ParcelFault}
use Rattle.page_numbers.specs.declared.fault.ParcelFault.TheVariants.{Image, NumberOverflow, MissedTooMany}
use Rattle.page_numbers.specs.declared.fault.ParcelFault.TheVariants.{MissedDiffers, BadCpu, NoMemory as MemoryThere}
use Rattle.page_numbers.specs.Parcels.{ParcelValue, as_parcel}
use Rattle.page_numbers.specs.Faults.{parcel_fault}
use Rattle.trace_model.specs.declared.limits.TheConstants.{MAX_CPUS}
use Rattle.parcel_streams.specs.declared.piece.Mark.{Mark}
use Rattle.parcel_streams.specs.declared.piece.Mark.TheVariants.{End, Forgotten, Undelivered}
use Rattle.parcel_streams.specs.declared.piece.Piece.{Piece}
use Rattle.parcel_streams.specs.declared.piece.Piece.TheVariants.{Parcel as ParcelIs, Mark as MarkIs}
use Rattle.parcel_streams.specs.declared.frame.Frame.{Frame}
use Rattle.parcel_streams.specs.declared.fault.StreamFault.{StreamFault}
use Rattle.parcel_streams.specs.declared.fault.PieceFault.{PieceFault}
use Rattle.parcel_streams.specs.declared.fault.PieceFault.TheVariants.{NotPacked, Cut, BadVersion, BadLength, BadSum}
use Rattle.parcel_streams.specs.declared.fault.PieceFault.TheVariants.{BadKind, Parcel, Loose, BadMark, NoMemory}
use Rattle.parcel_streams.specs.Pieces.{Packed, parcel_piece, mark_piece, kind_of_mark, numbers_of_mark, IsMark, sealed}
use Rattle.parcel_streams.specs.Pieces.{bytes_of_piece, IsPiece, BeginsWith}
use Rattle.parcel_streams.specs.Faults.{IsSealed, kind_in, stream_in, body_in, length_in, IsFitted, IsLoose, IsBadMark}
use Rattle.parcel_streams.specs.Faults.{PieceCause, not_packed, cut, bad_version, bad_length, bad_sum, bad_kind}
use Rattle.parcel_streams.specs.Faults.{bad_parcel, loose, bad_mark, FirstPieceFault, ReadsTo}

-- the model's piece of a parcel, which has the page's time and data and not its room
abbrev pub piece_of_parcel : ℕ → ParcelValue → Packed
piece_of_parcel stream parcel = parcel_piece stream (as_parcel parcel) parcel.page.time parcel.page.bytes

-- the model's piece
abbrev pub piece_seen : Piece → Packed
piece_seen (ParcelIs stream parcel) = piece_of_parcel stream.0 parcel
piece_seen (MarkIs stream cpu mark) = mark_piece stream.0 cpu.0 mark

abbrev pub pieces_seen : List Piece → List Packed
pieces_seen pieces = map piece_seen pieces

-- ---- faults

-- a fault of the parcel, and refused memory, which is none of it
abbrev pub fault_of_parcel : ParcelFault → PieceFault
fault_of_parcel (Image fault) = Parcel (Image fault)
fault_of_parcel NumberOverflow = Parcel NumberOverflow
fault_of_parcel MissedTooMany = Parcel MissedTooMany
fault_of_parcel MissedDiffers = Parcel MissedDiffers
fault_of_parcel BadCpu = Parcel BadCpu
fault_of_parcel MemoryThere = NoMemory

-- the faults by their causes
abbrev pub piece_fault : PieceCause → PieceFault
piece_fault not_packed = NotPacked
piece_fault cut = Cut
piece_fault bad_version = BadVersion
piece_fault bad_length = BadLength
piece_fault bad_sum = BadSum
piece_fault bad_kind = BadKind
piece_fault (bad_parcel cause) = Parcel (parcel_fault cause)
piece_fault loose = Loose
piece_fault bad_mark = BadMark

-- the bytes begin with some piece
abbrev pub HasPiece : List ℕ → Type 0
HasPiece bytes = (piece : Packed) × BeginsWith bytes piece

-- What an answer without a piece says of the bytes: their first fault, or that memory was refused for the piece with
-- which they begin.
abbrev pub IsPieceFault : List ℕ → PieceFault → Type 0
IsPieceFault bytes NotPacked = FirstPieceFault bytes not_packed
IsPieceFault bytes Cut = FirstPieceFault bytes cut
IsPieceFault bytes BadVersion = FirstPieceFault bytes bad_version
IsPieceFault bytes BadLength = FirstPieceFault bytes bad_length
IsPieceFault bytes BadSum = FirstPieceFault bytes bad_sum
IsPieceFault bytes BadKind = FirstPieceFault bytes bad_kind
IsPieceFault bytes (Parcel fault) =
    (cause : ParcelCause) × (fault ≡ parcel_fault cause) × FirstPieceFault bytes (bad_parcel cause)
IsPieceFault bytes Loose = FirstPieceFault bytes loose
IsPieceFault bytes BadMark = FirstPieceFault bytes bad_mark
IsPieceFault bytes NoMemory = HasPiece bytes

-- ---- parts of a piece

-- the frame is that of the piece with which the bytes begin, if its kind's own is right
pub record HasFrame (bytes : List ℕ) (frame : Frame) : Type 0 where
  pub seal : IsSealed bytes
  pub kind_is : frame.kind ≡ kind_in bytes
  pub stream_is : frame.stream.0 ≡ stream_in bytes
  pub body_is : frame.body.now ≡ body_in bytes
  pub len_is : frame.len ≡ length_in bytes

-- The body is the one that is written for this parcel, whose page has no unused room; and in any stream that is a
-- piece.
pub record IsParcelBody (body : List ℕ) (parcel : ParcelValue) : Type 0 where
  pub body_is :
      body
      ≡ bytes_of_parcel (as_parcel parcel) parcel.page.time parcel.page.bytes (length parcel.page.bytes)
  pub sound : (stream : ℕ) → stream < 2 ^ 64 → IsPiece (piece_of_parcel stream parcel)

-- the mark of this kind that a body states: its numbers are after the CPU's
abbrev pub mark_stated : (kind : ℕ) → List ℕ → Mark
mark_stated kind body =
    let first = from_le64 (drop 8 body) in
    if kind == 1 then End first
    else (if kind == 2 then Forgotten first else Undelivered first (from_le64 (drop 16 body)))

-- the body is that of this mark, whose kind this is, of this CPU
pub record IsMarkBody (kind : ℕ) (body : List ℕ) (cpu : ℕ) (mark : Mark) : Type 0 where
  pub kind_is : kind_of_mark mark ≡ kind
  pub body_is : body ≡ le64 cpu ++ numbers_of_mark mark
  pub cpu_known : cpu < MAX_CPUS
  pub sound : IsMark mark

-- the frame is that of this piece
pub record HasBody (frame : Frame) (piece : Piece) : Type 0 where
  pub sound : IsPiece (piece_seen piece)
  pub bytes_are : bytes_of_piece (piece_seen piece) ≡ sealed frame.kind frame.stream.0 frame.body.now

-- What an answer without a piece says of a body of this kind: its first fault, or that memory was refused for a parcel.
abbrev pub IsBodyFault : (kind : ℕ) → List ℕ → PieceFault → Type 0
IsBodyFault kind body NotPacked = ⊥
IsBodyFault kind body Cut = ⊥
IsBodyFault kind body BadVersion = ⊥
IsBodyFault kind body BadLength = ⊥
IsBodyFault kind body BadSum = ⊥
IsBodyFault kind body BadKind = 3 < kind
IsBodyFault kind body (Parcel fault) =
    (kind ≡ 0) × ((cause : ParcelCause) × (fault ≡ parcel_fault cause) × FirstParcelFault body cause)
IsBodyFault kind body Loose = (kind ≡ 0) × IsLoose body
IsBodyFault kind body BadMark = (1 ≤ kind) × (kind ≤ 3) × IsBadMark kind body
IsBodyFault kind body NoMemory =
    (kind ≡ 0) × ((parcel : ParcelSeen) × DecodesParcel body parcel × IsFitted body parcel)

-- ---- streams

-- the fault of the piece of this index, which begins at this byte
abbrev pub stream_fault : ℕ → ℕ → PieceCause → StreamFault
stream_fault index at cause = record { index = index; at = at; fault = piece_fault cause }

-- What an answer without a stream says of the bytes: pieces were read up to here, and what follows, which isn't
-- nothing, has this first fault, or begins with a piece for which memory was refused.
pub record IsStreamFault (bytes : List ℕ) (fault : StreamFault) : Type 0 where
  pub rest : List ℕ
  pub before : ReadsTo bytes fault.index fault.at rest
  pub more : 0 < length rest
  pub here : IsPieceFault rest fault.fault

-- pieces were read up to here, and another one follows
pub record HasPieceAt (bytes : List ℕ) (index at : ℕ) : Type 0 where
  pub rest : List ℕ
  pub before : ReadsTo bytes index at rest
  pub piece : HasPiece rest

-- The piece at the front of the bytes, which takes `len` of them, is put after those that were read.
pub record PutsPiece (bytes : List ℕ) (old new : List Piece) (len : ℕ) : Type 0 where
  pub piece : Piece
  pub new_is : new ≡ old ++ piece ∷ []
  pub begins : BeginsWith bytes (piece_seen piece)
  pub len_is : len ≡ length (bytes_of_piece (piece_seen piece))
