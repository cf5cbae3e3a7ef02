-- Streams of parcels: pieces, one after the other. A piece is a parcel, or a mark, which says something of a CPU's
-- numbers. All of it is this project's own, stated in docs/formats/pages.md, "Streams of parcels".
use Rattle.std.specs.Prelude.{◌≡◌, ℕ, ◌+◌, ◌*◌, ◌^◌, ◌<◌, ◌≤◌, ⊤, List, [], ◌∷◌, ◌++◌, length}
use Rattle.parcel_streams.specs.crc32c.Castagnoli.{crc32c}
use Rattle.trace_model.specs.Words.{Decodes}
use Rattle.trace_model.specs.Image.{le64}
use Rattle.trace_model.specs.Parcel.{Parcel}
use Rattle.trace_model.specs.ParcelBytes.{IsParcel, bytes_of_parcel}
use Rattle.trace_model.specs.declared.limits.TheConstants.{MAX_CPUS, MAX_SIZE}
use Rattle.parcel_streams.specs.declared.piece.Mark.{Mark}
use Rattle.parcel_streams.specs.declared.piece.Mark.TheVariants.{End, Forgotten, Undelivered}

-- What a piece says. A parcel, with the time and the data of its page; or a mark of a CPU: how many records it has,
-- that what is below a number is kept no longer, or that a run of numbers was given up. Both are of one stream.
pub data Packed : Type 0 where
  parcel_piece : (stream : ℕ) (parcel : Parcel) (time : ℕ) (contents : List ℕ) → Packed
  mark_piece : (stream cpu : ℕ) (mark : Mark) → Packed

-- the kind of a mark's piece; a parcel's is 0
abbrev pub kind_of_mark : Mark → ℕ
kind_of_mark (End count) = 1
kind_of_mark (Forgotten bound) = 2
kind_of_mark (Undelivered first end) = 3

-- the bytes of a mark's numbers
abbrev pub numbers_of_mark : Mark → List ℕ
numbers_of_mark (End count) = le64 count
numbers_of_mark (Forgotten bound) = le64 bound
numbers_of_mark (Undelivered first end) = le64 first ++ le64 end

-- a mark is one: its numbers fit 64 bits, something is below the bound, and some number is given up
abbrev pub IsMark : Mark → Type 0
IsMark (End count) = count < 2 ^ 64
IsMark (Forgotten bound) = (0 < bound) × (bound < 2 ^ 64)
IsMark (Undelivered first end) = (first < end) × (end < 2 ^ 64)

-- the letters TRPARCEL, with which each piece begins
abbrev pub magic : List ℕ
magic = 84 ∷ 82 ∷ 80 ∷ 65 ∷ 82 ∷ 67 ∷ 69 ∷ 76 ∷ []

-- a piece without its checksum: the magic, version 1 with the kind above it, the length of the whole piece in bytes,
-- the stream, and what the kind has of its own
unfoldable pub unsealed : (kind stream : ℕ) → List ℕ → List ℕ
unsealed kind stream body =
    magic ++ (le64 (1 + 2 ^ 32 * kind) ++ (le64 (40 + length body) ++ (le64 stream ++ body)))

-- a piece: the checksum of all bytes before it is at its end
unfoldable pub sealed : (kind stream : ℕ) → List ℕ → List ℕ
sealed kind stream body = unsealed kind stream body ++ le64 (crc32c (unsealed kind stream body))

-- The bytes of a piece. A parcel's are those that are written for a page whose size is the length of its data; a mark's
-- are the CPU's number and the mark's own.
abbrev pub bytes_of_piece : Packed → List ℕ
bytes_of_piece (parcel_piece stream parcel time contents) =
    sealed 0 stream (bytes_of_parcel parcel time contents (length contents))
bytes_of_piece (mark_piece stream cpu mark) = sealed (kind_of_mark mark) stream (le64 cpu ++ numbers_of_mark mark)

-- What holds of a parcel's piece: the parcel is one, the numbers fit 64 bits, there isn't too much data, and it reads
-- as the parcel's records.
pub record IsParcelPiece (stream : ℕ) (parcel : Parcel) (time : ℕ) (contents : List ℕ) : Type 0 where
  pub stream_fits : stream < 2 ^ 64
  pub sound : IsParcel parcel
  pub fill_fits : parcel.fill < 2 ^ 64
  pub time_fits : time < 2 ^ 64
  pub size_fits : length contents ≤ MAX_SIZE
  pub reads : Decodes contents time parcel.records

-- what holds of a mark's piece: there is such a CPU, and the mark is one
pub record IsMarkPiece (stream cpu : ℕ) (mark : Mark) : Type 0 where
  pub stream_fits : stream < 2 ^ 64
  pub cpu_known : cpu < MAX_CPUS
  pub sound : IsMark mark

abbrev pub IsPiece : Packed → Type 0
IsPiece (parcel_piece stream parcel time contents) = IsParcelPiece stream parcel time contents
IsPiece (mark_piece stream cpu mark) = IsMarkPiece stream cpu mark

-- the bytes are those of this piece, and more that follow it
pub record BeginsWith (bytes : List ℕ) (piece : Packed) : Type 0 where
  pub sound : IsPiece piece
  pub rest : List ℕ
  pub whole : bytes ≡ bytes_of_piece piece ++ rest

-- ---- streams

abbrev pub AreAllPieces : List Packed → Type 0
AreAllPieces [] = ⊤
AreAllPieces (piece ∷ pieces) = IsPiece piece × AreAllPieces pieces

-- the bytes of pieces, one after the other
abbrev pub bytes_of_pieces : List Packed → List ℕ
bytes_of_pieces [] = []
bytes_of_pieces (piece ∷ pieces) = bytes_of_piece piece ++ bytes_of_pieces pieces

-- the bytes are the stream of these pieces
pub record IsStream (bytes : List ℕ) (pieces : List Packed) : Type 0 where
  pub sound : AreAllPieces pieces
  pub whole : bytes ≡ bytes_of_pieces pieces
