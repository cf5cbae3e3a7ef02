-- What is wrong with a stream: the first fault of its first piece that can't be read. A fault excludes those before it.
use Rattle.std.specs.Prelude.{◌≡◌, ◌≢◌, ℕ, ◌-◌, ◌/◌, ◌%◌, ◌^◌, ◌<◌, ◌≤◌, ◌⊎◌, ◌==◌, if◌then◌else◌, List, ◌++◌, length}
use Rattle.std.specs.Prelude.{take, drop}
use Rattle.parcel_streams.specs.crc32c.Castagnoli.{crc32c}
use Rattle.trace_model.specs.Image.{le64, from_le64}
use Rattle.trace_model.specs.Parcel.{Parcel}
use Rattle.trace_model.specs.ParcelBytes.{bytes_of_parcel, DecodesParcel, ParcelCause, FirstParcelFault}
use Rattle.trace_model.specs.declared.limits.TheConstants.{MAX_CPUS}
use Rattle.parcel_streams.specs.declared.limits.TheConstants.{HEAD, MIN_PIECE, MAX_PIECE, SUM, NUMBER_BODY, RUN_BODY}
use Rattle.parcel_streams.specs.Pieces.{Packed, magic, AreAllPieces, bytes_of_pieces}

-- ---- what the first bytes state

abbrev pub version_in : List ℕ → ℕ
version_in bytes = from_le64 (drop 8 bytes) % 2 ^ 32

abbrev pub kind_in : List ℕ → ℕ
kind_in bytes = from_le64 (drop 8 bytes) / 2 ^ 32

-- the length of the piece
abbrev pub length_in : List ℕ → ℕ
length_in bytes = from_le64 (drop 16 bytes)

abbrev pub stream_in : List ℕ → ℕ
stream_in bytes = from_le64 (drop 24 bytes)

-- what the kind has of its own, between the stream and the checksum
abbrev pub body_in : List ℕ → List ℕ
body_in bytes = take (length_in bytes - HEAD - SUM) (drop HEAD bytes)

-- all before the checksum, and the checksum
abbrev pub summed_in : List ℕ → List ℕ
summed_in bytes = take (length_in bytes - SUM) bytes

abbrev pub sum_in : List ℕ → List ℕ
sum_in bytes = take SUM (drop (length_in bytes - SUM) bytes)

-- ---- what is looked at, one after the other

-- the first eight bytes are the magic; or there are fewer, with which it begins
abbrev pub HasMagic : List ℕ → Type 0
HasMagic bytes = take 8 bytes ≡ take (length bytes) magic

-- and there are as many bytes as all pieces have before what is their own
pub record HasHead (bytes : List ℕ) : Type 0 where
  pub packed : HasMagic bytes
  pub long : HEAD ≤ length bytes

-- and they are of the version that is known
pub record HasVersion (bytes : List ℕ) : Type 0 where
  pub head : HasHead bytes
  pub version_is : version_in bytes ≡ 1

-- and they state a length that a piece may have: that of the least mark, of a parcel with the most data, or one between
pub record HasLength (bytes : List ℕ) : Type 0 where
  pub version : HasVersion bytes
  pub least : MIN_PIECE ≤ length_in bytes
  pub most : length_in bytes ≤ MAX_PIECE

-- and as many bytes are there
pub record IsWhole (bytes : List ℕ) : Type 0 where
  pub stated : HasLength bytes
  pub there : length_in bytes ≤ length bytes

-- The bytes decide what the piece at the front is: its head is there, and all that it states if it states a length that
-- a piece may have. More bytes change nothing.
pub record IsDecided (bytes : List ℕ) : Type 0 where
  pub long : HEAD ≤ length bytes
  pub there : HasLength bytes → length_in bytes ≤ length bytes

-- How many bytes decide it: a head, then what it states; and if it states nothing that may be, those that are there.
pub record IsWanted (bytes : List ℕ) (wanted : ℕ) : Type 0 where
  pub short : length bytes < HEAD → wanted ≡ HEAD
  pub stated : HasLength bytes → wanted ≡ length_in bytes
  pub faulty : HEAD ≤ length bytes → ¬ HasLength bytes → wanted ≡ length bytes

-- and the last eight of them are the checksum of the others
pub record IsSealed (bytes : List ℕ) : Type 0 where
  pub whole : IsWhole bytes
  pub sum_is : sum_in bytes ≡ le64 (crc32c (summed_in bytes))

-- and it is a parcel that is stated
pub record HoldsParcel (bytes : List ℕ) : Type 0 where
  pub seal : IsSealed bytes
  pub kind_is : kind_in bytes ≡ 0

-- or a mark
pub record HoldsMark (bytes : List ℕ) : Type 0 where
  pub seal : IsSealed bytes
  pub kind_least : 1 ≤ kind_in bytes
  pub kind_most : kind_in bytes ≤ 3

-- The bytes are those that are written for this parcel and a page whose size is the length of its data.
abbrev pub IsFitted : List ℕ → Parcel → Type 0
IsFitted body parcel =
    (time : ℕ) × (contents : List ℕ) × (body ≡ bytes_of_parcel parcel time contents (length contents))

-- ---- the causes

-- not_packed: it doesn't begin with the magic. cut: it ends before its head does, or before its stated length.
-- bad_version: another version. bad_length: no piece has the stated length. bad_sum: another checksum. bad_kind:
-- neither a parcel nor a mark. bad_parcel: a parcel's bytes have this first fault. loose: they are a parcel, in another
-- spelling than the one that is written. bad_mark: a mark of another length, of a CPU that there isn't, or that says
-- nothing.
pub data PieceCause : Type 0 where
  not_packed : PieceCause
  cut : PieceCause
  bad_version : PieceCause
  bad_length : PieceCause
  bad_sum : PieceCause
  bad_kind : PieceCause
  bad_parcel : (cause : ParcelCause) → PieceCause
  loose : PieceCause
  bad_mark : PieceCause

-- the first bytes of the piece are there, and not its head; or its head, and not all that it states
abbrev pub IsCut : List ℕ → Type 0
IsCut bytes = (HasMagic bytes × length bytes < HEAD) ⊎ (HasLength bytes × length bytes < length_in bytes)

-- the bytes read as some parcel, and aren't those that are written for it
pub record IsLoose (body : List ℕ) : Type 0 where
  pub parcel : Parcel
  pub reads : DecodesParcel body parcel
  pub otherwise : ¬ IsFitted body parcel

-- how many bytes a mark of this kind has of its own: its CPU, and one number, or the two of a run
abbrev pub mark_body : (kind : ℕ) → ℕ
mark_body kind = if kind == 3 then RUN_BODY else NUMBER_BODY

-- a mark of this kind says nothing: nothing is below its bound, or no number is in its run
abbrev pub IsEmptyMark : (kind first end : ℕ) → Type 0
IsEmptyMark kind first end = ((kind ≡ 2) × (first ≡ 0)) ⊎ ((kind ≡ 3) × (end ≤ first))

-- a mark has another length than its kind, or its CPU isn't one, or it says nothing
abbrev pub IsBadMark : (kind : ℕ) → List ℕ → Type 0
IsBadMark kind body =
    (length body ≢ mark_body kind) ⊎ ((MAX_CPUS ≤ from_le64 body)
    ⊎ IsEmptyMark kind (from_le64 (drop 8 body)) (from_le64 (drop 16 body)))

-- The first fault of the first piece, the causes being looked at in this order.
abbrev pub FirstPieceFault : List ℕ → PieceCause → Type 0
FirstPieceFault bytes not_packed = ¬ HasMagic bytes
FirstPieceFault bytes cut = IsCut bytes
FirstPieceFault bytes bad_version = HasHead bytes × (version_in bytes ≢ 1)
FirstPieceFault bytes bad_length =
    HasVersion bytes × ((length_in bytes < MIN_PIECE) ⊎ (MAX_PIECE < length_in bytes))
FirstPieceFault bytes bad_sum = IsWhole bytes × (sum_in bytes ≢ le64 (crc32c (summed_in bytes)))
FirstPieceFault bytes bad_kind = IsSealed bytes × (3 < kind_in bytes)
FirstPieceFault bytes (bad_parcel cause) = HoldsParcel bytes × FirstParcelFault (body_in bytes) cause
FirstPieceFault bytes loose = HoldsParcel bytes × IsLoose (body_in bytes)
FirstPieceFault bytes bad_mark = HoldsMark bytes × IsBadMark (kind_in bytes) (body_in bytes)

-- `index` whole pieces are at the front, which take `at` bytes, and `rest` follows them.
pub record ReadsTo (bytes : List ℕ) (index at : ℕ) (rest : List ℕ) : Type 0 where
  pub before : List Packed
  pub sound : AreAllPieces before
  pub whole : bytes ≡ bytes_of_pieces before ++ rest
  pub index_is : index ≡ length before
  pub at_is : at ≡ length (bytes_of_pieces before)

-- The first fault of a stream: what follows the whole pieces at its front isn't nothing, and has this first fault.
pub record FirstStreamFault (bytes : List ℕ) (index at : ℕ) (cause : PieceCause) : Type 0 where
  pub rest : List ℕ
  pub before : ReadsTo bytes index at rest
  pub more : 0 < length rest
  pub fault : FirstPieceFault rest cause
