-- What is read of a source of pieces. The bytes that a source has yet to give are known, or they aren't. If they
-- aren't, nothing is said of them.
use Rattle.std.specs.Prelude.{◌≡◌, ℕ, ◌-◌, ◌^◌, ◌<◌, ◌≤◌, min, ◌⊎◌, ⊤, List, ◌++◌, length, Option, Some, None, Result}
use Rattle.std.specs.Prelude.{Ok, Err}
use Rattle.std.specs.Io.KnownBytes.{Consumes, IsAtEnd}
use Rattle.parcel_streams.specs.Pieces.{Packed, bytes_of_piece, IsPiece, AreAllPieces, bytes_of_pieces}
use Rattle.parcel_streams.specs.Faults.{HasMagic, PieceCause, FirstPieceFault, IsDecided}
use Rattle.parcel_streams.specs.Answers.{HasPiece}

-- these bytes are all that is left, if that is known
abbrev pub AreLeft : Option (List ℕ) → List ℕ → Type 0
AreLeft None bytes = ⊤
AreLeft (Some left) bytes = left ≡ bytes

-- of what is left a piece was given, and these are left then
pub record GivesPiece (left rest : Option (List ℕ)) (piece : Packed) : Type 0 where
  pub sound : IsPiece piece
  pub taken : Consumes left rest (bytes_of_piece piece)

-- something is left, and this is its first fault as a piece
pub record HasFaultAhead (left : Option (List ℕ)) (cause : PieceCause) : Type 0 where
  pub ahead : List ℕ
  pub are_left : AreLeft left ahead
  pub more : 0 < length ahead
  pub fault : FirstPieceFault ahead cause

-- what is left begins with some piece
pub record HasPieceAhead (left : Option (List ℕ)) : Type 0 where
  pub ahead : List ℕ
  pub are_left : AreLeft left ahead
  pub piece : HasPiece ahead

-- these pieces were given of what was there at first, and the rest is left
pub record GivesPieces (first rest : Option (List ℕ)) (pieces : List Packed) : Type 0 where
  pub sound : AreAllPieces pieces
  pub taken : Consumes first rest (bytes_of_pieces pieces)

-- A reader has given these pieces of what was there at first, and the rest is left. `index` is how many they are, and
-- `at` how many bytes they have. The two numbers stop at 2^64 - 1.
pub record HasGiven (first rest : Option (List ℕ)) (index at : ℕ) (pieces : List Packed) : Type 0 where
  pub gives : GivesPieces first rest pieces
  pub index_is : index ≡ min (length pieces) (2 ^ 64 - 1)
  pub at_is : at ≡ min (length (bytes_of_pieces pieces)) (2 ^ 64 - 1)

-- no piece is answered, and this holds then
abbrev pub OnNoPiece : {A E : Type 0} → Result (Option A) E → Type 0 → Type 0
OnNoPiece (Ok (Some piece)) holds = ⊤
OnNoPiece (Ok None) holds = holds
OnNoPiece (Err fault) holds = holds

-- ---- steps of a reader

-- `count` bytes more were read after those that were there, and none only at the end
pub record ReadsMore (unread now : List ℕ) (remaining rest : Option (List ℕ)) (count : ℕ) : Type 0 where
  pub more : List ℕ
  pub now_is : now ≡ unread ++ more
  pub taken : Consumes remaining rest more
  pub count_is : length more ≡ count
  pub at_end : count ≡ 0 → IsAtEnd rest

-- more bytes were read after those that were there, or none
pub record ReadsOn (unread now : List ℕ) (remaining rest : Option (List ℕ)) : Type 0 where
  pub more : List ℕ
  pub now_is : now ≡ unread ++ more
  pub taken : Consumes remaining rest more

-- what is there decides what the next piece is, or it is all
abbrev pub IsEnough : List ℕ → Option (List ℕ) → Type 0
IsEnough unread remaining = IsDecided unread ⊎ IsAtEnd remaining

-- ---- the first bytes

-- the bytes begin as a stream does
abbrev pub BeginsStream : List ℕ → Type 0
BeginsStream bytes = HasMagic bytes × (8 ≤ length bytes)
