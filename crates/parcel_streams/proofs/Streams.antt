-- Streams: pieces one after the other, which the bytes decide.
use Rattle.std.proofs.Common.{◌≡◌, ◌⊎◌, inl, inr, ⊎_elim, ℕ, zero, suc, ◌+◌, ◌<◌, ◌≤◌, List, [], ◌∷◌, ◌++◌, length}
use Rattle.std.proofs.Common.{refl, sym, ap, ◌∙◌, subst, arith, append_assoc, append-nil, length-append}
use Rattle.trace_model.specs.FirstFault.{AreBytes}
use Rattle.trace_model.proofs.words.OneWord.{AreBytes-drop}
use Rattle.trace_model.specs.Image.{le64}
use Rattle.trace_model.specs.ParcelBytes.{bytes_of_parcel}
use Rattle.parcel_streams.specs.Pieces.{Packed, parcel_piece, mark_piece, kind_of_mark, numbers_of_mark, bytes_of_piece}
use Rattle.parcel_streams.specs.Pieces.{IsPiece, BeginsWith, AreAllPieces, bytes_of_pieces, IsStream}
use Rattle.parcel_streams.specs.Faults.{PieceCause, FirstPieceFault, FirstStreamFault, length_in}
use Rattle.parcel_streams.proofs.Frames.{length-sealed}
use Rattle.parcel_streams.proofs.Marks.{kind_least, kind_most, length-mark, mark_least}
use Rattle.parcel_streams.proofs.Readings.{length-body, one_piece, rest_is}
use Rattle.parcel_streams.proofs.OneFault.{one_fault, piece_no_fault, piece_or_fault}

-- ---- more pieces

pub joined : (pieces others : List Packed)
    → bytes_of_pieces (pieces ++ others) ≡ bytes_of_pieces pieces ++ bytes_of_pieces others
joined [] others = refl
joined (piece ∷ pieces) others = ap (λ (b : List ℕ). bytes_of_piece piece ++ b) (joined pieces others)
    ∙ sym (append_assoc (bytes_of_piece piece) (bytes_of_pieces pieces) (bytes_of_pieces others))

pub all_joined : (pieces others : List Packed) → AreAllPieces pieces → AreAllPieces others
    → AreAllPieces (pieces ++ others)
all_joined [] others own more = more
all_joined (piece ∷ pieces) others own more = (own.0, all_joined pieces others own.1 more)

pub one_more : (pieces : List Packed) (piece : Packed)
    → bytes_of_pieces (pieces ++ piece ∷ []) ≡ bytes_of_pieces pieces ++ bytes_of_piece piece
one_more pieces piece = joined pieces (piece ∷ [])
    ∙ ap (λ (b : List ℕ). bytes_of_pieces pieces ++ b) (append-nil (bytes_of_piece piece))

pub piece_len : (piece : Packed) → 56 ≤ length (bytes_of_piece piece)
piece_len (parcel_piece stream parcel time contents) =
    omega (
      arith,
      length-sealed 0 stream (bytes_of_parcel parcel time contents (length contents)),
      length-body parcel
          time contents,
    )
piece_len (mark_piece stream cpu mark) =
    let kind : ℕ = kind_of_mark mark in
    let least = mark_least kind (kind_least mark) (kind_most mark) in
    omega (arith, length-sealed kind stream (le64 cpu ++ numbers_of_mark mark), length-mark cpu mark)

pub joined_streams : (bytes behind : List ℕ) (pieces others : List Packed) → IsStream bytes pieces
    → IsStream behind others → IsStream (bytes ++ behind) (pieces ++ others)
joined_streams bytes behind pieces others own more = record {
  sound = all_joined pieces others own.sound more.sound;
  whole = (λ i. own.whole i ++ more.whole i) ∙ sym (joined pieces others);
}

-- ---- one cut

-- no piece is at the front
abbrev pub NoPiece : List ℕ → Type 0
NoPiece bytes = (piece : Packed) → BeginsWith bytes piece → ⊥

pub record SameCut (pieces others : List Packed) (rest left : List ℕ) : Type 0 where
  pub pieces_are : pieces ≡ others
  pub rests_are : rest ≡ left

first_piece : (bytes : List ℕ) (piece : Packed) (pieces : List Packed) (rest : List ℕ) → IsPiece piece
    → bytes ≡ bytes_of_pieces (piece ∷ pieces) ++ rest → BeginsWith bytes piece
first_piece bytes piece pieces rest sound whole = record {
  sound = sound;
  rest = bytes_of_pieces pieces ++ rest;
  whole = whole ∙ append_assoc (bytes_of_piece piece) (bytes_of_pieces pieces) rest;
}

pub one_cut : (bytes : List ℕ) (pieces others : List Packed) (rest left : List ℕ) → AreAllPieces pieces
    → AreAllPieces others → bytes ≡ bytes_of_pieces pieces ++ rest → bytes ≡ bytes_of_pieces others ++ left
    → NoPiece rest → NoPiece left → SameCut pieces others rest left
unfolding first_piece
one_cut bytes [] [] rest left own others_are one two none none_there = record
    { pieces_are = refl; rests_are = sym one ∙ two }
one_cut bytes [] (other ∷ others) rest left own others_are one two none none_there =
    absurd (none other (subst (λ (b : List ℕ). BeginsWith b other) one
    (first_piece bytes other others left others_are.0 two)))
one_cut bytes (piece ∷ pieces) [] rest left own others_are one two none none_there =
    absurd (none_there piece (subst (λ (b : List ℕ). BeginsWith b piece) two
    (first_piece bytes piece pieces rest own.0 one)))
one_cut bytes (piece ∷ pieces) (other ∷ others) rest left own others_are one two none none_there =
    let b = first_piece bytes piece pieces rest own.0 one in
    let c = first_piece bytes other others left others_are.0 two in
    let heads = one_piece bytes piece other b c in
    let rests : bytes_of_pieces pieces ++ rest ≡ bytes_of_pieces others ++ left = rest_is bytes piece b
    ∙ sym (rest_is bytes other c) in
    let tails = one_cut (bytes_of_pieces pieces ++ rest)
    pieces others rest left own.1 others_are.1 refl rests none none_there in
    record { pieces_are = (λ i. heads i ∷ tails.pieces_are i); rests_are = tails.rests_are }

none_in_nothing : NoPiece []
none_in_nothing piece b =
    let len : 0 ≡ length (bytes_of_piece piece ++ b.rest) = ap length b.whole in
    omega (arith, length-append (bytes_of_piece piece) b.rest, piece_len piece)

none_in_fault : (bytes : List ℕ) (cause : PieceCause) → FirstPieceFault bytes cause → NoPiece bytes
none_in_fault bytes cause f = λ piece b. piece_no_fault bytes piece cause b f

pub one_stream : (bytes : List ℕ) (pieces others : List Packed) → IsStream bytes pieces → IsStream bytes others
    → pieces ≡ others
one_stream bytes pieces others own that =
    (one_cut bytes pieces others [] [] own.sound that.sound (own.whole ∙ sym (append-nil (bytes_of_pieces pieces)))
    (that.whole ∙ sym (append-nil (bytes_of_pieces others))) none_in_nothing none_in_nothing).pieces_are

pub stream_no_fault : (bytes : List ℕ) (pieces : List Packed) (index at : ℕ) (cause : PieceCause)
    → IsStream bytes pieces → FirstStreamFault bytes index at cause → ⊥
stream_no_fault bytes pieces index at cause own f =
    let cut = one_cut bytes pieces f.before.before [] f.rest own.sound f.before.sound
    (own.whole ∙ sym (append-nil (bytes_of_pieces pieces))) f.before.whole none_in_nothing
    (none_in_fault f.rest cause f.fault) in
    let more = f.more in
    let len : 0 ≡ length f.rest = ap length cut.rests_are in
    omega arith

pub record SameFault (index other at there : ℕ) (cause reason : PieceCause) : Type 0 where
  pub index_is : index ≡ other
  pub at_is : at ≡ there
  pub cause_is : cause ≡ reason

pub one_stream_fault : (bytes : List ℕ) (index other at there : ℕ) (cause reason : PieceCause)
    → FirstStreamFault bytes index at cause → FirstStreamFault bytes other there reason
    → SameFault index other at there cause reason
one_stream_fault bytes index other at there cause reason f g =
    let cut = one_cut bytes f.before.before g.before.before f.rest g.rest f.before.sound g.before.sound f.before.whole
    g.before.whole (none_in_fault f.rest cause f.fault) (none_in_fault g.rest reason g.fault) in
    record {
      index_is = f.before.index_is ∙ ap length cut.pieces_are ∙ sym g.before.index_is;
      at_is = f.before.at_is ∙ ap (λ (ps : List Packed). length (bytes_of_pieces ps)) cut.pieces_are
          ∙ sym g.before.at_is;
      cause_is = one_fault g.rest cause reason (subst (λ (b : List ℕ). FirstPieceFault b cause) cut.rests_are f.fault)
          g.fault;
    }

-- ---- a stream, or a fault

abbrev pub IsReadStream : List ℕ → Type 0
IsReadStream bytes = (pieces : List Packed) × IsStream bytes pieces

abbrev pub IsFaultyStream : List ℕ → Type 0
IsFaultyStream bytes = (index at : ℕ) × (cause : PieceCause) × FirstStreamFault bytes index at cause

-- one more piece before a stream, or before a fault
stream_behind : (bytes : List ℕ) (piece : Packed) (b : BeginsWith bytes piece) → IsReadStream b.rest
    → IsReadStream bytes
stream_behind bytes piece b s = (
  piece ∷ s.0,
  record {
    sound = (b.sound, s.1.sound);
    whole = b.whole
        ∙ ap (λ (x : List ℕ). bytes_of_piece piece ++ x) s.1.whole;
  },
)

fault_behind : (bytes : List ℕ) (piece : Packed) (b : BeginsWith bytes piece) → IsFaultyStream b.rest
    → IsFaultyStream bytes
fault_behind bytes piece b (index, at, cause, f) = (
  suc index,
  length (bytes_of_piece piece) + at,
  cause,
  record {
    rest = f.rest;
    before = record {
      before = piece ∷ f.before.before;
      sound = (b.sound, f.before.sound);
      whole = b.whole ∙ ap (λ (x : List ℕ). bytes_of_piece piece ++ x) f.before.whole
          ∙ sym (append_assoc (bytes_of_piece piece) (bytes_of_pieces f.before.before) f.rest);
      index_is = ap suc f.before.index_is;
      at_is = ap (λ (n : ℕ). length (bytes_of_piece piece) + n) f.before.at_is
          ∙ sym (length-append (bytes_of_piece piece) (bytes_of_pieces f.before.before));
    };
    more = f.more;
    fault = f.fault;
  },
)

behind : (bytes : List ℕ) (piece : Packed) (b : BeginsWith bytes piece) → IsReadStream b.rest ⊎ IsFaultyStream b.rest
    → IsReadStream bytes ⊎ IsFaultyStream bytes
behind bytes piece b after = ⊎_elim (λ s. inl (stream_behind bytes piece b s))
    (λ f. inr (fault_behind bytes piece b f)) after

shorter : (n : ℕ) (bytes : List ℕ) (piece : Packed) (b : BeginsWith bytes piece) → length bytes ≤ suc n
    → length b.rest ≤ n
shorter n bytes piece b fits =
    let whole : length bytes ≡ length (bytes_of_piece piece ++ b.rest) = ap length b.whole in
    omega (arith, length-append (bytes_of_piece piece) b.rest, piece_len piece)

bytes_left : (bytes : List ℕ) (piece : Packed) (b : BeginsWith bytes piece) → AreBytes bytes → AreBytes b.rest
bytes_left bytes piece b small = subst AreBytes (sym (rest_is bytes piece b))
    (AreBytes-drop (length_in bytes) bytes small)

at_front : (bytes : List ℕ) (cause : PieceCause) → 0 < length bytes → FirstPieceFault bytes cause
    → IsFaultyStream bytes
at_front bytes cause more f = (
  0,
  0,
  cause,
  record {
    rest = bytes;
    before = record { before = []; sound = tt; whole = refl; index_is = refl; at_is = refl };
    more = more;
    fault = f;
  },
)

within : (n : ℕ) (bytes : List ℕ) → length bytes ≤ n → AreBytes bytes → IsReadStream bytes ⊎ IsFaultyStream bytes
within n [] fits small = inl ([], record { sound = tt; whole = refl })
within zero (x ∷ xs) fits small = absurd (omega arith)
within (suc n) (x ∷ xs) fits small = ⊎_elim
    (λ there. behind (x ∷ xs) there.0 there.1
    (within n there.1.rest (shorter n (x ∷ xs) there.0 there.1 fits) (bytes_left (x ∷ xs) there.0 there.1 small)))
    (λ faulty. inr (at_front (x ∷ xs) faulty.0 (omega arith) faulty.1))
    (piece_or_fault (x ∷ xs) small)

pub stream_or_fault : (bytes : List ℕ) → AreBytes bytes → IsReadStream bytes ⊎ IsFaultyStream bytes
stream_or_fault bytes small = within (length bytes) bytes (omega arith) small
