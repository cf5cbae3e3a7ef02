-- Pieces that are given one after the other.
use Rattle.std.proofs.Common.{◌≡◌, ℕ, ◌+◌, ◌-◌, ◌^◌, min, List, [], ◌∷◌, ◌++◌, length, Option, Some, None, refl, sym}
use Rattle.std.proofs.Common.{ap, ◌∙◌, subst, arith, append-nil, length-append}
use Rattle.std.specs.Io.KnownBytes.{Consumes, Keeps, IsAtEnd}
use Rattle.std.proofs.KnownBytes.{Consumes-nil, Consumes-trans, Consumes-kept}
use Rattle.parcel_streams.specs.Pieces.{Packed, bytes_of_piece, bytes_of_pieces, IsStream}
use Rattle.parcel_streams.specs.Faults.{PieceCause, FirstStreamFault}
use Rattle.parcel_streams.proofs.Streams.{one_more, all_joined}
use Rattle.parcel_streams.specs.source.Reading.{AreLeft, GivesPiece, HasFaultAhead, GivesPieces, HasGiven}

pub gives_none : (first : Option (List ℕ)) → GivesPieces first first []
gives_none first = record { sound = tt; taken = Consumes-nil first }

pub gives_more : (first left rest : Option (List ℕ)) (pieces : List Packed) (piece : Packed)
    → GivesPieces first left pieces → GivesPiece left rest piece → GivesPieces first rest (pieces ++ piece ∷ [])
gives_more first left rest pieces piece before next = record {
  sound = all_joined pieces (piece ∷ []) before.sound (next.sound, tt);
  taken = subst (Consumes first rest) (sym (one_more pieces piece))
      (Consumes-trans first left rest (bytes_of_pieces pieces) (bytes_of_piece piece) before.taken next.taken);
}

pub gives_again : (first left rest : Option (List ℕ)) (pieces : List Packed) → GivesPieces first left pieces
    → Keeps left rest → GivesPieces first rest pieces
gives_again first left rest pieces before kept = record {
  sound = before.sound;
  taken = Consumes-kept first left rest (bytes_of_pieces pieces) before.taken kept;
}

pub stream_given : (first left : Option (List ℕ)) (pieces : List Packed) → GivesPieces first left pieces
    → IsAtEnd left → (bytes : List ℕ) × AreLeft first bytes × IsStream bytes pieces
stream_given None left pieces given end =
    (bytes_of_pieces pieces, tt, record { sound = given.sound; whole = refl })
stream_given (Some x) None pieces given end = absurd given.taken
stream_given (Some x) (Some y) pieces given end = (
  x,
  refl,
  record {
    sound = given.sound;
    whole = given.taken ∙ ap (λ (b : List ℕ). bytes_of_pieces pieces ++ b) end ∙ append-nil (bytes_of_pieces pieces);
  },
)

faulty : (bytes ahead : List ℕ) (pieces : List Packed) (cause : PieceCause) (left : Option (List ℕ))
    → (h : HasFaultAhead left cause) → bytes ≡ bytes_of_pieces pieces ++ h.ahead
    → (first : Option (List ℕ)) → GivesPieces first left pieces
    → FirstStreamFault bytes (length pieces) (length (bytes_of_pieces pieces)) cause
faulty bytes ahead pieces cause left h whole first given = record {
  rest = h.ahead;
  before = record { before = pieces; sound = given.sound; whole = whole; index_is = refl; at_is = refl };
  more = h.more;
  fault = h.fault;
}

pub fault_given : (first left : Option (List ℕ)) (pieces : List Packed) (cause : PieceCause)
    → GivesPieces first left pieces → HasFaultAhead left cause → (bytes : List ℕ) × AreLeft first bytes
    × FirstStreamFault bytes (length pieces) (length (bytes_of_pieces pieces)) cause
fault_given None left pieces cause given h = (
  bytes_of_pieces pieces ++ h.ahead,
  tt,
  faulty (bytes_of_pieces pieces ++ h.ahead) h.ahead pieces cause left h refl None given,
)
fault_given (Some x) None pieces cause given h = absurd given.taken
fault_given (Some x) (Some y) pieces cause given h = (
  x,
  refl,
  faulty x h.ahead pieces cause (Some y) h
      (given.taken ∙ ap (λ (b : List ℕ). bytes_of_pieces pieces ++ b) h.are_left) (Some x) given,
)

-- ---- and counted

pub counts_none : (first : Option (List ℕ)) → HasGiven first first 0 0 []
counts_none first = record { gives = gives_none first; index_is = refl; at_is = refl }

pub counts_more : (first left rest : Option (List ℕ)) (index at : ℕ) (pieces : List Packed) (piece : Packed)
    → HasGiven first left index at pieces → GivesPiece left rest piece
    → HasGiven first rest (min (index + 1) (2 ^ 64 - 1)) (min (at + length (bytes_of_piece piece)) (2 ^ 64 - 1))
    (pieces ++ piece ∷ [])
counts_more first left rest index at pieces piece before next =
    let index_is = before.index_is in
    let at_is = before.at_is in
    let count : length (pieces ++ piece ∷ []) ≡ length pieces + 1 = length-append pieces (piece ∷ []) in
    let bytes : length (bytes_of_pieces (pieces ++ piece ∷ []))
    ≡ length (bytes_of_pieces pieces) + length (bytes_of_piece piece) =
    ap length (one_more pieces piece) ∙ length-append (bytes_of_pieces pieces) (bytes_of_piece piece) in
    record {
      gives = gives_more first left rest pieces piece before.gives next;
      index_is = omega arith;
      at_is = omega arith;
    }
