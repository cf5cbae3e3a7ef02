-- What is left after bytes that were read.
use Rattle.std.proofs.Common.{◌≡◌, ⊎_elim, ℕ, ◌<◌, List, ◌++◌, length, drop, Option, Some, None, refl, sym, ap, ◌∙◌}
use Rattle.std.proofs.Common.{subst, arith, append_assoc, append-nil, length-append}
use Rattle.std.proofs.lemmas.List.{drop_at}
use Rattle.std.specs.Io.KnownBytes.{Consumes, Keeps, prepend_known}
use Rattle.parcel_streams.specs.Pieces.{Packed, bytes_of_piece, BeginsWith}
use Rattle.parcel_streams.specs.Faults.{PieceCause, FirstPieceFault}
use Rattle.parcel_streams.specs.Answers.{HasPiece}
use Rattle.parcel_streams.proofs.Decided.{piece_stays, fault_stays}
use Rattle.parcel_streams.specs.source.Reading.{AreLeft, GivesPiece, HasFaultAhead, HasPieceAhead, ReadsOn, IsEnough}

-- ---- reading keeps what is left

reads_keep : (unread now : List ℕ) (remaining rest : Option (List ℕ)) → ReadsOn unread now remaining rest
    → Keeps (prepend_known unread remaining) (prepend_known now rest)
reads_keep unread now None rest r = tt
reads_keep unread now (Some x) None r = absurd r.taken
reads_keep unread now (Some x) (Some y) r =
    ap (λ (b : List ℕ). b ++ y) r.now_is ∙ append_assoc unread r.more y
    ∙ ap (λ (b : List ℕ). unread ++ b) (sym r.taken)

pub reads_kept : (old unread now : List ℕ) (remaining rest : Option (List ℕ)) → unread ≡ old
    → ReadsOn unread now remaining rest → Keeps (prepend_known old remaining) (prepend_known now rest)
reads_kept old unread now remaining rest is r = subst
    (λ (b : List ℕ). Keeps (prepend_known b remaining) (prepend_known now rest)) is
    (reads_keep unread now remaining rest r)

pub left_before : (old new : Option (List ℕ)) (bytes : List ℕ) → Keeps old new → AreLeft new bytes → AreLeft old bytes
left_before None new bytes kept are = tt
left_before (Some x) None bytes kept are = absurd kept
left_before (Some x) (Some y) bytes kept are = sym kept ∙ are

pub consumes_before : (old new rest : Option (List ℕ)) (bytes : List ℕ) → Keeps old new → Consumes new rest bytes
    → Consumes old rest bytes
consumes_before None new rest bytes kept taken = tt
consumes_before (Some x) None rest bytes kept taken = absurd kept
consumes_before (Some x) (Some y) None bytes kept taken = absurd taken
consumes_before (Some x) (Some y) (Some z) bytes kept taken = sym kept ∙ taken

-- ---- the next piece

pub takes : (unread rest front : List ℕ) (remaining : Option (List ℕ)) → unread ≡ front ++ rest
    → Consumes (prepend_known unread remaining) (prepend_known rest remaining) front
takes unread rest front None is = tt
takes unread rest front (Some x) is = ap (λ (b : List ℕ). b ++ x) is ∙ append_assoc front rest x

pub gives_piece : (unread rest : List ℕ) (remaining old : Option (List ℕ)) (piece : Packed) (len : ℕ)
    → Keeps old (prepend_known unread remaining) → BeginsWith unread piece → len ≡ length (bytes_of_piece piece)
    → rest ≡ drop len unread → GivesPiece old (prepend_known rest remaining) piece
gives_piece unread rest remaining old piece len kept b len_is rest_is =
    let own : List ℕ = bytes_of_piece piece in
    let left : rest ≡ b.rest = rest_is ∙ ap (drop len) b.whole ∙ drop_at own b.rest len (sym len_is) in
    let whole : unread ≡ own ++ rest = b.whole ∙ ap (λ (x : List ℕ). own ++ x) (sym left) in
    record {
      sound = b.sound;
      taken = consumes_before old (prepend_known unread remaining) (prepend_known rest remaining) own kept
          (takes unread rest own remaining whole);
    }

-- ---- a fault

fault_here : (unread : List ℕ) (remaining : Option (List ℕ)) (cause : PieceCause)
    → IsEnough unread remaining → 0 < length unread → FirstPieceFault unread cause
    → HasFaultAhead (prepend_known unread remaining) cause
fault_here unread None cause enough more f = record { ahead = unread; are_left = tt; more = more; fault = f }
fault_here unread (Some x) cause enough more f = ⊎_elim
    (λ decided. record {
      ahead = unread ++ x;
      are_left = refl;
      more = longer;
      fault = fault_stays unread x cause decided f;
    })
    (λ end. record {
      ahead = unread;
      are_left = ap (λ (b : List ℕ). unread ++ b) end ∙ append-nil unread;
      more = more;
      fault = f;
    })
    enough
  where
    longer : 0 < length (unread ++ x)
    longer = omega (arith, length-append unread x)

pub fault_ahead : (unread : List ℕ) (remaining old : Option (List ℕ)) (cause : PieceCause)
    → Keeps old (prepend_known unread remaining) → IsEnough unread remaining → 0 < length unread
    → FirstPieceFault unread cause → HasFaultAhead old cause
fault_ahead unread remaining old cause kept enough more f =
    let here = fault_here unread remaining cause enough more f in
    record {
      ahead = here.ahead;
      are_left = left_before old (prepend_known unread remaining) here.ahead kept here.are_left;
      more = here.more;
      fault = here.fault;
    }

piece_here : (unread : List ℕ) (remaining : Option (List ℕ)) → HasPiece unread
    → HasPieceAhead (prepend_known unread remaining)
piece_here unread None has = record { ahead = unread; are_left = tt; piece = has }
piece_here unread (Some x) has =
    record { ahead = unread ++ x; are_left = refl; piece = (has.0, piece_stays unread x has.0 has.1) }

pub piece_ahead : (unread : List ℕ) (remaining old : Option (List ℕ)) → Keeps old (prepend_known unread remaining)
    → HasPiece unread → HasPieceAhead old
piece_ahead unread remaining old kept has =
    let here = piece_here unread remaining has in
    record {
      ahead = here.ahead;
      are_left = left_before old (prepend_known unread remaining) here.ahead kept here.are_left;
      piece = here.piece;
    }
