-- A stream that is read piece by piece.
use Rattle.std.proofs.Common.{◌≡◌, ◌⊎◌, inl, inr, ⊎_elim, ℕ, ◌+◌, ◌≤◌, List, [], ◌∷◌, ◌++◌, length, drop, Result, Ok}
use Rattle.std.proofs.Common.{Err, IfOk, IfErr, MatchResult, Vec, Global, sym, ap, ◌∙◌, subst, arith, append_assoc}
use Rattle.std.proofs.Common.{length-append, length-drop}
use Rattle.std.proofs.lemmas.List.{drop_at, drop-drop}
use Rattle.std.proofs.lemmas.List.{map-append}
use Rattle.parcel_streams.specs.declared.piece.Piece.{Piece}
use Rattle.parcel_streams.specs.declared.fault.StreamFault.{StreamFault}
use Rattle.parcel_streams.specs.declared.fault.PieceFault.TheVariants.{NoMemory}
use Rattle.parcel_streams.specs.Pieces.{Packed, bytes_of_piece, AreAllPieces, bytes_of_pieces, IsStream}
use Rattle.parcel_streams.specs.Faults.{PieceCause, FirstStreamFault}
use Rattle.parcel_streams.specs.Answers.{piece_seen, pieces_seen, piece_fault, stream_fault, IsStreamFault, PutsPiece}
use Rattle.parcel_streams.proofs.Answered.{cause_is, fault_named}
use Rattle.parcel_streams.proofs.Streams.{one_more, all_joined, one_stream, stream_no_fault, one_stream_fault}

-- these pieces were read, and they take `at` bytes
pub record StandsAt (bytes : List ℕ) (pieces : List Piece) (at : ℕ) : Type 0 where
  pub within : at ≤ length bytes
  pub sound : AreAllPieces (pieces_seen pieces)
  pub whole : bytes ≡ bytes_of_pieces (pieces_seen pieces) ++ drop at bytes
  pub at_is : at ≡ length (bytes_of_pieces (pieces_seen pieces))

pub stands_next : (bytes : List ℕ) (pieces new : List Piece) (at len : ℕ) → StandsAt bytes pieces at
    → PutsPiece (drop at bytes) pieces new len → StandsAt bytes new (at + len)
stands_next bytes pieces new at len s p =
    let piece : Packed = piece_seen p.piece in
    let front : List ℕ = bytes_of_pieces (pieces_seen pieces) in
    let own : List ℕ = bytes_of_piece piece in
    let rest : List ℕ = p.begins.rest in
    let seen : pieces_seen new ≡ pieces_seen pieces ++ piece ∷ [] = ap pieces_seen p.new_is
    ∙ map-append piece_seen pieces (p.piece ∷ []) in
    let bytes_are : bytes_of_pieces (pieces_seen new) ≡ front ++ own = ap bytes_of_pieces seen
    ∙ one_more (pieces_seen pieces) piece in
    let left : drop (at + len) bytes ≡ rest = sym (drop-drop len at bytes) ∙ ap (drop len) p.begins.whole
    ∙ drop_at own rest len (sym p.len_is) in
    let there : length (drop at bytes) ≡ length (own ++ rest) = ap length p.begins.whole in
    let within = s.within in
    let len_is = p.len_is in
    let at_is = s.at_is in
    record {
      within = omega (arith, length-append own rest, length-drop at bytes);
      sound = subst AreAllPieces (sym seen)
          (all_joined (pieces_seen pieces) (piece ∷ []) s.sound (p.begins.sound, tt));
      whole = s.whole ∙ ap (λ (b : List ℕ). front ++ b) p.begins.whole ∙ sym (append_assoc front own rest)
          ∙ (λ i. sym bytes_are i ++ sym left i);
      at_is = sym (ap length bytes_are ∙ length-append front own ∙ omega arith);
    }

-- ---- what is answered

-- the stream is that of the pieces that are read
abbrev pub ReadAll : List ℕ → Vec Piece Global → Type 0
ReadAll bytes pieces = IsStream bytes (pieces_seen pieces.items)

pub cause_reported : (bytes : List ℕ) (r : Result (Vec Piece Global) StreamFault) (index at : ℕ) (cause : PieceCause)
    → IfErr r (IsStreamFault bytes) → r ≡ Err (stream_fault index at cause) → FirstStreamFault bytes index at cause
cause_reported bytes r index at cause fault e =
    let is : IsStreamFault bytes (stream_fault index at cause) = subst
    (λ (x : Result (Vec Piece Global) StreamFault). IfErr x (IsStreamFault bytes)) e fault in
    record { rest = is.rest; before = is.before; more = is.more; fault = cause_is is.rest cause is.here }

-- a fault that is reported is the first one, or refused memory
named : (bytes : List ℕ) (fault : StreamFault) (index at : ℕ) (cause : PieceCause) → IsStreamFault bytes fault
    → FirstStreamFault bytes index at cause → (fault ≡ stream_fault index at cause) ⊎ (fault.fault ≡ NoMemory)
named bytes fault index at cause is f = ⊎_elim
    (λ refused. inr refused)
    (λ faulty.
    let one = one_stream_fault bytes fault.index index fault.at at faulty.0 cause
    (record { rest = is.rest; before = is.before; more = is.more; fault = faulty.2 }) f in
    let faults : fault.fault ≡ piece_fault cause = faulty.1 ∙ ap piece_fault one.cause_is in
    inl (λ i. record { index = one.index_is i; at = one.at_is i; fault = faults i }))
    (fault_named is.rest fault.fault is.here)

pub fault_reported : (bytes : List ℕ) (r : Result (Vec Piece Global) StreamFault) (index at : ℕ) (cause : PieceCause)
    → IfOk r (ReadAll bytes) → IfErr r (IsStreamFault bytes) → FirstStreamFault bytes index at cause
    → MatchResult r (λ _. ⊥) (λ fault. (fault ≡ stream_fault index at cause) ⊎ (fault.fault ≡ NoMemory))
fault_reported bytes (Ok read) index at cause reads fault f = stream_no_fault bytes (pieces_seen read.items)
    index at cause reads f
fault_reported bytes (Err reported) index at cause reads fault f = named bytes reported index at cause fault f

no_fault : (bytes : List ℕ) (fault : StreamFault) (pieces : List Packed) → IsStreamFault bytes fault
    → IsStream bytes pieces → fault.fault ≡ NoMemory
no_fault bytes fault pieces is s = ⊎_elim
    (λ refused. refused)
    (λ faulty. absurd (stream_no_fault bytes pieces fault.index fault.at faulty.0 s
    (record { rest = is.rest; before = is.before; more = is.more; fault = faulty.2 })))
    (fault_named is.rest fault.fault is.here)

pub stream_reported : (bytes : List ℕ) (r : Result (Vec Piece Global) StreamFault) (pieces : List Packed)
    → IfOk r (ReadAll bytes) → IfErr r (IsStreamFault bytes) → IsStream bytes pieces
    → MatchResult r (λ read. pieces_seen read.items ≡ pieces) (λ fault. fault.fault ≡ NoMemory)
stream_reported bytes (Ok read) pieces reads fault s = one_stream bytes (pieces_seen read.items) pieces reads s
stream_reported bytes (Err reported) pieces reads fault s = no_fault bytes reported pieces fault s
