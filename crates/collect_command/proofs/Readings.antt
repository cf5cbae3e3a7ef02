-- An input is read piece by piece, and its pieces are taken.
use Rattle.std.proofs.Common.{◌≡◌, ℕ, ◌+◌, ◌-◌, ◌^◌, List, [], ◌∷◌, ◌++◌, length, length-append, Option, refl, sym, ap}
use Rattle.std.proofs.Common.{◌∙◌, subst, arith}
use Rattle.std.specs.Prelude.{min}
use Rattle.std.proofs.lemmas.List.{map-append}
use Rattle.parcel_streams.specs.Pieces.{bytes_of_piece, bytes_of_pieces}
use Rattle.parcel_streams.specs.Answers.{piece_seen, pieces_seen}
use Rattle.parcel_streams.specs.declared.piece.Piece.{Piece}
use Rattle.parcel_streams.proofs.Streams.{one_more}
use Rattle.parcel_streams.specs.declared.source.reader.PieceReader.{PieceReader}
use Rattle.parcel_streams.specs.source.Reading.{GivesPiece, GivesPieces}
use Rattle.parcel_streams.specs.source.Readers.{left_of, index_of, at_of}
use Rattle.parcel_streams.proofs.Given.{gives_none, gives_more}
use Rattle.collect_command.specs.streams.Reading.{Placed, capped, piece_length, placed, TakesAll, IsFresh}

-- ---- taking

pub takes_both : {S : Type 0} (takes : S → Placed → S → Type 0) (p : S) (xs : List Placed) (m : S) (ys : List Placed)
    (q : S)
    → TakesAll takes p xs m → TakesAll takes m ys q → TakesAll takes p (xs ++ ys) q
takes_both takes p [] m ys q first second = subst (λ s. TakesAll takes s ys q) (sym first) second
takes_both takes p (x ∷ xs) m ys q (mid, one, more) second = (mid, one, takes_both takes mid xs m ys q more second)

pub takes_more : {S : Type 0} (takes : S → Placed → S → Type 0) (p : S) (xs : List Placed) (m : S) (x : Placed) (q : S)
    → TakesAll takes p xs m → takes m x q → TakesAll takes p (xs ++ x ∷ []) q
takes_more takes p xs m x q first one = takes_both takes p xs m (x ∷ []) q first (q, one, refl)

-- ---- places

pub bytes_more : (pieces : List Piece) (piece : Piece)
    → length (bytes_of_pieces (pieces_seen (pieces ++ piece ∷ [])))
    ≡ length (bytes_of_pieces (pieces_seen pieces)) + piece_length piece
bytes_more pieces piece =
    ap (λ ps. length (bytes_of_pieces ps)) (map-append piece_seen pieces (piece ∷ []))
    ∙ ap length (one_more (pieces_seen pieces) (piece_seen piece))
    ∙ length-append (bytes_of_pieces (pieces_seen pieces)) (bytes_of_piece (piece_seen piece))

pub placed_more : (input at : ℕ) (pieces : List Piece) (piece : Piece)
    → placed input at (pieces ++ piece ∷ [])
    ≡ placed input at pieces
    ++ record { input = input; at = capped (at + length (bytes_of_pieces (pieces_seen pieces))); piece = piece } ∷ []
placed_more input at [] piece =
    ap (λ n. record { input = input; at = capped n; piece = piece } ∷ []) (let e : at ≡ at + 0 = omega arith in e)
placed_more input at (first ∷ pieces) piece =
    let this : Placed = record { input = input; at = capped at; piece = first } in
    let long = length-append (bytes_of_piece (piece_seen first)) (bytes_of_pieces (pieces_seen pieces)) in
    ap (λ more. this ∷ more) (placed_more input (at + piece_length first) pieces piece)
    ∙ ap (λ n. this ∷ placed input (at + piece_length first) pieces ++ record {
      input = input;
      at = capped n;
      piece = piece;
    } ∷ [])
    (let e : at + piece_length first + length (bytes_of_pieces (pieces_seen pieces))
    ≡ at + length (bytes_of_piece (piece_seen first) ++ bytes_of_pieces (pieces_seen pieces)) = omega
    (arith, long) in e)

pub capped_more : (n m old new : ℕ) → old ≡ capped n → new ≡ min (old + m) (2 ^ 64 - 1) → new ≡ capped (n + m)
capped_more n m old new is more = omega arith

-- ---- an input so far

module _ {R S : Type 0} (remaining : R → Option (List ℕ)) (takes : S → Placed → S → Type 0) where
  -- These pieces were given of the input, and taken.
  pub record IsReadSoFar (input : ℕ) (old now : PieceReader R) (before after : S) : Type 0 where
    pub pieces : List Piece
    pub gives : GivesPieces (left_of remaining old) (left_of remaining now) (pieces_seen pieces)
    pub taken : TakesAll takes before (placed input 0 pieces) after
    pub index_is : index_of now ≡ capped (length pieces)
    pub at_is : at_of now ≡ capped (length (bytes_of_pieces (pieces_seen pieces)))

  pub read_none : (input : ℕ) (reader : PieceReader R) (state : S) → IsFresh reader → IsReadSoFar input reader reader
      state state
  read_none input reader state fresh = record {
    pieces = [];
    gives = gives_none (left_of remaining reader);
    taken = refl;
    index_is = fresh.index_is ∙ (let e : 0 ≡ capped 0 = omega arith in e);
    at_is = fresh.at_is ∙ (let e : 0 ≡ capped 0 = omega arith in e);
  }

  pub read_more : (input : ℕ) (old now next : PieceReader R) (before between after : S) (piece : Piece) (at : ℕ)
      → IsReadSoFar input old now before between
      → GivesPiece (left_of remaining now) (left_of remaining next) (piece_seen piece)
      → index_of next ≡ min (index_of now + 1) (2 ^ 64 - 1)
      → at_of next ≡ min (at_of now + piece_length piece) (2 ^ 64 - 1)
      → at ≡ at_of now
      → takes between record { input = input; at = at; piece = piece } after
      → IsReadSoFar input old next before after
  read_more input old now next before between after piece at so_far gives index_is at_is here taken =
      let pieces = so_far.pieces in
      let long = length-append pieces (piece ∷ []) in
      let bytes = bytes_more pieces piece in
      record {
        pieces = pieces ++ piece ∷ [];
        gives = subst (GivesPieces (left_of remaining old) (left_of remaining next))
            (sym (map-append piece_seen pieces (piece ∷ [])))
            (gives_more (left_of remaining old) (left_of remaining now) (left_of remaining next) (pieces_seen pieces)
            (piece_seen piece) so_far.gives gives);
        taken = subst (λ xs. TakesAll takes before xs after) (sym (placed_more input 0 pieces piece))
            (takes_more takes before (placed input 0 pieces) between
            record { input = input; at = capped (0 + length (bytes_of_pieces (pieces_seen pieces))); piece = piece }
            after so_far.taken
            (subst (λ n. takes between record { input = input; at = n; piece = piece } after)
            (here ∙ so_far.at_is ∙ (let e : capped (length (bytes_of_pieces (pieces_seen pieces))) ≡ capped
            (0 + length (bytes_of_pieces (pieces_seen pieces))) = omega arith in e)) taken));
        index_is = capped_more (length pieces) 1 (index_of now) (index_of next) so_far.index_is index_is
            ∙ ap capped (let e : length pieces + 1 ≡ length (pieces ++ piece ∷ []) = omega (arith, long) in e);
        at_is = capped_more (length (bytes_of_pieces (pieces_seen pieces))) (piece_length piece) (at_of now)
            (at_of next) so_far.at_is at_is
            ∙ ap capped (sym bytes);
      }
