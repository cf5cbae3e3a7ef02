-- Pieces that are added one after the other.
use Rattle.std.proofs.Common.{◌≡◌, ℕ, suc, ◌+◌, ◌-◌, ◌^◌, ◌<◌, min, inr, List, [], ◌∷◌, ◌++◌, length, take}
use Rattle.std.proofs.Common.{drop, get_or, drop-cons, take-append-drop, append_assoc, length-append, Result}
use Rattle.std.proofs.Common.{Ok, Err, IfErr, sym, ap, ◌∙◌, subst, arith}
use Rattle.std.proofs.lemmas.List.{map-append, take_more}
use Rattle.parcel_streams.specs.Pieces.{AreAllPieces, IsPiece, bytes_of_piece, bytes_of_pieces}
use Rattle.parcel_streams.specs.Answers.{piece_seen, pieces_seen}
use Rattle.parcel_streams.specs.declared.piece.Piece.{Piece}
use Rattle.parcel_streams.proofs.Streams.{one_more as bytes_more, all_joined}
use Rattle.command_io.specs.declared.ends.Sink.{Ghosts}
use Rattle.collect_command.proofs.StreamsGathered.{gathered_more}
use Rattle.ring_region.specs.declared.regions.Region.{Region}
use Rattle.collect_command.specs.declared.recovery.gather.Stop.{Stop}
use Rattle.collect_command.specs.declared.recovery.gather.Stop.TheVariants.{Refused, NoMemory}
use Rattle.collect_command.specs.recovery.Telling.{IsToldBy}
use Rattle.collect_command.specs.recovery.Gathering.{Gathering, Has, AddsOne, AddsAll, AreCounted, StopsAmong}
use Rattle.collect_command.specs.recovery.Gathering.{StopsInRegion}

module _ {K : Type 0} {g : Ghosts K} where
  pub adds_more : (pieces : List Piece) (old mid new : Gathering K g) (piece : Piece) → AddsAll pieces old mid
      → IsPiece (piece_seen piece) → AddsOne piece mid new → AddsAll (pieces ++ piece ∷ []) old new
  adds_more pieces old mid new piece all is one = record {
    sound = subst AreAllPieces (sym (map-append piece_seen pieces (piece ∷ [])))
        (all_joined (pieces_seen pieces) (piece_seen piece ∷ []) all.sound (is, tt));
    adds = λ start before has. subst (Has start new) (append_assoc before pieces (piece ∷ []))
        (gathered_more start mid.out new.out mid.fleet new.fleet (before ++ pieces) piece (all.adds start before has)
        one);
  }

  pub adds_both : (pieces others : List Piece) (old mid new : Gathering K g) → AddsAll pieces old mid
      → AddsAll others mid new → AddsAll (pieces ++ others) old new
  adds_both pieces others old mid new one two = record {
    sound = subst AreAllPieces (sym (map-append piece_seen pieces others))
        (all_joined (pieces_seen pieces) (pieces_seen others) one.sound two.sound);
    adds = λ start before has. subst (Has start new) (append_assoc before pieces others)
        (two.adds start (before ++ pieces) (one.adds start before has));
  }

-- ---- counts

pub counted_more : (pieces : List Piece) (piece : Piece) (index at : ℕ) → AreCounted pieces index at
    → AreCounted (pieces ++ piece ∷ []) (min (index + 1) (2 ^ 64 - 1))
    (min (at + length (bytes_of_piece (piece_seen piece))) (2 ^ 64 - 1))
counted_more pieces piece index at so_far =
    let index_is = so_far.index_is in
    let at_is = so_far.at_is in
    let count : length (pieces ++ piece ∷ []) ≡ length pieces + 1 = length-append pieces (piece ∷ []) in
    let bytes : length (bytes_of_pieces (pieces_seen (pieces ++ piece ∷ [])))
    ≡ length (bytes_of_pieces (pieces_seen pieces)) + length (bytes_of_piece (piece_seen piece)) =
    ap (λ ps. length (bytes_of_pieces ps)) (map-append piece_seen pieces (piece ∷ []))
    ∙ ap length (bytes_more (pieces_seen pieces) (piece_seen piece))
    ∙ length-append (bytes_of_pieces (pieces_seen pieces)) (bytes_of_piece (piece_seen piece)) in
    record { index_is = omega arith; at_is = omega arith }

-- ---- places in a list

pub cut_at : {X : Type 0} (xs : List X) (k : ℕ) (x : X) → k < length xs → x ≡ get_or xs k x
    → xs ≡ take k xs ++ x ∷ drop (suc k) xs
cut_at xs k x inside is =
    sym (take-append-drop k xs) ∙ ap (λ ys. take k xs ++ ys) (drop-cons xs k x inside)
    ∙ ap (λ y. take k xs ++ y ∷ drop (suc k) xs) (sym is)

pub next_taken : {X : Type 0} (xs : List X) (k : ℕ) (x : X) → k < length xs → x ≡ get_or xs k x
    → take k xs ++ x ∷ [] ≡ take (k + 1) xs
next_taken xs k x inside is = ap (λ y. take k xs ++ y ∷ []) is ∙ sym (take_more xs k x inside)

-- ---- where it stops

pub on_err : {T E : Type 0} {A B : E → Type 0} (result : Result T E) → IfErr result A → ((e : E) → A e → B e)
    → IfErr result B
on_err (Ok x) a f = tt
on_err (Err e) a f = f e a

pub stops_in_region : {K : Type 0} {g : Ghosts K} (region : Region) (pieces : List Piece) (old new : Gathering K g)
    (stop : Stop)
    → IsToldBy region (pieces_seen pieces) → StopsAmong pieces old new stop → StopsInRegion region old new stop
stops_in_region region pieces old new NoMemory told s = record {
  pieces = s.front;
  adds = s.adds;
  why = inr (
    pieces_seen (s.piece ∷ s.behind),
    subst (IsToldBy region) (ap pieces_seen s.pieces_are ∙ map-append piece_seen s.front (s.piece ∷ s.behind)) told,
  );
}
stops_in_region region pieces old new (Refused index at stream cpu refusal) told s = record {
  pieces = s.front;
  adds = s.adds;
  why = (
    s.piece,
    s.behind,
    subst (λ ps. IsToldBy region (pieces_seen ps)) s.pieces_are told,
    s.why.0,
    s.why.1,
    s.why.2,
  );
}
