-- What pieces that are added one after the other state, and what is kept of them.
use Rattle.std.proofs.Common.{◌≡◌, ℕ, List, [], ◌∷◌, ◌++◌, append_assoc, append-nil, sym, subst, ap, ◌∙◌}
use Rattle.std.proofs.lemmas.List.{map-append}
use Rattle.parcel_streams.specs.Pieces.{Packed, bytes_of_pieces}
use Rattle.parcel_streams.specs.Answers.{piece_seen, pieces_seen}
use Rattle.parcel_streams.specs.declared.piece.Piece.{Piece}
use Rattle.parcel_streams.specs.declared.piece.Piece.TheVariants.{Parcel as ParcelPiece, Mark as MarkPiece}
use Rattle.parcel_streams.proofs.Streams.{joined}
use Rattle.stream_collector.specs.Stream.{Stream}
use Rattle.stream_collector.specs.declared.added.Added.{Added}
use Rattle.stream_collector.specs.declared.added.Added.TheVariants.{New, Known, Forgotten}
use Rattle.fleet_collector.specs.Pieces.{AddsPiece}
use Rattle.fleet_collector.specs.Told.{IsFleetOf}
use Rattle.fleet_collector.proofs.Adding.{piece_added}
use Rattle.fleet_collector.proofs.Telling.{told_by_none}
use Rattle.command_io.specs.declared.ends.Sink.{Ghosts}
use Rattle.text_values.specs.declared.output.Out.{Out}
use Rattle.text_values.specs.Putting.{Start, HasPut}
use Rattle.fleet_text.specs.Hidden.{given_by, given_by_all}
use Rattle.fleet_text.specs.Runs.{Run}
use Rattle.collect_command.specs.declared.streams.gather.Gatherer.{Gatherer}
use Rattle.collect_command.specs.streams.Reading.{Placed, TakesAll}
use Rattle.collect_command.specs.streams.Gathering.{AreAdded, none_added, one_more, kept_of, Gathers, HasGathered}
use Rattle.collect_command.specs.streams.Gathering.{pieces_in}

-- ---- what they state

stays_known : (old new : List (ℕ × Stream)) (piece : Piece) → AddsPiece old new piece Known → new ≡ old
stays_known old new (ParcelPiece stream parcel) a = a.unchanged
stays_known old new (MarkPiece stream cpu mark) a = a.0

kept_more : (kept : List Packed) (old new : List (ℕ × Stream)) (piece : Piece) (added : Added) → AddsPiece old new piece
    added
    → IsFleetOf kept old → IsFleetOf (kept ++ kept_of piece added) new
kept_more kept old new piece New a was = piece_added kept old new piece New a was
kept_more kept old new piece Known a was =
    subst (IsFleetOf (kept ++ [])) (sym (stays_known old new piece a)) (subst (λ ps. IsFleetOf ps old)
    (sym (append-nil kept)) was)
kept_more kept old new piece Forgotten a was = piece_added kept old new piece Forgotten a was

of_none : IsFleetOf [] []
of_none = record { streams = told_by_none }

pub added_told : {pieces : List Piece} {fleet : List (ℕ × Stream)} {kept : List Packed} → AreAdded pieces fleet kept
    → IsFleetOf (pieces_seen pieces) fleet × IsFleetOf kept fleet
added_told none_added = (of_none, of_none)
added_told (one_more pieces old new kept piece added before adds) =
    let was = added_told before in (
      subst (λ ps. IsFleetOf ps new) (sym (map-append piece_seen pieces (piece ∷ [])))
          (piece_added (pieces_seen pieces) old new piece added adds was.0),
      kept_more kept old new piece added adds was.1,
    )

-- ---- gathering

module _ {K : Type 0} {g : Ghosts K} where
  pub none_gathered : (start : Start) (out : Out K g) (fleet : List (ℕ × Stream)) → fleet ≡ [] → HasPut start [] out
      → HasGathered start out fleet []
  none_gathered start out fleet none has = record {
    kept = [];
    added = subst (λ (f : List (ℕ × Stream)). AreAdded [] f []) (sym none) none_added;
    put = has;
  }

  pub gathered_more : (start : Start) (out out_now : Out K g) (fleet fleet_now : List (ℕ × Stream))
      (pieces : List Piece) (piece : Piece) → HasGathered start out fleet pieces
      → Gathers piece fleet out fleet_now out_now → HasGathered start out_now fleet_now (pieces ++ piece ∷ [])
  gathered_more start out out_now fleet fleet_now pieces piece has one = record {
    kept = has.kept ++ kept_of piece one.added;
    added = one_more pieces fleet fleet_now has.kept piece one.added has.added one.adds;
    put = subst (λ t. HasPut start t out_now) (sym (joined has.kept (kept_of piece one.added)))
        (one.put start (bytes_of_pieces has.kept) has.put);
  }

  module _ {G : Type 0} (fleet_of : G → List (ℕ × Stream)) where
    abbrev pub GathersTo : (G × Out K g) → Placed → (G × Out K g) → Type 0
    GathersTo p placed q = Gathers placed.piece (fleet_of p.0) p.1 (fleet_of q.0) q.1

    pub all_gathered : (start : Start) (before : List Piece) (pieces : List Placed) (p q : G × Out K g)
        → HasGathered start p.1 (fleet_of p.0) before → TakesAll GathersTo p pieces q
        → HasGathered start q.1 (fleet_of q.0) (before ++ pieces_in pieces)
    all_gathered start before [] p q has same =
        subst (λ (z : G × Out K g). HasGathered start z.1 (fleet_of z.0) (before ++ [])) same
        (subst (HasGathered start p.1 (fleet_of p.0)) (sym (append-nil before)) has)
    all_gathered start before (x ∷ xs) p q has (m, one, more) =
        subst (HasGathered start q.1 (fleet_of q.0)) (append_assoc before (x.piece ∷ []) (pieces_in xs))
        (all_gathered start (before ++ x.piece ∷ []) xs m q
        (gathered_more start p.1 m.1 (fleet_of p.0) (fleet_of m.0) before x.piece has one) more)

  -- what the gatherer makes of a piece
  abbrev pub TakesTo : (Gatherer × Out K g) → Placed → (Gatherer × Out K g) → Type 0
  TakesTo p placed q = Gathers placed.piece p.0.fleet p.1 q.0.fleet q.1
      × (q.0.given ≡ p.0.given ++ given_by (piece_seen placed.piece))

  -- the numbers of all pieces' records are noted
  pub all_given : (pieces : List Placed) (p q : Gatherer × Out K g) → TakesAll TakesTo p pieces q
      → q.0.given ≡ p.0.given ++ given_by_all (pieces_seen (pieces_in pieces))
  all_given [] p q same =
      ap (λ (z : Gatherer × Out K g). z.0.given) (sym same) ∙ sym (append-nil p.0.given)
  all_given (x ∷ xs) p q (m, one, more) =
      let rest = given_by_all (pieces_seen (pieces_in xs)) in
      all_given xs m q more ∙ ap (λ (runs : List Run). runs ++ rest) one.1
      ∙ append_assoc p.0.given (given_by (piece_seen x.piece)) rest
