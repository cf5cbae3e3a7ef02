-- What is made of pieces: a fleet and the pieces that were new, or a line for each.
use Rattle.std.specs.Prelude.{◌≡◌, ◌⊎◌, ℕ, Bool, true, false, List, [], ◌∷◌, ◌++◌, map, flat_map, Option}
use Rattle.std.specs.Io.KnownBytes.{Appends}
use Rattle.command_io.specs.CommandRun.{AppendsPrefix}
use Rattle.parcel_streams.specs.Pieces.{Packed, bytes_of_pieces}
use Rattle.parcel_streams.specs.Answers.{piece_seen, pieces_seen}
use Rattle.parcel_streams.specs.declared.piece.Piece.{Piece}
use Rattle.stream_collector.specs.Stream.{Stream}
use Rattle.collector.specs.declared.fault.AddFault.TheVariants.{NoMemory}
use Rattle.stream_collector.specs.declared.fault.AddFault.TheVariants.{Refused}
use Rattle.stream_collector.specs.declared.added.Added.{Added}
use Rattle.stream_collector.specs.declared.added.Added.TheVariants.{New, Known, Forgotten}
use Rattle.fleet_collector.specs.declared.refusal.PieceRefusal.{PieceRefusal}
use Rattle.fleet_collector.specs.declared.refusal.PieceRefusal.TheVariants.{Parcel}
use Rattle.fleet_collector.specs.Pieces.{AddsPiece, IsRefusal}
use Rattle.fleet_collector.specs.Told.{IsFleetOf}
use Rattle.capture_text.specs.declared.form.Form.{Form}
use Rattle.command_io.specs.declared.ends.Sink.{Ghosts}
use Rattle.text_values.specs.declared.output.Out.{Out}
use Rattle.text_values.specs.Putting.{Start, HasPut, Puts}
use Rattle.fleet_text.specs.Pieces.{piece_line}
use Rattle.collect_command.specs.streams.Reading.{Placed, piece_length}

-- what is kept of a piece that was added: the piece if it was new or below the bound of its CPU, and else nothing,
-- since what is kept already says all that it says
abbrev pub kept_of : Piece → Added → List Packed
kept_of piece New = piece_seen piece ∷ []
kept_of piece Known = []
kept_of piece Forgotten = piece_seen piece ∷ []

-- Pieces were added to an empty fleet, one after the other, and it has become this one. Those that were new when they
-- came, or below a bound, are kept, in their order.
pub data AreAdded : List Piece → List (ℕ × Stream) → (kept : List Packed) → Type 0 where
  none_added : AreAdded [] [] []
  one_more : (pieces : List Piece) (old new : List (ℕ × Stream)) (kept : List Packed) (piece : Piece) (added : Added)
      → AreAdded pieces old kept → AddsPiece old new piece added
      → AreAdded (pieces ++ piece ∷ []) new (kept ++ kept_of piece added)

-- why a piece isn't taken: it contradicts those before it, or memory was refused for it
abbrev pub IsNotTaken : (fleet : List (ℕ × Stream)) → Piece → PieceRefusal → Type 0
IsNotTaken fleet piece refusal = IsRefusal fleet piece refusal ⊎ (refusal ≡ Parcel (Refused NoMemory))

-- ---- one piece

module _ {K : Type 0} {g : Ghosts K} where
  -- A piece was added to a fleet, and its bytes were put if it is kept.
  pub record Gathers (piece : Piece) (old : List (ℕ × Stream)) (out : Out K g) (new : List (ℕ × Stream))
      (out_now : Out K g) : Type 0 where
    pub added : Added
    pub adds : AddsPiece old new piece added
    pub put : Puts (bytes_of_pieces (kept_of piece added)) out out_now

  -- it was refused, and all stays
  pub record Refuses (piece : Piece) (refusal : PieceRefusal) (old : List (ℕ × Stream)) (out : Out K g)
      (new : List (ℕ × Stream)) (out_now : Out K g) : Type 0 where
    pub refused : IsNotTaken old piece refusal
    pub fleet_stays : new ≡ old
    pub out_stays : out_now ≡ out

  -- a line was put for it
  pub record PrintsPiece (placed : Placed) (form : Form) (out : Out K g) (form_now : Form) (out_now : Out K g)
      : Type 0 where
    pub form_stays : form_now ≡ form
    pub put : Puts (piece_line form placed.input placed.at (piece_length placed.piece) (piece_seen placed.piece))
        out out_now

-- ---- all pieces

-- These pieces were added to an empty fleet, and those that are kept were put.
pub record HasGathered {K : Type 0} {g : Ghosts K} (start : Start) (out : Out K g) (fleet : List (ℕ × Stream))
    (pieces : List Piece) : Type 0 where
  pub kept : List Packed
  pub added : AreAdded pieces fleet kept
  pub put : HasPut start (bytes_of_pieces kept) out

-- the pieces without their places
abbrev pub pieces_in : List Placed → List Piece
pieces_in pieces = map (λ placed. placed.piece) pieces

-- the lines of pieces
abbrev pub piece_lines : Form → List Placed → List ℕ
piece_lines form pieces = flat_map
    (λ placed. piece_line form placed.input placed.at (piece_length placed.piece) (piece_seen placed.piece)) pieces

-- What became of pieces: the fleet is theirs, and of exactly what is kept; the bytes of that were written, or a
-- beginning of them if a write failed.
pub record IsGathered (contents after : Option (List ℕ)) (failed : Bool) (pieces : List Piece)
    (fleet : List (ℕ × Stream)) (is_kept : Bool) : Type 0 where
  pub kept : List Packed
  pub added : AreAdded pieces fleet kept
  pub told : IsFleetOf (pieces_seen pieces) fleet
  pub kept_told : IsFleetOf kept fleet
  pub written : failed ≡ false → Appends contents after (bytes_of_pieces kept) × (is_kept ≡ true)
  pub cut_off : failed ≡ true → AppendsPrefix contents after (bytes_of_pieces kept) × (is_kept ≡ false)
