-- What a run of `collect` of streams does with its inputs and its sinks.
use Rattle.std.specs.Prelude.{◌≡◌, ◌⊎◌, ⊤, ℕ, Bool, true, false, List, [], ◌∷◌, ◌++◌, Option}
use Rattle.command_io.specs.Written.{IsTextWritten}
use Rattle.command_io.specs.declared.command.TheConstants.{MEMORY_LINE}
use Rattle.stream_collector.specs.Stream.{Stream}
use Rattle.fleet_collector.specs.declared.refusal.PieceRefusal.{PieceRefusal}
use Rattle.stream_collector.specs.declared.added.Added.{Added}
use Rattle.fleet_collector.specs.Pieces.{AddsPiece}
use Rattle.fleet_collector.specs.Told.{IsFleetOf}
use Rattle.capture_text.specs.declared.form.Form.{Form}
use Rattle.fleet_text.specs.Listed.{Shown, IsFleetShown, shown_text}
use Rattle.fleet_text.specs.Faults.{fault_line, is_no_memory}
use Rattle.fleet_text.specs.Hidden.{AreHiddenRuns, given_by_all, hidden_text}
use Rattle.fleet_text.specs.Runs.{Run}
use Rattle.parcel_streams.specs.Pieces.{Packed}
use Rattle.parcel_streams.specs.Answers.{pieces_seen}
use Rattle.parcel_streams.specs.declared.source.reader.PieceReader.{PieceReader}
use Rattle.collect_command.specs.declared.ending.Outcome.{Outcome}
use Rattle.collect_command.specs.declared.ending.Ending.{Ending}
use Rattle.collect_command.specs.declared.ending.Ending.TheVariants.{Done, Hidden, Malformed, NoMemory, NotRead}
use Rattle.collect_command.specs.declared.ending.Ending.TheVariants.{NotWritten}
use Rattle.collect_command.specs.declared.streams.gather.Gatherer.{Gatherer}
use Rattle.collect_command.specs.declared.streams.read.Stop.{Stop}
use Rattle.collect_command.specs.declared.streams.read.Stop.TheVariants.{Read, Piece as PieceStop}
use Rattle.collect_command.specs.declared.streams.read.Stopped.{Stopped}
use Rattle.collect_command.specs.streams.Reading.{Placed, placed, AreWhole, StopsInputs}
use Rattle.collect_command.specs.streams.Gathering.{IsGathered, IsNotTaken, pieces_in, piece_lines}

-- the text and then the line for refused memory
abbrev pub IsMemoryLine : (contents after : Option (List ℕ)) (failed : Bool) → List ℕ → Ending → Type 0
IsMemoryLine contents after failed text ending =
    IsTextWritten NotWritten contents after failed (text ++ MEMORY_LINE) NoMemory ending

-- What is written after a text if an input isn't read to its end: nothing more if a read failed; else the line of the
-- fault, or that of refused memory.
abbrev pub TellsStop : (input : ℕ) → Stop → (contents after : Option (List ℕ)) (failed : Bool) → List ℕ → Ending
    → Type 0
TellsStop input Read contents after failed text ending =
    IsTextWritten NotWritten contents after failed text (NotRead input) ending
TellsStop input (PieceStop index at trouble) contents after failed text ending =
    ((is_no_memory trouble ≡ false)
    × IsTextWritten NotWritten contents after failed (text ++ fault_line at index trouble) (Malformed input) ending)
    ⊎ IsMemoryLine contents after failed text ending

-- how a run ends that lists this: it says whether marks hide a number
abbrev pub ending_with : (hidden : List Run) → Ending
ending_with [] = Done
ending_with (run ∷ runs) = Hidden

-- what the fleet of these pieces has was written, and below it the numbers that marks among the pieces hide
pub record IsListed (form : Form) (pieces : List Packed) (fleet : List (ℕ × Stream))
    (contents after : Option (List ℕ)) (failed : Bool) (ending : Ending) : Type 0 where
  pub shown : Shown
  pub is_shown : IsFleetShown fleet shown
  pub hidden : List Run
  pub are_hidden : AreHiddenRuns pieces hidden
  pub written : IsTextWritten NotWritten contents after failed (shown_text form shown ++ hidden_text form hidden)
      (ending_with hidden) ending

-- these pieces are all that were taken, and the fleet is theirs
pub record HasTaken (gatherer : Gatherer) (pieces : List Packed) : Type 0 where
  pub given_are : gatherer.given ≡ given_by_all pieces
  pub told : IsFleetOf pieces gatherer.fleet

-- a piece was added to a fleet
abbrev pub Adds : (old : List (ℕ × Stream)) → Placed → (new : List (ℕ × Stream)) → Type 0
Adds old placed new = (added : Added) × AddsPiece old new placed.piece added

-- it was refused, and the fleet stays
abbrev pub IsRefused : (old : List (ℕ × Stream)) → Placed → PieceRefusal → (new : List (ℕ × Stream)) → Type 0
IsRefused old placed refusal new = (new ≡ old) × IsNotTaken old placed.piece refusal

-- a line was printed for it, and none is refused
abbrev pub Prints : Unit {0} → Placed → Unit {0} → Type 0
Prints before placed after = ⊤

abbrev pub IsNotPrinted : Unit {0} → Placed → PieceRefusal → Unit {0} → Type 0
IsNotPrinted before placed refusal after = ⊥

module _ {R : Type 0} (remaining : R → Option (List ℕ)) (has_failed : R → Bool) where
  -- ---- a listing

  -- All inputs were read to their ends, and what the fleet of their pieces has is listed, with what marks hide, or
  -- memory was refused before the first line. What was new or below a bound is kept, in the order of the inputs.
  pub record ListsAll (form : Form) (old new : List (PieceReader R)) (keep keep_after : Option (List ℕ))
      (keep_failed : Bool)
      (contents after : Option (List ℕ)) (failed : Bool) (outcome : Outcome) : Type 0 where
    pub pieces : List Placed
    pub are_whole : AreWhole remaining has_failed 0 old new pieces
    pub fleet : List (ℕ × Stream)
    pub gathered : IsGathered keep keep_after keep_failed (pieces_in pieces) fleet outcome.is_kept
    pub told : IsListed form (pieces_seen (pieces_in pieces)) fleet contents after failed outcome.ending
        ⊎ IsMemoryLine contents after failed [] outcome.ending

  -- An input wasn't read to its end, and why is all that is written. What was new or below a bound before is kept.
  pub record ListsNone (old new : List (PieceReader R)) (keep keep_after : Option (List ℕ)) (keep_failed : Bool)
      (contents after : Option (List ℕ)) (failed : Bool) (outcome : Outcome) : Type 0 where
    pub stopped : Stopped
    pub fleet : List (ℕ × Stream)
    pub stops : StopsInputs remaining has_failed Adds IsRefused old new [] fleet stopped
    pub gathered : IsGathered keep keep_after keep_failed
        (pieces_in (stops.pieces ++ placed stopped.input 0 stops.here.pieces)) fleet outcome.is_kept
    pub told : TellsStop stopped.input stopped.stop contents after failed [] outcome.ending

  -- Memory was refused before anything was read.
  pub record ReadsNone (old new : List (PieceReader R)) (keep keep_after : Option (List ℕ)) (keep_failed : Bool)
      (contents after : Option (List ℕ)) (failed : Bool) (outcome : Outcome) : Type 0 where
    pub not_read : new ≡ old
    pub not_kept : keep_after ≡ keep
    pub keep_sound : keep_failed ≡ false
    pub is_kept : outcome.is_kept ≡ true
    pub told : IsMemoryLine contents after failed [] outcome.ending

  -- What a run that lists does.
  abbrev pub IsStreamRun : (form : Form) (old new : List (PieceReader R)) (keep keep_after : Option (List ℕ))
      (keep_failed : Bool) (contents after : Option (List ℕ)) (failed : Bool) → Outcome → Type 0
  IsStreamRun form old new keep keep_after keep_failed contents after failed outcome =
      ListsAll form old new keep keep_after keep_failed contents after failed outcome
      ⊎ ListsNone old new keep keep_after keep_failed contents after failed outcome
      ⊎ ReadsNone old new keep keep_after keep_failed contents after failed outcome

  -- ---- a line for each piece

  -- All inputs were read to their ends, and there is a line for each piece.
  pub record PrintsAll (form : Form) (old new : List (PieceReader R)) (contents after : Option (List ℕ)) (failed : Bool)
      (ending : Ending) : Type 0 where
    pub pieces : List Placed
    pub are_whole : AreWhole remaining has_failed 0 old new pieces
    pub written : IsTextWritten NotWritten contents after failed (piece_lines form pieces) Done ending

  -- An input wasn't read to its end: there is a line for each piece before, and then why.
  pub record PrintsSome (form : Form) (old new : List (PieceReader R)) (contents after : Option (List ℕ))
      (failed : Bool)
      (ending : Ending) : Type 0 where
    pub stopped : Stopped
    pub stops : StopsInputs remaining has_failed Prints IsNotPrinted old new tt tt stopped
    pub told : TellsStop stopped.input stopped.stop contents after failed
        (piece_lines form (stops.pieces ++ placed stopped.input 0 stops.here.pieces)) ending

  -- Memory was refused before anything was read.
  pub record PrintsNone (old new : List (PieceReader R)) (contents after : Option (List ℕ)) (failed : Bool)
      (ending : Ending) : Type 0 where
    pub not_read : new ≡ old
    pub told : IsMemoryLine contents after failed [] ending

  -- What a run that prints pieces does.
  abbrev pub IsPrintRun : (form : Form) (old new : List (PieceReader R)) (contents after : Option (List ℕ))
      (failed : Bool) → Ending → Type 0
  IsPrintRun form old new contents after failed ending =
      PrintsAll form old new contents after failed ending
      ⊎ PrintsSome form old new contents after failed ending
      ⊎ PrintsNone old new contents after failed ending
