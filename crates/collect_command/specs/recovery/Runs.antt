-- What a run of `recover` does with its inputs and its sinks.
use Rattle.std.specs.Prelude.{◌≡◌, ◌⊎◌, ℕ, All, Bool, true, false, List, [], ◌∷◌, ◌++◌, length, Option}
use Rattle.command_io.specs.Written.{IsTextWritten}
use Rattle.parcel_streams.specs.Pieces.{AreAllPieces}
use Rattle.parcel_streams.specs.Answers.{pieces_seen}
use Rattle.parcel_streams.specs.declared.piece.Piece.{Piece}
use Rattle.stream_collector.specs.Stream.{Stream}
use Rattle.capture_text.specs.declared.form.Form.{Form}
use Rattle.fleet_text.specs.Listed.{Shown, IsFleetShown, shown_text}
use Rattle.fleet_text.specs.Faults.{fault_line, is_memory_refusal}
use Rattle.fleet_text.specs.declared.fault.PieceTrouble.TheVariants.{Refused as RefusedPiece}
use Rattle.collect_command.specs.Runs.{IsMemoryLine}
use Rattle.collect_command.specs.streams.Gathering.{IsGathered}
use Rattle.ring_region.specs.declared.regions.Region.{Region}
use Rattle.collect_command.specs.declared.ending.Outcome.{Outcome}
use Rattle.collect_command.specs.declared.ending.Ending.{Ending}
use Rattle.collect_command.specs.declared.ending.Ending.TheVariants.{Done, Damaged, Malformed, NotRead, TooLong}
use Rattle.collect_command.specs.declared.ending.Ending.TheVariants.{NotWritten}
use Rattle.collect_command.specs.declared.recovery.read.Unread.{Unread}
use Rattle.collect_command.specs.declared.recovery.read.Unread.TheVariants.{Read, TooLong as TooMany, Fault}
use Rattle.collect_command.specs.declared.recovery.read.Unread.TheVariants.{NoMemory as NoRoom}
use Rattle.collect_command.specs.declared.recovery.read.Stopped.{Stopped}
use Rattle.collect_command.specs.declared.recovery.gather.Stop.{Stop}
use Rattle.collect_command.specs.declared.recovery.gather.Stop.TheVariants.{Refused, NoMemory as NoRoomLeft}
use Rattle.collect_command.specs.declared.recovery.gather.StoppedAt.{StoppedAt}
use Rattle.collect_command.specs.recovery.Reading.{AreRead, StopsReading}
use Rattle.collect_command.specs.recovery.Telling.{AreToldBy}
use Rattle.collect_command.specs.recovery.Gathering.{IsRegionStop}
use Rattle.collect_command.specs.recovery.Lines.{damaged_lines, region_line}

-- ---- a listing

-- no slot of these regions is damaged
abbrev pub AreSound : List Region → Type 0
AreSound regions = All (λ region. region.damaged.items ≡ []) regions

-- how a run ends that lists these regions: it says whether a slot is damaged
pub record IsEndingFor (regions : List Region) (ending : Ending) : Type 0 where
  pub sound : AreSound regions → ending ≡ Done
  pub damaged : ¬ AreSound regions → ending ≡ Damaged

-- what the fleet has was written, and after it the lines of the damaged slots
pub record IsListed (form : Form) (regions : List Region) (fleet : List (ℕ × Stream))
    (contents after : Option (List ℕ)) (failed : Bool) (ending : Ending) : Type 0 where
  pub shown : Shown
  pub is_shown : IsFleetShown fleet shown
  pub wanted : Ending
  pub wanted_is : IsEndingFor regions wanted
  pub written : IsTextWritten NotWritten contents after failed
      (shown_text form shown ++ damaged_lines form regions) wanted ending

-- ---- why nothing is listed

-- What is written if an input gives no region: nothing if a read failed or it is too long; else the line of its fault,
-- or that of refused memory.
abbrev pub TellsUnread : (input : ℕ) → Unread → (contents after : Option (List ℕ)) (failed : Bool) → Ending → Type 0
TellsUnread input Read contents after failed ending =
    IsTextWritten NotWritten contents after failed [] (NotRead input) ending
TellsUnread input TooMany contents after failed ending =
    IsTextWritten NotWritten contents after failed [] (TooLong input) ending
TellsUnread input (Fault fault) contents after failed ending =
    IsTextWritten NotWritten contents after failed (region_line fault) (Malformed input) ending
TellsUnread input NoRoom contents after failed ending = IsMemoryLine contents after failed ending

-- what is written if a piece isn't added: the line that says why it is refused, or that of refused memory
abbrev pub TellsStop : (input : ℕ) → Stop → (contents after : Option (List ℕ)) (failed : Bool) → Ending → Type 0
TellsStop input NoRoomLeft contents after failed ending = IsMemoryLine contents after failed ending
TellsStop input (Refused index at stream cpu refusal) contents after failed ending =
    ((is_memory_refusal refusal ≡ false)
    × IsTextWritten NotWritten contents after failed (fault_line at index (RefusedPiece stream cpu refusal))
    (Malformed input)
    ending)
    ⊎ ((is_memory_refusal refusal ≡ true) × IsMemoryLine contents after failed ending)

module _ {R : Type 0} (remaining : R → Option (List ℕ)) (count : R → ℕ) (has_failed : R → Bool) where
  -- All inputs are regions, and the fleet of exactly the pieces that they state is listed, and below it their
  -- damaged slots; or memory was refused before the first line. The bytes of the pieces that were new are kept.
  pub record ListsAll (form : Form) (old new : List R) (keep keep_after : Option (List ℕ)) (keep_failed : Bool)
      (contents after : Option (List ℕ)) (failed : Bool) (outcome : Outcome) : Type 0 where
    pub regions : List Region
    pub are_read : AreRead remaining count has_failed old new regions
    pub pieces : List Piece
    pub are_told : AreToldBy regions pieces
    pub sound : AreAllPieces (pieces_seen pieces)
    pub fleet : List (ℕ × Stream)
    pub gathered : IsGathered keep keep_after keep_failed pieces fleet outcome.is_kept
    pub told : IsListed form regions fleet contents after failed outcome.ending
        ⊎ IsMemoryLine contents after failed outcome.ending

  -- All inputs are regions, and a piece of one contradicts what was stated before it, or memory was refused. Why is all
  -- that is written. The bytes of what was new before are kept.
  pub record ListsNone (old new : List R) (keep keep_after : Option (List ℕ)) (keep_failed : Bool)
      (contents after : Option (List ℕ)) (failed : Bool) (outcome : Outcome) : Type 0 where
    pub regions : List Region
    pub are_read : AreRead remaining count has_failed old new regions
    pub front : List Region
    pub this : Region
    pub behind : List Region
    pub regions_are : regions ≡ front ++ this ∷ behind
    pub before : List Piece
    pub are_told : AreToldBy front before
    pub own : List Piece
    pub sound : AreAllPieces (pieces_seen (before ++ own))
    pub fleet : List (ℕ × Stream)
    pub stopped : StoppedAt
    pub input_is : stopped.input ≡ length front
    pub why : IsRegionStop this own fleet stopped.stop
    pub gathered : IsGathered keep keep_after keep_failed (before ++ own) fleet outcome.is_kept
    pub told : TellsStop stopped.input stopped.stop contents after failed outcome.ending

  -- An input gives no region, and why is all that is written. Nothing is kept.
  pub record ReadsSome (old new : List R) (keep keep_after : Option (List ℕ)) (keep_failed : Bool)
      (contents after : Option (List ℕ)) (failed : Bool) (outcome : Outcome) : Type 0 where
    pub stopped : Stopped
    pub stops : StopsReading remaining count has_failed old new stopped
    pub not_kept : keep_after ≡ keep
    pub keep_sound : keep_failed ≡ false
    pub is_kept : outcome.is_kept ≡ true
    pub told : TellsUnread stopped.input stopped.why contents after failed outcome.ending

  -- Memory was refused before anything was read.
  pub record ReadsNone (old new : List R) (keep keep_after : Option (List ℕ)) (keep_failed : Bool)
      (contents after : Option (List ℕ)) (failed : Bool) (outcome : Outcome) : Type 0 where
    pub not_read : new ≡ old
    pub not_kept : keep_after ≡ keep
    pub keep_sound : keep_failed ≡ false
    pub is_kept : outcome.is_kept ≡ true
    pub told : IsMemoryLine contents after failed outcome.ending

  -- What a run does.
  abbrev pub IsRecoverRun : (form : Form) (old new : List R) (keep keep_after : Option (List ℕ)) (keep_failed : Bool)
      (contents after : Option (List ℕ)) (failed : Bool) → Outcome → Type 0
  IsRecoverRun form old new keep keep_after keep_failed contents after failed outcome =
      ListsAll form old new keep keep_after keep_failed contents after failed outcome
      ⊎ (ListsNone old new keep keep_after keep_failed contents after failed outcome
      ⊎ (ReadsSome old new keep keep_after keep_failed contents after failed outcome
      ⊎ ReadsNone old new keep keep_after keep_failed contents after failed outcome))
