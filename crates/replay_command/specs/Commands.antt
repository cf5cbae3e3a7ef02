-- What the command `replay` prints for a text, with which exit status: first by the histories of the CPUs alone, then
-- exactly.
use Rattle.std.specs.Prelude.{◌≡◌, ℕ, Bool, List, Result, Ok, Err}
use Rattle.std.specs.List.{AllZip}
use Rattle.text_model.specs.ScriptLines.{LineFault}
use Rattle.text_model.specs.Printing.{printed_fault}
use Rattle.text_model.specs.Script.{Script}
use Rattle.text_model.specs.ScriptReading.{script_in}
use Rattle.world_model.specs.World.{World, WorldOf}
use Rattle.world_model.specs.Printing.{Shown, printed_world}
use Rattle.line_model.specs.Shown.{IsAccounted}
use Rattle.collector_text.specs.Prints.{IsPrintOf}
use Rattle.command_io.specs.declared.status.TheConstants.{DONE, REFUSED}

-- the text spells a script, and these bytes are an account of it
abbrev pub AccountGives : (asked : Bool) (text bytes : List ℕ) (status : ℕ) → Type 0
AccountGives asked text bytes status = (script : Script) × (script_in text ≡ Ok script) × IsAccounted script asked bytes

-- These bytes are the printing of the script's world: its log, if it is asked for, and of each collector what the pages
-- that were delivered to it have and miss.
pub record IsPrinting (script : Script) (asked : Bool) (bytes : List ℕ) : Type 0 where
  pub world : World
  pub of_script : WorldOf script world
  pub shown : List Shown
  pub reported : AllZip IsPrintOf world.delivered shown
  pub printed : bytes ≡ printed_world asked world.log shown

-- What is printed for the reading of a text, and the exit status: for a script the printing of its world, and for a
-- first fault its line.
abbrev pub PrintsReading : (asked : Bool) → Result Script (ℕ × LineFault) → (bytes : List ℕ) (status : ℕ) → Type 0
PrintsReading asked (Ok script) bytes status = IsPrinting script asked bytes × (status ≡ DONE)
PrintsReading asked (Err (number, fault)) bytes status = (bytes ≡ printed_fault number fault) × (status ≡ REFUSED)

-- what `replay` gives for a text
abbrev pub ReplayGives : Bool → (text bytes : List ℕ) (status : ℕ) → Type 0
ReplayGives asked text bytes status = PrintsReading asked (script_in text) bytes status

-- ---- the same by its two cases, never both

-- the text spells a script, and these bytes are the printing of its world
pub record PrintsReplay (asked : Bool) (text bytes : List ℕ) (status : ℕ) : Type 0 where
  pub script : Script
  pub spelled : script_in text ≡ Ok script
  pub printing : IsPrinting script asked bytes
  pub done : status ≡ DONE

-- the text has a first fault, and these bytes are its line
pub record PrintsFault (text bytes : List ℕ) (status : ℕ) : Type 0 where
  pub number : ℕ
  pub fault : LineFault
  pub first : script_in text ≡ Err (number, fault)
  pub printed : bytes ≡ printed_fault number fault
  pub refused : status ≡ REFUSED
