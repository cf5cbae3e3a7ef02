-- What the command `steps` prints for a text, with which exit status.
use Rattle.std.specs.Prelude.{◌≡◌, ℕ, List, Result, Ok, Err}
use Rattle.text_model.specs.ScriptLines.{LineFault}
use Rattle.text_model.specs.Printing.{printed_fault}
use Rattle.text_model.specs.Script.{Script}
use Rattle.text_model.specs.ScriptReading.{script_in}
use Rattle.world_model.specs.World.{World}
use Rattle.step_model.specs.RunTexts.{IsStepText}
use Rattle.command_io.specs.declared.status.TheConstants.{DONE, REFUSED}

-- these bytes are the step text of the script, whose lines lead to this world
pub record IsSteps (script : Script) (bytes : List ℕ) : Type 0 where
  pub world : World
  pub is_text : IsStepText script world bytes

-- What is printed for the reading of a text, and the exit status: for a script its step text, and for a first fault its
-- line.
abbrev pub StepsOfReading : Result Script (ℕ × LineFault) → (bytes : List ℕ) (status : ℕ) → Type 0
StepsOfReading (Ok script) bytes status = IsSteps script bytes × (status ≡ DONE)
StepsOfReading (Err (number, fault)) bytes status = (bytes ≡ printed_fault number fault) × (status ≡ REFUSED)

-- what `steps` gives for a text
abbrev pub StepsGives : (text bytes : List ℕ) (status : ℕ) → Type 0
StepsGives text bytes status = StepsOfReading (script_in text) bytes status
