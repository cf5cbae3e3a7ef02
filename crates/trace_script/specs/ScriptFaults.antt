-- What the script's reader says of a fault, in the words of text_model.
use Rattle.std.specs.Prelude.{◌≡◌, ℕ, ◌<◌, ⊤, List, ◌++◌, length, codes, Result, Ok, Err}
use Rattle.text_model.specs.ScriptLines as model
use Rattle.text_model.specs.ScriptLines.{NumberedLine, significant_lines, bad_line, bad_number, bad_hex, out_of_range}
use Rattle.text_model.specs.ScriptLines.{fault_text}
use Rattle.text_model.specs.Script.{Script, SpellScript, FirstScriptFault}
use Rattle.trace_script.specs.declared.fault.LineFault.{LineFault}
use Rattle.trace_script.specs.declared.fault.LineFault.TheVariants as line
use Rattle.trace_script.specs.declared.fault.ScriptFault.{ScriptFault}
use Rattle.trace_script.specs.declared.fault.ScriptFault.TheVariants as script

-- the fault of the line of this number
abbrev pub fault_at : ℕ → LineFault → ScriptFault
fault_at number line.BadLine = script.BadLine number
fault_at number line.BadNumber = script.BadNumber number
fault_at number line.BadHex = script.BadHex number
fault_at number line.OutOfRange = script.OutOfRange number
fault_at number line.NoMemory = script.NoMemory

-- what was read of the line of this number
abbrev pub reading_at : {X : Type 0} → ℕ → Result X LineFault → Result X ScriptFault
reading_at number (Ok x) = Ok x
reading_at number (Err fault) = Err (fault_at number fault)

-- the reading of a line has this fault; or memory ran out, and the line has none
abbrev pub Fails : {X : Type 0} → LineFault → Result X model.LineFault → Type 0
Fails line.BadLine read = read ≡ Err bad_line
Fails line.BadNumber read = read ≡ Err bad_number
Fails line.BadHex read = read ≡ Err bad_hex
Fails line.OutOfRange read = read ≡ Err out_of_range
Fails {X} line.NoMemory read = (x : X) × (read ≡ Ok x)

-- what a function returned, seen by view, is the reading of a line; if memory ran out, the line has no fault
abbrev pub Gives : {X Y : Type 0} → (X → Y) → Result X LineFault → Result Y model.LineFault → Type 0
Gives view (Ok x) read = read ≡ Ok (view x)
Gives view (Err fault) read = Fails fault read

-- the reading of lines has this fault first, unless memory ran out
abbrev pub FailsAt : {X : Type 0} → ScriptFault → Result X (ℕ × model.LineFault) → Type 0
FailsAt (script.BadLine number) read = read ≡ Err (number, bad_line)
FailsAt (script.BadNumber number) read = read ≡ Err (number, bad_number)
FailsAt (script.BadHex number) read = read ≡ Err (number, bad_hex)
FailsAt (script.OutOfRange number) read = read ≡ Err (number, out_of_range)
FailsAt script.NoMemory read = ⊤

-- the reading of one line, with its number, has this fault; or memory ran out, and the line has none
abbrev pub FailsAtLine : {X : Type 0} → ScriptFault → Result X (ℕ × model.LineFault) → Type 0
FailsAtLine {X} script.NoMemory read = (x : X) × (read ≡ Ok x)
FailsAtLine (script.BadLine number) read = FailsAt (script.BadLine number) read
FailsAtLine (script.BadNumber number) read = FailsAt (script.BadNumber number) read
FailsAtLine (script.BadHex number) read = FailsAt (script.BadHex number) read
FailsAtLine (script.OutOfRange number) read = FailsAt (script.OutOfRange number) read

-- what a function returned, seen by view, is the reading of lines, unless memory ran out
abbrev pub GivesAt : {X Y : Type 0} → (X → Y) → Result X ScriptFault → Result Y (ℕ × model.LineFault) → Type 0
GivesAt view (Ok x) read = read ≡ Ok (view x)
GivesAt view (Err fault) read = FailsAt fault read

-- The first significant lines of the text spell a script that has a command: none of these lines has a fault.
pub record BeginsAsScript (text : List ℕ) : Type 0 where
  pub front : List NumberedLine
  pub behind : List NumberedLine
  pub cut : significant_lines text ≡ front ++ behind
  pub script : Script
  pub spelled : SpellScript front script
  pub some : 0 < length script.commands

-- this is the first fault of the text; or memory ran out, and its header and the first command's line have none
abbrev pub ReportsFirstFault : List ℕ → ScriptFault → Type 0
ReportsFirstFault text (script.BadLine number) = FirstScriptFault text number bad_line
ReportsFirstFault text (script.BadNumber number) = FirstScriptFault text number bad_number
ReportsFirstFault text (script.BadHex number) = FirstScriptFault text number bad_hex
ReportsFirstFault text (script.OutOfRange number) = FirstScriptFault text number out_of_range
ReportsFirstFault text script.NoMemory = BeginsAsScript text

-- how a fault is printed, without the end of the line
abbrev pub script_fault_text : ScriptFault → List ℕ
script_fault_text (script.BadLine number) = fault_text number bad_line
script_fault_text (script.BadNumber number) = fault_text number bad_number
script_fault_text (script.BadHex number) = fault_text number bad_hex
script_fault_text (script.OutOfRange number) = fault_text number out_of_range
script_fault_text script.NoMemory = codes "memory"
