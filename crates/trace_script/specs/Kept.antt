-- The commands of a script as they are kept: their numbers each, and their bytes one after the other.
use Rattle.std.specs.Prelude.{◌≡◌, ℕ, zero, suc, ◌+◌, ◌-◌, ◌^◌, ◌<◌, ◌≤◌, ⊤, List, [], ◌∷◌, ◌++◌, length, take, drop}
use Rattle.std.specs.Prelude.{Option, Some, None, Result, Ok, Err}
use Rattle.text_model.specs.ScriptLines as text
use Rattle.text_model.specs.ScriptLines.{NumberedLine}
use Rattle.text_model.specs.HeaderReading.{numbered_reading}
use Rattle.text_model.specs.Script as model
use Rattle.text_model.specs.Script.{command_in, SpellCommands, begin_frame, step_frame, finish_frame, write, close}
use Rattle.text_model.specs.Script.{step_reader, take_page, wish, deliver}
use Rattle.trace_script.specs.declared.fault.LineFault.{LineFault}
use Rattle.trace_script.specs.declared.kept.Kind.{Kind}
use Rattle.trace_script.specs.declared.kept.Kind.TheVariants.{Begin, Step, Finish, Write, Close, StepReader, Take, Wish}
use Rattle.trace_script.specs.declared.kept.Kind.TheVariants.{Deliver}
use Rattle.trace_script.specs.declared.kept.KeptLine.{KeptLine}
use Rattle.trace_script.specs.declared.fault.ScriptFault.{ScriptFault}
use Rattle.trace_script.specs.ScriptFaults.{Fails, FailsAtLine}

-- a line of numbers of any widths
abbrev pub Kept : Type 0
Kept = KeptLine ℕ ℕ

abbrev pub first_or_zero : List ℕ → ℕ
first_or_zero [] = 0
first_or_zero (byte ∷ bytes) = byte

-- the command of this kind, CPU and value, with these bytes as its payload, or of which the first is its collector
abbrev pub command_shown : Kind → (cpu value : ℕ) → List ℕ → model.Command
command_shown Begin cpu value bytes = begin_frame cpu value bytes
command_shown Step cpu value bytes = step_frame cpu value
command_shown Finish cpu value bytes = finish_frame cpu
command_shown Write cpu value bytes = write cpu value bytes
command_shown Close cpu value bytes = close cpu
command_shown StepReader cpu value bytes = step_reader cpu value
command_shown Take cpu value bytes = take_page cpu
command_shown Wish cpu value bytes = wish cpu
command_shown Deliver cpu value bytes = deliver (first_or_zero bytes) cpu value

-- the command of a line, with these bytes
abbrev pub shown : List ℕ → Kept → model.Command
shown bytes line = command_shown line.kind line.cpu line.value bytes

-- the bytes from one place to another
abbrev pub part : List ℕ → ℕ → ℕ → List ℕ
part bytes start end = take (end - start) (drop start bytes)

-- The commands of kept lines, the first of which has this index and its bytes from start on among these bytes.
abbrev pub commands_kept : List ℕ → (index start : ℕ) → List Kept → List (ℕ × model.Command)
commands_kept bytes index start [] = []
commands_kept bytes index start (line ∷ lines) =
    (index + line.above, shown (part bytes start line.end) line) ∷ commands_kept bytes (suc index) line.end lines

-- Each line's bytes end at or after their start, the last one's end at len, and the lines' numbers have 64 bits.
abbrev pub AreKept : (index start len : ℕ) → List Kept → Type 0
AreKept index start len [] = start ≡ len
AreKept index start len (line ∷ lines) =
    (start ≤ line.end) × (index + line.above < 2 ^ 64) × AreKept (suc index) line.end len lines

-- where the bytes of the line at an index begin, if those of the first one do so at start
abbrev pub start_of : ℕ → List Kept → ℕ → ℕ
start_of start lines zero = start
start_of start [] (suc i) = start
start_of start (line ∷ lines) (suc i) = start_of line.end lines i

-- what a function appended to these bytes, and its answer, are the reading of a payload; if memory ran out, it has no
-- fault
abbrev pub PutsPayload : Result (Unit {0}) LineFault → List ℕ → List ℕ → Result (List ℕ) text.LineFault → Type 0
PutsPayload (Ok _) old new read = (payload : List ℕ) × (new ≡ old ++ payload) × (read ≡ Ok payload)
PutsPayload (Err fault) old new read = Fails fault read

-- what a function appended to these bytes, and its answer, are the reading of a whole command, or its fault
abbrev pub PutsCommand : Result Kept LineFault → List ℕ → List ℕ → Result model.Command text.LineFault → Type 0
PutsCommand (Ok order) old new read =
    (payload : List ℕ) × (new ≡ old ++ payload) × (read ≡ Ok (shown payload order))
PutsCommand (Err fault) old new read = Fails fault read

-- what a function appended to these bytes, and its answer, are the reading of a command, or its fault with its line
abbrev pub PutsCommandAt : Result Kept ScriptFault → List ℕ → List ℕ
    → Result model.Command (ℕ × text.LineFault) → Type 0
PutsCommandAt (Ok order) old new read =
    (payload : List ℕ) × (new ≡ old ++ payload) × (read ≡ Ok (shown payload order))
PutsCommandAt (Err fault) old new read = FailsAtLine fault read

-- What a function appended to these bytes, and its answer, are the reading of the first of these lines, if there is
-- one, with its number and the lines after it; or its fault.
abbrev pub PutsNext : ℕ → ℕ → Result (Option Kept) ScriptFault → List ℕ → List ℕ
    → List NumberedLine → ℕ → List NumberedLine → Type 0
PutsNext cpus collectors (Ok None) old new lines number behind = (lines ≡ []) × (new ≡ old)
PutsNext cpus collectors (Ok (Some order)) old new lines number behind = (line : List ℕ)
    × (lines ≡ (number, line) ∷ behind)
    × PutsCommandAt (Ok order) old new (numbered_reading number (command_in cpus collectors line))
PutsNext cpus collectors (Err fault) old new lines number behind = (line : List ℕ)
    × (lines ≡ (number, line) ∷ behind)
    × PutsCommandAt (Err fault) old new (numbered_reading number (command_in cpus collectors line))

-- the lines before the remaining ones spell these commands
pub record ReadAs (cpus collectors : ℕ) (lines : List NumberedLine) (commands : List (ℕ × model.Command))
    (behind : List NumberedLine)
    : Type 0 where
  pub front : List NumberedLine
  pub cut : lines ≡ front ++ behind
  pub spelled : SpellCommands cpus collectors front commands

-- the first of these lines, one at least, spell commands
abbrev pub BeginAsCommands : ℕ → ℕ → List NumberedLine → Type 0
BeginAsCommands cpus collectors lines = (commands : List (ℕ × model.Command)) × (behind : List NumberedLine)
    × ReadAs cpus collectors lines commands behind
    × (0 < length commands)

-- this holds, if a command was read
abbrev pub IfNext : Result (Option Kept) ScriptFault → Type 0 → Type 0
IfNext (Ok (Some order)) holds = holds
IfNext _ holds = ⊤
