-- The script text: what script a text spells as a whole, or which of its lines is the first at fault.
-- After docs/formats/program.md, "Script".
use Rattle.std.specs.Prelude.{◌≡◌, ℕ, ◌+◌, ◌-◌, ◌⊎◌, ⊤, Bool, IsTrue, false, ◌&&◌, if◌then◌else◌, nat_le, List, [], ◌∷◌}
use Rattle.std.specs.Prelude.{◌++◌, length, codes, bytes_eq, Result, Ok, Err}
use Rattle.trace_model.specs.declared.limits.TheConstants.{START_FILL, LINK_FILLS}
use Rattle.text_model.specs.Text.{lines_of, fields_of, is_well_spaced}
use Rattle.text_model.specs.ScriptLines.{LineFault, bad_line, out_of_range, ◌>>=◌, decimal_in, payload_in, number_below}
use Rattle.text_model.specs.ScriptLines.{cpu_in, Setting, pages_setting, size_setting, value_in, NumberedLine}
use Rattle.text_model.specs.ScriptLines.{significant_lines, GiveSettings, IsFaultySetting, IsMissingSetting}
use Rattle.text_model.specs.declared.script_limits.TheConstants.{MIN_SCRIPT_CPUS, MAX_SCRIPT_CPUS}
use Rattle.text_model.specs.declared.script_limits.TheConstants.{MIN_SCRIPT_COLLECTORS as MIN_COLLECTORS}
use Rattle.text_model.specs.declared.script_limits.TheConstants.{MAX_SCRIPT_COLLECTORS as MAX_COLLECTORS}
use Rattle.text_model.specs.declared.script_limits.TheConstants.{MIN_LINE_STEPS, MAX_LINE_STEPS}

-- What a line of a script asks for, of a CPU's ring or of a collector. begin_frame: a record frame of this moment and
-- payload is pushed. step_frame: the frame on top makes this many steps, or fewer if it is gone before.
-- finish_frame: it makes steps until it is gone. write: both, a frame pushed and finished. close: a close frame, pushed
-- and finished. step_reader: the reader makes this many steps, or fewer if its take is answered before. take_page: it
-- makes steps until it answers. wish: the reader asks for the tail. deliver: the collector gets this fill of the CPU.
pub data Command : Type 0 where
  begin_frame write : (cpu moment : ℕ) (payload : List ℕ) → Command
  step_frame step_reader : (cpu count : ℕ) → Command
  finish_frame close take_page wish : (cpu : ℕ) → Command
  deliver : (collector cpu fill : ℕ) → Command

-- a script: the values of its header, the number of each ring's first fill, and its commands, each with the number
-- of its line
pub record Script : Type 0 where
  pub pages : ℕ
  pub size : ℕ
  pub cpus : ℕ
  pub collectors : ℕ
  pub start : ℕ
  pub commands : List (ℕ × Command)

-- ---- commands

-- the number of steps that a field spells
unfoldable pub count_in : List ℕ → Result ℕ LineFault
count_in field = decimal_in field >>= λ n.
    if nat_le MIN_LINE_STEPS n && nat_le n MAX_LINE_STEPS then Ok n else Err out_of_range

-- what is made of the entry that a table has for a word; a word that it lacks is no command's
abbrev pub by_word : {A B : Type 0} → List ℕ → List (List ℕ × A) → (A → Result B LineFault) → Result B LineFault
by_word word [] make = Err bad_line
by_word word (entry ∷ table) make = if bytes_eq word entry.0 then make entry.1 else by_word word table make

-- The command that fields spell, with these numbers of CPUs and collectors: `cX f`, `cX c`, `cX t`, `cX a`, `cX s K`,
-- `cX r K`, `cX b T HEX`, `cX w T HEX` or `d K cX F`. Once the word and the number of fields fit, values are looked at
-- from left to right.
unfoldable pub command_of : ℕ → ℕ → List (List ℕ) → Result Command LineFault
command_of cpus collectors (first ∷ second ∷ []) =
    by_word second ((codes "f", finish_frame) ∷ (codes "c", close) ∷ (codes "t", take_page) ∷ (codes "a", wish) ∷ [])
    (λ command. cpu_in cpus first >>= λ cpu. Ok (command cpu))
command_of cpus collectors (first ∷ second ∷ third ∷ []) =
    by_word second ((codes "s", step_frame) ∷ (codes "r", step_reader) ∷ [])
    (λ command. cpu_in cpus first >>= λ cpu. count_in third >>= λ count. Ok (command cpu count))
command_of cpus collectors (first ∷ second ∷ third ∷ fourth ∷ []) =
    if bytes_eq first (codes "d")
    then (number_below collectors second >>= λ collector. cpu_in cpus third >>= λ cpu. decimal_in fourth >>= λ fill.
    Ok (deliver collector cpu fill))
    else by_word second ((codes "b", begin_frame) ∷ (codes "w", write) ∷ [])
    (λ command. cpu_in cpus first >>= λ cpu. decimal_in third >>= λ moment. payload_in fourth >>= λ payload.
    Ok (command cpu moment payload))
command_of cpus collectors _ = Err bad_line

-- fields that spell a record frame by this word
abbrev pub SpellsRecord : ℕ → List ℕ → (cpu moment : ℕ) (payload : List ℕ) → List (List ℕ) → Type 0
SpellsRecord cpus word cpu moment payload fields =
    (x : List ℕ) × (t : List ℕ) × (hex : List ℕ)
    × (fields ≡ x ∷ word ∷ t ∷ hex ∷ [])
    × (cpu_in cpus x ≡ Ok cpu)
    × (decimal_in t ≡ Ok moment)
    × (payload_in hex ≡ Ok payload)

-- fields that spell a command of a CPU alone by this word
abbrev pub SpellsOfCpu : ℕ → List ℕ → (cpu : ℕ) → List (List ℕ) → Type 0
SpellsOfCpu cpus word cpu fields = (x : List ℕ) × (fields ≡ x ∷ word ∷ []) × (cpu_in cpus x ≡ Ok cpu)

-- fields that spell a number of steps by this word
abbrev pub SpellsSteps : ℕ → List ℕ → (cpu count : ℕ) → List (List ℕ) → Type 0
SpellsSteps cpus word cpu count fields =
    (x : List ℕ) × (k : List ℕ)
    × (fields ≡ x ∷ word ∷ k ∷ [])
    × (cpu_in cpus x ≡ Ok cpu)
    × (count_in k ≡ Ok count)

-- Fields that spell a command: what they are for each kind of command.
abbrev pub SpellsCommand : ℕ → ℕ → Command → List (List ℕ) → Type 0
SpellsCommand cpus collectors (begin_frame cpu moment payload) fields =
    SpellsRecord cpus (codes "b") cpu moment payload fields
SpellsCommand cpus collectors (step_frame cpu count) fields = SpellsSteps cpus (codes "s") cpu count fields
SpellsCommand cpus collectors (finish_frame cpu) fields = SpellsOfCpu cpus (codes "f") cpu fields
SpellsCommand cpus collectors (write cpu moment payload) fields =
    SpellsRecord cpus (codes "w") cpu moment payload fields
SpellsCommand cpus collectors (close cpu) fields = SpellsOfCpu cpus (codes "c") cpu fields
SpellsCommand cpus collectors (step_reader cpu count) fields = SpellsSteps cpus (codes "r") cpu count fields
SpellsCommand cpus collectors (take_page cpu) fields = SpellsOfCpu cpus (codes "t") cpu fields
SpellsCommand cpus collectors (wish cpu) fields = SpellsOfCpu cpus (codes "a") cpu fields
SpellsCommand cpus collectors (deliver collector cpu fill) fields =
    (k : List ℕ) × (x : List ℕ) × (f : List ℕ)
    × (fields ≡ codes "d" ∷ k ∷ x ∷ f ∷ [])
    × (number_below collectors k ≡ Ok collector)
    × (cpu_in cpus x ≡ Ok cpu)
    × (decimal_in f ≡ Ok fill)

-- the command that a line spells: its spaces are looked at first
unfoldable pub command_in : ℕ → ℕ → List ℕ → Result Command LineFault
command_in cpus collectors line =
    if is_well_spaced (fields_of line) then command_of cpus collectors (fields_of line) else Err bad_line

-- ---- the header

-- how many CPUs there are
abbrev pub cpus_setting : Setting
cpus_setting = record { word = codes "cpus"; min = MIN_SCRIPT_CPUS; max = MAX_SCRIPT_CPUS; step = 1 }

-- how many collectors there are
abbrev pub collectors_setting : Setting
collectors_setting = record { word = codes "collectors"; min = MIN_COLLECTORS; max = MAX_COLLECTORS; step = 1 }

-- the lines of a header, in their order
abbrev pub header_settings : List Setting
header_settings = pages_setting ∷ size_setting ∷ cpus_setting ∷ collectors_setting ∷ []

-- the number of each ring's first fill, for rings of this many pages: it leaves a number for each page
abbrev pub start_setting : ℕ → Setting
start_setting pages = record { word = codes "start"; min = START_FILL; max = LINK_FILLS - 1 - pages; step = 1 }

-- two fields, of which the first is the word of a start line
abbrev pub are_of_start : List (List ℕ) → Bool
are_of_start (word ∷ number ∷ []) = bytes_eq word (codes "start")
are_of_start _ = false

-- The line is a start line: its spaces, its word and its number of fields are those of one.
unfoldable pub is_start_line : List ℕ → Bool
is_start_line line = is_well_spaced (fields_of line) && are_of_start (fields_of line)

-- the first of these lines, if there is one, is no start line
abbrev pub BeginsNoStart : List NumberedLine → Type 0
BeginsNoStart [] = ⊤
BeginsNoStart (line ∷ lines) = is_start_line line.1 ≡ false

-- What is between the four settings and the commands, for rings of this many pages: a start line with this value,
-- or nothing, if the first fill is the default one.
abbrev pub GivesStart : ℕ → List NumberedLine → ℕ → Type 0
GivesStart pages [] start = start ≡ START_FILL
GivesStart pages (line ∷ []) start = value_in (start_setting pages) line.1 ≡ Ok start
GivesStart pages (line ∷ next ∷ lines) start = ⊥

-- ---- the whole

-- these lines spell these commands, one by one, and the numbers of the lines are the commands'
abbrev pub SpellCommands : ℕ → ℕ → List NumberedLine → List (ℕ × Command) → Type 0
SpellCommands cpus collectors [] [] = ⊤
SpellCommands cpus collectors (line ∷ lines) (command ∷ commands) =
    (command_in cpus collectors line.1 ≡ Ok command.1)
    × (line.0 ≡ command.0)
    × SpellCommands cpus collectors lines commands
SpellCommands cpus collectors _ _ = ⊥

-- Significant lines spell a script: a header, perhaps a start line, and then a command a line.
pub record SpellScript (lines : List NumberedLine) (script : Script) : Type 0 where
  pub header : List NumberedLine
  pub start_line : List NumberedLine
  pub behind : List NumberedLine
  pub cut : lines ≡ header ++ (start_line ++ behind)
  pub settings : GiveSettings header header_settings
      (script.pages ∷ script.size ∷ script.cpus ∷ script.collectors ∷ [])
  pub start : GivesStart script.pages start_line script.start
  pub commands : SpellCommands script.cpus script.collectors behind script.commands

-- The text spells this script.
abbrev pub ParsesScript : List ℕ → Script → Type 0
ParsesScript text script = SpellScript (significant_lines text) script

-- The lines before this one are the header, and it is a start line whose value is at fault.
pub record IsFaultyStart (lines : List NumberedLine) (number : ℕ) (fault : LineFault) : Type 0 where
  pub front : List NumberedLine
  pub line : List ℕ
  pub behind : List NumberedLine
  pub cut : lines ≡ front ++ (number, line) ∷ behind
  pub script : Script
  pub fits : SpellScript front script
  pub at_its_place : length front ≡ length header_settings
  pub is_start : IsTrue (is_start_line line)
  pub fails : value_in (start_setting script.pages) line ≡ Err fault

-- The lines before this one spell a script, and this one no command of it; and it isn't a start line at its
-- place, right after the header.
pub record IsFaultyCommand (lines : List NumberedLine) (number : ℕ) (fault : LineFault) : Type 0 where
  pub front : List NumberedLine
  pub line : List ℕ
  pub behind : List NumberedLine
  pub cut : lines ≡ front ++ (number, line) ∷ behind
  pub script : Script
  pub fits : SpellScript front script
  pub no_start : length front ≡ length header_settings → is_start_line line ≡ false
  pub fails : command_in script.cpus script.collectors line ≡ Err fault

-- The line of this number is the first of the text that is at fault, and this is what is wrong with
-- it. If lines of the header are missing, it is the line after the last one.
abbrev pub FirstScriptFault : List ℕ → ℕ → LineFault → Type 0
FirstScriptFault text number fault =
    IsFaultySetting header_settings (significant_lines text) number fault
    ⊎ (IsMissingSetting header_settings (significant_lines text)
    × (number ≡ length (lines_of text) + 1)
    × (fault ≡ bad_line))
    ⊎ IsFaultyStart (significant_lines text) number fault
    ⊎ IsFaultyCommand (significant_lines text) number fault

-- The one text has no start line after the four lines of its header, and the other has `start 0` there. All other
-- significant lines are the same in both, and their numbers too.
pub record AddsStartZero (text other : List ℕ) : Type 0 where
  pub header : List NumberedLine
  pub number : ℕ
  pub behind : List NumberedLine
  pub whole_header : length header ≡ length header_settings
  pub no_start : BeginsNoStart behind
  pub without : significant_lines text ≡ header ++ behind
  pub with_zero : significant_lines other ≡ header ++ (number, codes "start 0") ∷ behind
