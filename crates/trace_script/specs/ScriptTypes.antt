-- The script's Rust types, in the words of the definitions.
use Rattle.std.specs.Prelude.{ℕ, List, [], ◌∷◌}
use Rattle.text_model.specs.ScriptLines as text
use Rattle.text_model.specs.ScriptLines.{pages_setting, size_setting}
use Rattle.text_model.specs.Script as model
use Rattle.text_model.specs.Script.{begin_frame, step_frame, finish_frame, write, close, step_reader, take_page, wish}
use Rattle.text_model.specs.Script.{deliver, cpus_setting, collectors_setting, start_setting}
use Rattle.trace_script.specs.declared.command.Command.{Command}
use Rattle.trace_script.specs.declared.command.Command.TheVariants.{Begin, Step, Finish, Write, Close, StepReader, Take}
use Rattle.trace_script.specs.declared.command.Command.TheVariants.{Wish, Deliver}
use Rattle.trace_script.specs.declared.command.ScriptLine.{ScriptLine}
use Rattle.trace_script.specs.declared.header.Header.{Header}
use Rattle.trace_script.specs.declared.header.Setting.{Setting}
use Rattle.trace_script.specs.declared.header.Setting.TheVariants.{Pages, Size, Cpus, Collectors, Start}

abbrev pub setting_of : Setting → text.Setting
setting_of Pages = pages_setting
setting_of Size = size_setting
setting_of Cpus = cpus_setting
setting_of Collectors = collectors_setting
setting_of (Start pages) = start_setting pages

-- the values of a header, in the order of its lines
abbrev pub values_of : Header → List ℕ
values_of header = header.pages ∷ header.size ∷ header.cpus ∷ header.collectors ∷ []

abbrev pub shown_command : Command → model.Command
shown_command (Begin cpu moment payload) = begin_frame cpu.0 moment.0 payload.now
shown_command (Step cpu count) = step_frame cpu.0 count
shown_command (Finish cpu) = finish_frame cpu.0
shown_command (Write cpu moment payload) = write cpu.0 moment.0 payload.now
shown_command (Close cpu) = close cpu.0
shown_command (StepReader cpu count) = step_reader cpu.0 count
shown_command (Take cpu) = take_page cpu.0
shown_command (Wish cpu) = wish cpu.0
shown_command (Deliver collector cpu fill) = deliver collector cpu.0 fill.0

-- a command with the number of its line
abbrev pub shown_line : ScriptLine → ℕ × model.Command
shown_line line = (line.number, shown_command line.command)

-- the script of a header, a first fill and commands
abbrev pub script_of : Header → ℕ → List (ℕ × model.Command) → model.Script
script_of header start commands = record {
  pages = header.pages;
  size = header.size;
  cpus = header.cpus;
  collectors = header.collectors;
  start = start;
  commands = commands;
}
