-- The reading of a script, line by line from the front. That it is the script of the whole text, or its first fault, in
-- the words of Script, is a law. docs/formats/program.md, "Script".
use Rattle.std.specs.Prelude.{ℕ, ◌+◌, if◌then◌else◌, List, [], ◌∷◌, length, drop, slice_index, slice_index_or, Result}
use Rattle.std.specs.Prelude.{Ok}
use Rattle.trace_model.specs.declared.limits.TheConstants.{START_FILL}
use Rattle.text_model.specs.Text.{lines_of}
use Rattle.text_model.specs.ScriptLines.{LineFault, ◌>>=◌, NumberedLine, Setting, value_in, pages_setting, size_setting}
use Rattle.text_model.specs.ScriptLines.{significant_lines}
use Rattle.text_model.specs.HeaderReading.{numbered_reading, settings_from}
use Rattle.text_model.specs.Script.{Command, Script, command_in, cpus_setting, collectors_setting, header_settings}
use Rattle.text_model.specs.Script.{start_setting, is_start_line}

-- the commands that lines spell, each with the number of its line
unfoldable pub commands_from : ℕ → ℕ → List NumberedLine → Result (List (ℕ × Command)) (ℕ × LineFault)
commands_from cpus collectors [] = Ok []
commands_from cpus collectors (line ∷ lines) = do
  command ← numbered_reading line.0 (command_in cpus collectors line.1)
  commands ← commands_from cpus collectors lines
  Ok ((line.0, command) ∷ commands)

-- the first fill that the first line gives, if it is a start line, and the lines after it; else the default one, and
-- all lines
unfoldable pub start_from : ℕ → List NumberedLine → Result (ℕ × List NumberedLine) (ℕ × LineFault)
start_from pages [] = Ok (START_FILL, [])
start_from pages (line ∷ lines) = if is_start_line line.1
    then (numbered_reading line.0 (value_in (start_setting pages) line.1) >>= λ start. Ok (start, lines))
    else Ok (START_FILL, line ∷ lines)

-- The value that the significant line of this index gives to a setting. One that lacks is read as an empty line, after
-- the last line of the text.
abbrev pub setting_at : List ℕ → ℕ → Setting → Result ℕ (ℕ × LineFault)
setting_at text k s =
    let line : NumberedLine = slice_index_or (significant_lines text) k (length (lines_of text) + 1, []) in
    numbered_reading line.0 (value_in s line.1)

-- The script that a text spells, or the number of its first line at fault and what is wrong with it: a header of four
-- lines, perhaps a start line, and then a command a line.
unfoldable pub script_in : List ℕ → Result Script (ℕ × LineFault)
script_in text = do
  pages ← setting_at text 0 pages_setting
  size ← setting_at text 1 size_setting
  cpus ← setting_at text 2 cpus_setting
  collectors ← setting_at text 3 collectors_setting
  start ← start_from pages (drop 4 (significant_lines text))
  commands ← commands_from cpus collectors start.1
  Ok record { pages = pages; size = size; cpus = cpus; collectors = collectors; start = start.0; commands = commands }

-- ---- the same by parts, each of which gives the lines after it

-- the script that lines spell, if the line after the last one has the number end
unfoldable pub script_from : ℕ → List NumberedLine → Result Script (ℕ × LineFault)
script_from end lines = do
  header ← settings_from end header_settings lines
  start ← start_from (slice_index header.0 0) header.1
  commands ← commands_from (slice_index header.0 2) (slice_index header.0 3) start.1
  Ok record {
    pages = slice_index header.0 0;
    size = slice_index header.0 1;
    cpus = slice_index header.0 2;
    collectors = slice_index header.0 3;
    start = start.0;
    commands = commands;
  }
