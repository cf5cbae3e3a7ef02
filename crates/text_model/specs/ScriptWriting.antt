-- How a script is written, line by line without comments: the laws read it back.
-- After docs/formats/program.md, "Script".
use Rattle.std.specs.Prelude.{ℕ, List, [], ◌∷◌, map, codes, decimal}
use Rattle.text_model.specs.Text.{hex_text}
use Rattle.text_model.specs.ScriptLines.{pages_setting, size_setting}
use Rattle.text_model.specs.LineWriting.{line_of, text_of, cpu_text, setting_text}
use Rattle.text_model.specs.Script.{Command, begin_frame, step_frame, finish_frame, write, close, step_reader}
use Rattle.text_model.specs.Script.{take_page, wish, deliver, Script, cpus_setting, collectors_setting, start_setting}

-- the fields of a command
abbrev pub command_fields : Command → List (List ℕ)
command_fields (begin_frame cpu moment payload) = cpu_text cpu ∷ codes "b" ∷ decimal moment ∷ hex_text payload ∷ []
command_fields (step_frame cpu count) = cpu_text cpu ∷ codes "s" ∷ decimal count ∷ []
command_fields (finish_frame cpu) = cpu_text cpu ∷ codes "f" ∷ []
command_fields (write cpu moment payload) = cpu_text cpu ∷ codes "w" ∷ decimal moment ∷ hex_text payload ∷ []
command_fields (close cpu) = cpu_text cpu ∷ codes "c" ∷ []
command_fields (step_reader cpu count) = cpu_text cpu ∷ codes "r" ∷ decimal count ∷ []
command_fields (take_page cpu) = cpu_text cpu ∷ codes "t" ∷ []
command_fields (wish cpu) = cpu_text cpu ∷ codes "a" ∷ []
command_fields (deliver collector cpu fill) = codes "d" ∷ decimal collector ∷ cpu_text cpu ∷ decimal fill ∷ []

-- the line of a command
abbrev pub command_text : Command → List ℕ
command_text command = line_of (command_fields command)

-- the text of a script: the header with its start line, and then a line for each command
abbrev pub script_text : Script → List ℕ
script_text script = text_of (setting_text pages_setting script.pages
    ∷ setting_text size_setting script.size
    ∷ setting_text cpus_setting script.cpus
    ∷ setting_text collectors_setting script.collectors
    ∷ setting_text (start_setting script.pages) script.start
    ∷ map (λ numbered. command_text numbered.1) script.commands)
