-- How the lines of a script and their fields are written, without comments.
-- After docs/formats/program.md, "Script".
use Rattle.std.specs.Prelude.{ℕ, List, [], ◌∷◌, ◌++◌, flat_map, decimal}
use Rattle.std.specs.List.{join_with_byte}
use Rattle.text_model.specs.Text.{line_feed, space}
use Rattle.text_model.specs.ScriptLines.{Setting, cpu_letter}

-- fields with one space between them
abbrev pub line_of : List (List ℕ) → List ℕ
line_of fields = join_with_byte space fields

-- lines, each with its line feed
abbrev pub text_of : List (List ℕ) → List ℕ
text_of lines = flat_map (λ line. line ++ line_feed ∷ []) lines

-- a CPU's name
abbrev pub cpu_text : ℕ → List ℕ
cpu_text cpu = cpu_letter ∷ decimal cpu

-- the line of a setting
abbrev pub setting_text : Setting → ℕ → List ℕ
setting_text s value = line_of (s.word ∷ decimal value ∷ [])
