-- The plain reader of a script's header, line by line from the front.
use Rattle.std.specs.Prelude.{ℕ, ◌+◌, List, [], ◌∷◌, length, filter, Result, Ok, Err}
use Rattle.std.specs.List.{enumerate_from}
use Rattle.text_model.specs.Text.{lines_of}
use Rattle.text_model.specs.ScriptLines.{LineFault, bad_line, ◌>>=◌, NumberedLine, Setting, is_significant, value_in}

-- the significant lines of a text, if this many lines are before it
unfoldable pub significant_lines_after : ℕ → List ℕ → List NumberedLine
significant_lines_after passed text =
    filter (λ line. is_significant line.1) (enumerate_from (passed + 1) (lines_of text))

-- the number of the line after the last one of a text, if this many lines are before it
unfoldable pub end_line_after : ℕ → List ℕ → ℕ
end_line_after passed text = passed + length (lines_of text) + 1

-- a fault, with the number of its line
abbrev pub numbered_reading : {X : Type 0} → ℕ → Result X LineFault → Result X (ℕ × LineFault)
numbered_reading number (Ok x) = Ok x
numbered_reading number (Err fault) = Err (number, fault)

-- the value that the first line gives to a setting, and the lines after it; if there is none, the
-- line of the number end is missing
unfoldable pub setting_from : ℕ → Setting → List NumberedLine → Result (ℕ × List NumberedLine) (ℕ × LineFault)
setting_from end s [] = Err (end, bad_line)
setting_from end s (line ∷ lines) = do
  value ← numbered_reading line.0 (value_in s line.1)
  Ok (value, lines)

-- the values that the first lines give to these settings, and the lines after them
unfoldable pub settings_from : ℕ → List Setting → List NumberedLine
    → Result (List ℕ × List NumberedLine) (ℕ × LineFault)
settings_from end [] lines = Ok ([], lines)
settings_from end (s ∷ settings) lines = do
  first ← setting_from end s lines
  rest ← settings_from end settings first.1
  Ok (first.0 ∷ rest.0, rest.1)
