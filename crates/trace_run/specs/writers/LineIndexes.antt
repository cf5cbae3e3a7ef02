-- Whose line a command is, and where the lines of each CPU's writer are among the commands.
use Rattle.std.specs.Prelude.{◌≡◌, ℕ, nat_eq, false, List, take, Option, Some, None}
use Rattle.std.specs.List.{slice_get, AllZip}
use Rattle.trace_model.specs.declared.numbers.CpuId.{CpuId}
use Rattle.text_model.specs.Script.{Command}
use Rattle.line_model.specs.Lines.{writer_line, writer_lines}
use Rattle.line_model.specs.ReplayedLines.{commands_of}
use Rattle.trace_run.specs.writers.Obeying.{IsLineAt}

-- it is a line of this CPU's writer, and of no other; or of none
abbrev pub IsWriterOf : Command → Option CpuId → Type 0
IsWriterOf command None = (cpu : ℕ) → writer_line cpu command ≡ false
IsWriterOf command (Some of) = (cpu : ℕ) → writer_line cpu command ≡ nat_eq of.0 cpu

-- each CPU's list has the indexes of its writer's lines among the first `count` commands
abbrev pub AreIndexed : List (ℕ × Command) → (count : ℕ) → List (List ℕ) → Type 0
AreIndexed commands count lists = (cpu : ℕ) (indexes : List ℕ)
    → slice_get lists cpu ≡ Some indexes
    → AllZip (IsLineAt commands) indexes (writer_lines cpu (commands_of (take count commands)))
