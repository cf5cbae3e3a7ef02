-- What the writer lines of a CPU make of its ring, when a gate lets the writer pass.
use Rattle.std.specs.Prelude.{◌≡◌, ℕ, ◌+◌, ◌≤◌, Bool, List, [], length, Some, Result, Ok, Err}
use Rattle.std.specs.List.{slice_get, AllZip}
use Rattle.trace_model.specs.declared.limits.TheConstants.{LINK_FILLS}
use Rattle.trace_model.specs.declared.numbers.FillNo.{FillNo}
use Rattle.trace_model.specs.History.{committed_records}
use Rattle.text_model.specs.Script.{Command}
use Rattle.line_model.specs.Lines.{writer_lines, IsMadeByLines}
use Rattle.line_model.specs.WriterCalls.{IsReachedByLines, exchanges_to}
use Rattle.line_model.specs.WrittenRecords.{AllWriteOrClose, records_of_lines}
use Rattle.line_model.specs.ReplayedLines.{commands_of}
use Rattle.ring_shared.specs.Value.{WriterValue, SameWriter}
use Rattle.trace_run.specs.declared.writers.gate.Who.{Who}
use Rattle.trace_run.specs.writers.LineWriters.{writer_in, made_in}
use Rattle.trace_run.specs.writers.Asking.{HavePassed, IsShut}

-- the command of this index is the line
abbrev pub IsLineAt : List (ℕ × Command) → (line_index : ℕ) → Command → Type 0
IsLineAt commands line_index line = (number : ℕ) × (slice_get commands line_index ≡ Some (number, line))

-- the indexes are those of the CPU's writer lines among these commands, one for one, in order
abbrev pub AreLinesOf : (cpu : ℕ) → List (ℕ × Command) → (indexes : List ℕ) → Type 0
AreLinesOf cpu commands indexes = AllZip (IsLineAt commands) indexes (writer_lines cpu (commands_of commands))

-- From a new ring, the writer has made the calls of the CPU's writer lines, one line after the other, and then those
-- that finish the frames which are left, and no others: these are all exchanges that it made, in order. So these lines
-- have made its history, and no frame is left. With `w` and `c` lines alone, at most as many as there are numbers left
-- for fills, the committed records are exactly those of the `w` lines that are neither too long nor too late, in order,
-- moments raised.
pub record HasObeyed (cpu : ℕ) (commands : List (ℕ × Command)) (before after : WriterValue) : Type 0 where
  pub same : SameWriter before after
  pub at_rest : after.part.frames ≡ []
  pub calls : IsReachedByLines before.shape.pages before.shape.size before.shape.start
      (writer_lines cpu (commands_of commands)) (writer_in after.part)
  pub has_made : made_in after.part ≡ exchanges_to calls
  pub made : IsMadeByLines before.shape.pages before.shape.size before.shape.start
      (writer_lines cpu (commands_of commands)) after.part.history
  pub committed : AllWriteOrClose (writer_lines cpu (commands_of commands))
      → before.shape.start + length (writer_lines cpu (commands_of commands)) + before.shape.pages ≤ LINK_FILLS
      → committed_records after.part.history
      ≡ records_of_lines before.shape.size 0 (writer_lines cpu (commands_of commands))

-- The lines are obeyed, and the gate let the writer pass at each fill that it closed; or it shut at a fill that was
-- closed, asked with this number.
abbrev pub ObeysLines : {Gate : Type 0} (answers : Gate → Who → (cpu fill : ℕ) → Bool → Type 0) → Gate
    → (cpu : ℕ) → List (ℕ × Command) → WriterValue → Result WriterValue FillNo → Type 0
ObeysLines answers gate cpu commands before (Ok after) =
    HasObeyed cpu commands before after × HavePassed answers gate cpu before.part.done after.part.done
ObeysLines answers gate cpu commands before (Err fill) = IsShut answers gate cpu before fill
