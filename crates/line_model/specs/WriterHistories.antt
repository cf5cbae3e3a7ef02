-- The histories that writers make by the calls of their lines, as statements.
use Rattle.std.specs.Prelude.{◌≡◌, ℕ, ◌+◌, ◌≤◌, List, [], length}
use Rattle.trace_model.specs.declared.limits.TheConstants.{MIN_PAGES, LINK_FILLS}
use Rattle.trace_model.specs.History.{HistoryEvent, IsHistory, committed_records}
use Rattle.trace_model.specs.Packing.{IsPacked}
use Rattle.trace_model.specs.Steps.{Exchange}
use Rattle.text_model.specs.Script.{Command}
use Rattle.line_model.specs.WriterCalls.{LineWriting, first_writer, LinesCalls, RestCalls}
use Rattle.line_model.specs.WrittenRecords.{AllWriteOrClose, records_of_lines}

-- the history keeps the discipline of the stack, and is packed in pages of this size
abbrev pub IsWellFormed : ℕ → List HistoryEvent → Type 0
IsWellFormed size history = IsHistory history × IsPacked history size

-- From a new ring, the calls of lines, and those that finish the frames which are left, make such a history.
abbrev pub WritersFormHistories : Type 0
WritersFormHistories = (n size start count : ℕ) (lines : List Command) (made : List Exchange) (s : LineWriting)
    (payloads : List (List ℕ)) (more : List Exchange) (t : LineWriting) (lefts : List (List ℕ))
    → LinesCalls n size start lines (first_writer start) [] made s payloads
    → RestCalls n size start count s payloads more t lefts
    → IsWellFormed size s.history × IsWellFormed size t.history

-- A writer with `w` and `c` lines alone, at most as many as there are numbers left for fills, has committed exactly the
-- records of its `w` lines that are neither too long nor too late, in order, moments raised.
abbrev pub WritersCommitWholeLines : Type 0
WritersCommitWholeLines = (n size start : ℕ) (lines : List Command) (made : List Exchange) (s : LineWriting)
    (payloads : List (List ℕ))
    → MIN_PAGES ≤ n
    → AllWriteOrClose lines
    → start + length lines + n ≤ LINK_FILLS
    → LinesCalls n size start lines (first_writer start) [] made s payloads
    → committed_records s.history ≡ records_of_lines size 0 lines
