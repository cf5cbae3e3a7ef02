-- Which records the `w` and `c` lines of a CPU commit. docs/formats/program.md, "Script", and docs/formats/ring.md,
-- "Writer frames".
use Rattle.std.specs.Prelude.{◌≡◌, ◌≢◌, ℕ, max, ◌+◌, ◌≤◌, ◌⊎◌, ⊤, Bool, IsTrue, true, false, ◌&&◌, if◌then◌else◌}
use Rattle.std.specs.Prelude.{nat_le, nat_lt, List, [], ◌∷◌, ◌++◌, length}
use Rattle.trace_model.specs.declared.limits.TheConstants.{MIN_PAGES, MOMENT_LIMIT, LINK_FILLS}
use Rattle.trace_model.specs.Record.{Record}
use Rattle.trace_model.specs.Words.{padded, encoded_len}
use Rattle.trace_model.specs.History.{HistoryEvent, IsHistory, is_settled, reserved_records, committed_records}
use Rattle.trace_model.specs.History.{last_moment}
use Rattle.trace_model.specs.Packing.{tail_of, IsPacked}
use Rattle.trace_model.specs.Window.{Window, RingEvent, history_events_of, WindowRun}
use Rattle.text_model.specs.Script.{Command, write, close}
use Rattle.line_model.specs.Lines.{LineState, first_state, LinePart, LineParts, IsBegunByLines, IsMadeByLines}

-- ---- the records of lines

-- a record of len bytes is neither too long for an empty page of this size, nor is its moment too late
abbrev pub is_recorded : (size moment len : ℕ) → Bool
is_recorded size moment len =
    nat_le len size && (nat_le (encoded_len len 0 true) size && nat_lt moment MOMENT_LIMIT)

-- the record of a `w` line after one of moment last: its own moment, raised to that, and its payload in whole words
abbrev pub record_of : (last moment : ℕ) → List ℕ → Record
record_of last moment payload = record { moment = max moment last; bytes = padded payload }

-- what one line adds to the records
abbrev pub records_of_line : (size last : ℕ) → Command → List Record
records_of_line size last (write cpu moment payload) =
    if is_recorded size moment (length payload) then record_of last moment payload ∷ [] else []
records_of_line size last _ = []

-- The records of the `w` lines that are neither too long nor too late, in order, moments raised.
abbrev pub records_of_lines : (size last : ℕ) → List Command → List Record
records_of_lines size last [] = []
records_of_lines size last (write cpu moment payload ∷ lines) =
    if is_recorded size moment (length payload)
    then record_of last moment payload ∷ records_of_lines size (max moment last) lines
    else records_of_lines size last lines
records_of_lines size last (_ ∷ lines) = records_of_lines size last lines

-- a `w` or a `c` line
abbrev pub WritesOrCloses : Command → Type 0
WritesOrCloses (write cpu moment payload) = ⊤
WritesOrCloses (close cpu) = ⊤
WritesOrCloses _ = ⊥

abbrev pub AllWriteOrClose : List Command → Type 0
AllWriteOrClose [] = ⊤
AllWriteOrClose (line ∷ lines) = WritesOrCloses line × AllWriteOrClose lines

-- ---- laws

-- Fills that are begun are at most one more than the records of a packed history, since each fill but the last has a
-- record; and at most the records if the tail has one.
abbrev pub FillsAreFew : Type 0
FillsAreFew = (n size start : ℕ) (events : List RingEvent) (w : Window)
    → WindowRun n start events w
    → IsPacked (history_events_of events) size
    → (w.opened ≤ start + length (reserved_records (history_events_of events)) + 1)
    × (tail_of (history_events_of events) ≢ []
    → w.opened ≤ start + length (reserved_records (history_events_of events)))

-- No frame is on the stack, each push has its leave, and all fills but the tail are closed.
pub record IsAtRest (p : LineState) : Type 0 where
  pub frames : p.frames ≡ []
  pub not_finishing : p.finishing ≡ false
  pub settled : IsTrue (is_settled p.history)
  pub closed : p.window.done + 1 ≡ p.window.opened

-- In a packed history that keeps the discipline of the stack, a `w` or `c` line from rest commits exactly its record
-- or none, and ends at rest. So a frame that is alone is never refused for want of a page; and only if records have
-- taken the numbers of fills is it refused for want of a number.
abbrev pub LinesFromRestCommit : Type 0
LinesFromRestCommit = (n size start : ℕ) (lines : List Command) (line : Command) (p q : LineState)
    (events more : List RingEvent)
    → MIN_PAGES ≤ n
    → WritesOrCloses line
    → LineParts n size lines (first_state start) events p
    → IsAtRest p
    → LinePart n size line p more q
    → IsHistory q.history
    → IsPacked q.history size
    → IsAtRest q
    × ((committed_records q.history
    ≡ committed_records p.history ++ records_of_line size (last_moment (reserved_records p.history)) line)
    ⊎ ((LINK_FILLS ≤ start + length (reserved_records p.history) + n)
    × (committed_records q.history ≡ committed_records p.history)))

-- Of a CPU that has only `w` and `c` lines, at most as many as there are numbers left for fills, and a history that
-- keeps the discipline of the stack, is packed, and is of these lines in this sense, the committed records are exactly
-- those of its `w` lines that are neither too long nor too late, in order, moments raised.
abbrev pub CommitsWholeLines : ((n size start : ℕ) → List Command → List HistoryEvent → Type 0) → Type 0
CommitsWholeLines IsOfLines = (n size start : ℕ) (lines : List Command) (history : List HistoryEvent)
    → MIN_PAGES ≤ n
    → AllWriteOrClose lines
    → start + length lines + n ≤ LINK_FILLS
    → IsHistory history
    → IsPacked history size
    → IsOfLines n size start lines history
    → committed_records history ≡ records_of_lines size 0 lines

-- They commit if all lines have made the history.
abbrev pub WholeLinesCommit : Type 0
WholeLinesCommit = CommitsWholeLines IsMadeByLines

-- They commit if the lines so far have made the history: a `w` or `c` line leaves no frame open.
abbrev pub WholeLinesHaveCommitted : Type 0
WholeLinesHaveCommitted = CommitsWholeLines IsBegunByLines
