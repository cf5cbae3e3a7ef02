-- Receipts: what the writer's thread had done by some moment, and what a take finds once the reader has learned of it.
-- docs/MODEL.md, "An order in time".
use Rattle.std.specs.Prelude.{◌≡◌, ℕ, ◌≤◌, List, [], ◌∷◌, ◌++◌, length, Contains}
use Rattle.atomic_table.specs.Seated.{TableId}
use Rattle.trace_model.specs.Ring.{Core}
use Rattle.trace_model.specs.Steps.{Exchange}
use Rattle.ring_steps.specs.declared.rule.Shape.{Shape}
use Rattle.ring_steps.specs.Made.{WriterMade, ReaderMade, writer_made, reader_made, Trace, trace_of, by_writer}
use Rattle.ring_steps.specs.Made.{by_reader}
use Rattle.ring_steps.specs.Receipts.{Lesson}
use Rattle.ring_steps.specs.Views.{Writing, Reading}
use Rattle.ring_shared.specs.Settling.{IsOneRun}
use Rattle.ring_shared.specs.Takes.{IsEmptyFound}

-- What contracts see of a receipt: its ring's table, and the steps that the writer had made.
pub record ReceiptValue : Type 0 where
  pub table : TableId
  pub made : List WriterMade

-- the number of the oldest fill that isn't closed once the writer has made these steps, in a ring whose first fill has
-- this number
abbrev pub done_after : (start : ℕ) → List WriterMade → ℕ
done_after start [] = start
done_after start (one ∷ made) = done_after one.done made

-- If a take finds nothing unread, then whatever the reader has learned to be closed is taken or lost: the number that
-- it answers is no lower.
abbrev pub WhatReturnedIsSeen : Type 0
WhatReturnedIsSeen = (shape : Shape) (before after : Reading) (done : ℕ) (lesson : Lesson)
    → Contains before.lessons lesson
    → IsEmptyFound shape before done after
    → done_after shape.start lesson.made ≤ done

-- Of what both ends made of a run, this step of the writer, after these earlier ones, is before that step of the
-- reader, after its earlier ones.
pub record StandsBefore (trace : Trace) (wrote : List WriterMade) (one : WriterMade) (read : List ReaderMade)
    (next : ReaderMade)
    : Type 0 where
  pub front : Trace
  pub first : Exchange × Core
  pub between : Trace
  pub second : Exchange × Core
  pub rest : Trace
  pub trace_is : trace ≡ front ++ first ∷ (between ++ second ∷ rest)
  pub first_is : writer_made first.0 first.1 ≡ one
  pub second_is : reader_made second.0 second.1 ≡ next
  pub wrote_are : by_writer front ≡ wrote
  pub read_are : by_reader (front ++ first ∷ between) ≡ read

-- In the run of a ring's two ends each step that the writer had made when it gave a receipt is before each step that
-- the reader made after it had learned the receipt.
abbrev pub WhatReturnedStandsBefore : Type 0
WhatReturnedStandsBefore = (shape : Shape) (writing : Writing) (reading : Reading)
    (run : IsOneRun shape writing reading) (lesson : Lesson) (wrote others : List WriterMade) (one : WriterMade)
    (read later : List ReaderMade) (next : ReaderMade)
    → Contains reading.lessons lesson
    → lesson.made ≡ wrote ++ one ∷ others
    → reading.made ≡ read ++ next ∷ later
    → lesson.steps ≤ length read
    → StandsBefore (trace_of shape.pages shape.size run.from run.exchanges run.last run.run) wrote one read next
