-- What is left of a ring whose two ends were joined.
use Rattle.std.specs.Prelude.{◌≡◌, ℕ, ◌+◌, ◌<◌, ◌≤◌, ◌⊎◌, ◌==◌, if◌then◌else◌, List, [], ◌∷◌, ◌++◌, length, map, Option}
use Rattle.std.specs.Prelude.{Some, None}
use Rattle.std.specs.List.{slice_get}
use Rattle.trace_model.specs.Record.{Record}
use Rattle.trace_model.specs.History.{reserved_records, as_record, committed_records}
use Rattle.trace_model.specs.Packing.{first_of_fill}
use Rattle.trace_model.specs.Partition.{Piece, IsPartition}
use Rattle.trace_model.specs.Ring.{Core, IsStart, TakenFill, fill_of, AreFillsOf}
use Rattle.trace_model.specs.Steps.{Exchange, Run}
use Rattle.ring_model.specs.KeptPartition.{pieces_of}
use Rattle.ring_model.specs.Reached.{MayStart}
use Rattle.page_image.specs.Contents.{Contents, records_of_page}
use Rattle.nested_writer.specs.Released.{IsWrittenPage}
use Rattle.ring_steps.specs.declared.rule.Shape.{Shape}
use Rattle.ring_steps.specs.Made.{trace_of, AreMadeByBoth}
use Rattle.ring_steps.specs.Receipts.{AreInTime}
use Rattle.ring_steps.specs.Views.{Writing, writing_of, Reading}
use Rattle.ring_steps.specs.Shown.{IsReading}
use Rattle.ring_steps.specs.Seats.{AreParts}
use Rattle.ring_steps.specs.Ends.{writing_settled, reading_settled}
use Rattle.ring_shared.specs.declared.settling.Settled.{Settled}

-- the page that no take has answered: the tail, if it holds a record
abbrev pub unread_page : Settled → Option Contents
unread_page settled = if settled.tail.count == 0 then None else Some settled.tail

-- the unread page as a piece, before which nothing is skipped
abbrev pub piece_unread : Option Contents → List Piece
piece_unread None = []
piece_unread (Some page) = record { skipped = 0; records = records_of_page page } ∷ []

-- a fill that the reader took
abbrev pub WasTaken : Reading → ℕ → Type 0
WasTaken reading f = (k : ℕ) × (t : TakenFill) × (slice_get reading.reader.taken k ≡ Some t) × (t.fill ≡ f)

-- the parts of the writer and of the reader of the ring that was settled, as they were then
abbrev pub writing_of_settled : Settled → Writing
writing_of_settled settled = writing_settled settled.seats

abbrev pub reading_of_settled : Settled → Reading
reading_of_settled settled = reading_settled settled.seats

-- the parts of the ends that were joined are these
pub record AreEndsOf (writing : Writing) (reading : Reading) (settled : Settled) : Type 0 where
  pub writing_is : writing_of_settled settled ≡ writing
  pub reading_is : reading_of_settled settled ≡ reading

-- All that both ends asked of the ring, each end in its own order, with all that it answered, is one run of the model
-- from a new ring: it leads to a state of which these are the two parts. In it what the reader learned is before what
-- it did later.
pub record IsOneRun (shape : Shape) (writing : Writing) (reading : Reading) : Type 0 where
  pub from : Core
  pub exchanges : List Exchange
  pub last : Core
  pub may_start : MayStart shape.pages shape.start
  pub is_new : IsStart shape.pages shape.start from
  pub run : Run shape.pages shape.size from exchanges last
  pub made : AreMadeByBoth writing.made reading.made (trace_of shape.pages shape.size from exchanges last run)
  pub in_time : AreInTime (trace_of shape.pages shape.size from exchanges last run) reading.lessons
  pub writing_is : writing_of writing.made last ≡ writing
  pub reading_is : IsReading last reading

-- What holds of both ends at any moment. All that they asked is one run (`one_run`). The committed records are what the
-- reader took, with what it reports as missed; then those that were overwritten since; and then those that are unread
-- in the ring, which are all from the first number of the run's head on. After the committed ones come those that are
-- reserved by open frames, or by frames that have ended above an open one; none if no frame is open. Each page that was
-- taken is a whole fill of this writer's history, under that fill's number.
pub record IsStopped (shape : Shape) (writing : Writing) (reading : Reading) : Type 0 where
  pub one_run : IsOneRun shape writing reading
  pub overwritten : List Record
  pub unread : List Record
  pub partition : IsPartition (committed_records writing.history) (pieces_of reading.reader.taken)
      (overwritten ++ unread)
  pub unread_from : length (committed_records writing.history)
      ≡ first_of_fill writing.history shape.start one_run.last.head + length unread
  pub pending : List Record
  pub reserved_are : map as_record (reserved_records writing.history) ≡ committed_records writing.history ++ pending
  pub none_stands : writing.frames ≡ [] → pending ≡ []
  pub fills : AreFillsOf shape.start writing.history reading.reader.taken

-- The committed records are what the reader took, with what it reports as missed, and then the unread page's, and
-- nothing else. That page is the tail. Each closed fill was taken, or is lost: the fill one round of the ring's pages
-- after it, which took its place, is begun. Each page that was taken is a whole fill of this writer's history, under
-- that fill's number. The two ends are the parts of one state that steps from a new ring reach (`parts`), and written
-- out, all that both asked, with the answers, is one run (`one_run`).
pub record IsSettled (shape : Shape) (writing : Writing) (reading : Reading) (settled : Settled) : Type 0 where
  pub partition : IsPartition (committed_records writing.history)
      (pieces_of reading.reader.taken ++ piece_unread (unread_page settled)) []
  pub tail : IsWrittenPage shape.size writing.done (fill_of writing.history shape.start writing.done) settled.tail
  pub passed : (f : ℕ)
      → shape.start ≤ f
      → f < writing.done
      → WasTaken reading f ⊎ (f + shape.pages < writing.opened)
  pub fills : AreFillsOf shape.start writing.history reading.reader.taken
  pub parts : AreParts shape writing reading
  pub one_run : IsOneRun shape writing reading
