-- What is left in a ring whose closed fills are all passed, as a statement: a clause of a function of src/laws.rt.
use Rattle.std.specs.Prelude.{◌≡◌, []}
use Rattle.trace_model.specs.History.{committed_records}
use Rattle.trace_model.specs.Partition.{IsPartition}
use Rattle.trace_model.specs.Ring.{fill_of}
use Rattle.ring_model.specs.KeptPartition.{pieces_of}
use Rattle.page_image.specs.Contents.{Contents, records_of_page}
use Rattle.nested_writer.specs.Released.{IsRestingTail}
use Rattle.ring_steps.specs.declared.rule.Shape.{Shape}
use Rattle.ring_steps.specs.Views.{Writing, Reading}
use Rattle.ring_steps.specs.Seats.{AreParts}

-- The parts of both ends are those of one state, the writer's has no frame, and the reader knows all closed fills to be
-- passed. Then what the reader took, and the tail page, have all committed records but those that are counted as
-- missed, and none is missing before the tail's.
abbrev pub TailsAreTheRest : Type 0
TailsAreTheRest = (shape : Shape) (writing : Writing) (reading : Reading) (page : Contents)
    → AreParts shape writing reading
    → writing.frames ≡ []
    → reading.reader.hint ≡ writing.done
    → IsRestingTail shape.size writing.done (fill_of writing.history shape.start writing.done) writing.history page
    → IsPartition (committed_records writing.history) (pieces_of reading.reader.taken) (records_of_page page)
