-- What calls of both ends make of one run, as statements: clauses of functions of src/laws.rt.
use Rattle.std.specs.Prelude.{◌≡◌, ⊤, Bool, List, [], ◌∷◌, ◌++◌}
use Rattle.trace_model.specs.Ring.{Core}
use Rattle.trace_model.specs.Steps as model
use Rattle.ring_model.specs.Reached.{IsReached}
use Rattle.ring_frames.specs.declared.answer.Answer.{Answer}
use Rattle.ring_steps.specs.declared.rule.Shape.{Shape}
use Rattle.ring_steps.specs.Made.{WriterMade, ReaderMade, writer_made, reader_made}
use Rattle.ring_steps.specs.Made.{trace_of, is_by_writer, is_by_reader, made_by}
use Rattle.ring_steps.specs.Views.{Writing, Reading}
use Rattle.ring_steps.specs.Paging.{IsWriterReached}
use Rattle.ring_steps.specs.Seats.{IsReaderStep}
use Rattle.ring_shared.specs.Calls.{IsCall}
use Rattle.ring_shared.specs.Takes.{IsReaderPart}
use Rattle.ring_shared.specs.Settling.{IsOneRun}

-- ---- two ends that were settled

-- Each state to which a front of the run leads is one that steps reach, and so is its last state: what is proved of
-- such states holds of each of them.
abbrev pub RunsAreReached : Type 0
RunsAreReached = (shape : Shape) (writing : Writing) (reading : Reading) (run : IsOneRun shape writing reading)
    (before later : List model.Exchange) (core : Core)
    → run.exchanges ≡ before ++ later
    → model.Run shape.pages shape.size run.from before core
    → IsReached shape.pages shape.size shape.start core

-- A step of an end is in the run of both: a front of the run ends with it, in which this end made its earlier steps
-- and this one; it leads to a state with the part that the end had after this step, and the rest of the run leads from
-- there to the last state.
pub record StepStands {Made : Type 0} (is : model.Event → Bool) (made : model.Exchange → Core → Made) (shape : Shape)
    {writing : Writing} {reading : Reading} (run : IsOneRun shape writing reading) (earlier : List Made)
    (exchange : model.Exchange) (one : Made)
    : Type 0 where
  pub before : List model.Exchange
  pub x : model.Exchange
  pub later : List model.Exchange
  pub core : Core
  pub exchanges_are : run.exchanges ≡ before ++ x ∷ later
  pub front : model.Run shape.pages shape.size run.from (before ++ x ∷ []) core
  pub rest : model.Run shape.pages shape.size core later run.last
  pub x_is : x ≡ exchange
  pub part_is : made x core ≡ one
  pub steps_are :
      made_by is made (trace_of shape.pages shape.size run.from (before ++ x ∷ []) core front)
      ≡ earlier ++ one ∷ []

-- So it is with each step of either end.
abbrev pub WriterStepsStand : Type 0
WriterStepsStand = (shape : Shape) (writing : Writing) (reading : Reading) (run : IsOneRun shape writing reading)
    (earlier later : List WriterMade) (one : WriterMade)
    → writing.made ≡ earlier ++ one ∷ later
    → StepStands is_by_writer writer_made shape run earlier one.exchange one

abbrev pub ReaderStepsStand : Type 0
ReaderStepsStand = (shape : Shape) (writing : Writing) (reading : Reading) (run : IsOneRun shape writing reading)
    (earlier later : List ReaderMade) (one : ReaderMade)
    → reading.made ≡ earlier ++ one ∷ later
    → StepStands is_by_reader reader_made shape run earlier one.exchange one

-- ---- one end, whether it is settled or not

-- After each step of an end there is a run of a new ring in which this end made exactly its steps up to this one, each
-- with its part after it, and whose last state has its part.
abbrev pub WriterCallsEndRuns : Type 0
WriterCallsEndRuns = (shape : Shape) (before : Writing) (event : model.Event) (result : Answer) (after : Writing)
    → IsCall shape before event result after
    → IsWriterReached shape after

abbrev pub ReaderStepsEndRuns : Type 0
ReaderStepsEndRuns = (shape : Shape) (before : Reading) (event : model.Event) (answer : model.Answer) (after : Reading)
    → IsReaderStep shape before (λ _. ⊤) event answer after
    → IsReaderPart shape after
