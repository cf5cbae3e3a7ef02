-- The calls of a writer for its lines, whatever the reader does between them.
-- docs/formats/ring.md, "Writer frames".
use Rattle.std.specs.Prelude.{◌≡◌, ℕ, zero, suc, ◌+◌, ◌≤◌, ◌⊎◌, List, [], ◌∷◌, ◌++◌, length}
use Rattle.trace_model.specs.History.{HistoryEvent}
use Rattle.trace_model.specs.Frames.{Frame, WriteFault}
use Rattle.trace_model.specs.Ring.{Core}
use Rattle.trace_model.specs.Steps.{Event, pushes, pushes_close, pushed, refused, Step, Exchange}
use Rattle.text_model.specs.Script.{Command, begin_frame, step_frame, finish_frame, write, close}
use Rattle.ring_model.specs.Reached.{IsReached}
use Rattle.world_model.specs.Lanes.{event_on_top, payloads_left}

-- The part of a ring that its writer alone changes, as far as lines are concerned: its frames, its history, and the
-- counts of closed and begun fills.
pub record LineWriting : Type 0 where
  pub frames : List Frame
  pub history : List HistoryEvent
  pub done : ℕ
  pub opened : ℕ

abbrev pub writer_of : Core → LineWriting
writer_of c = record { frames = c.frames; history = c.history; done = c.done; opened = c.opened }

-- the writer of a new ring
abbrev pub first_writer : ℕ → LineWriting
first_writer start = record { frames = []; history = []; done = start; opened = start + 1 }

-- One call: a step of some ring that steps reach. The ring has the one writer before it and the other after it.
pub record IsWriterCall (n size start : ℕ) (before : LineWriting) (x : Exchange) (after : LineWriting) : Type 0 where
  pub core : Core
  pub next : Core
  pub reached : IsReached n size start core
  pub before_is : writer_of core ≡ before
  pub step : Step n size core x.event x.answer next
  pub after_is : writer_of next ≡ after

-- Calls for the frame that has depth frames below it, while it is on the stack: its steps, and the end with its
-- payload. The frames on the stack have these payloads before the calls, the top one's first, and lefts after them.
abbrev pub TopCalls : (n size start depth : ℕ) → LineWriting → (payloads : List (List ℕ)) → List Exchange → LineWriting
    → (lefts : List (List ℕ)) → Type 0
TopCalls n size start depth before payloads [] after lefts = (before ≡ after) × (payloads ≡ lefts)
TopCalls n size start depth before payloads (x ∷ calls) after lefts =
    (length before.frames ≡ suc depth)
    × (x.event ≡ event_on_top before.frames payloads)
    × (between : LineWriting)
    × IsWriterCall n size start before x between
    × TopCalls n size start depth between (payloads_left between.frames payloads) calls after lefts

-- ---- the calls of a line

-- In what follows `made` are the exchanges of the calls, in order.

-- `s K`: K calls for the top frame, or fewer if it is popped before that; none if there is no frame
pub data StepsCalls (n size start count : ℕ) (before : LineWriting) (payloads : List (List ℕ)) (made : List Exchange)
    (after : LineWriting) (lefts : List (List ℕ))
    : Type 0 where
  none_to_step : before.frames ≡ []
      → made ≡ []
      → after ≡ before
      → lefts ≡ payloads
      → StepsCalls n size start count before payloads made after lefts
  steps_top : (depth : ℕ) (x : Exchange) (calls : List Exchange)
      → made ≡ x ∷ calls
      → length before.frames ≡ suc depth
      → TopCalls n size start depth before payloads (x ∷ calls) after lefts
      → suc (length calls) ≤ count
      → (suc (length calls) ≡ count) ⊎ (length after.frames ≤ depth)
      → StepsCalls n size start count before payloads made after lefts

-- `f`: calls for the top frame until it is popped; none if there is no frame
pub data FinishCalls (n size start : ℕ) (before : LineWriting) (payloads : List (List ℕ)) (made : List Exchange)
    (after : LineWriting) (lefts : List (List ℕ))
    : Type 0 where
  none_to_finish : before.frames ≡ []
      → made ≡ []
      → after ≡ before
      → lefts ≡ payloads
      → FinishCalls n size start before payloads made after lefts
  finishes_top : (depth : ℕ)
      → length before.frames ≡ suc depth
      → TopCalls n size start depth before payloads made after lefts
      → length after.frames ≤ depth
      → FinishCalls n size start before payloads made after lefts

-- `b`: the push of a frame with this payload; or its refusal
pub data BeginCalls (n size start : ℕ) (event : Event) (payload : List ℕ) (before : LineWriting)
    (payloads : List (List ℕ)) (made : List Exchange) (after : LineWriting) (lefts : List (List ℕ))
    : Type 0 where
  begins_frame : made ≡ record { event = event; answer = pushed } ∷ []
      → IsWriterCall n size start before record { event = event; answer = pushed } after
      → lefts ≡ payload ∷ payloads
      → BeginCalls n size start event payload before payloads made after lefts
  begins_none : (why : WriteFault)
      → made ≡ record { event = event; answer = refused why } ∷ []
      → IsWriterCall n size start before record { event = event; answer = refused why } after
      → lefts ≡ payloads
      → BeginCalls n size start event payload before payloads made after lefts

-- `w` and `c`: the push and then as `f`; or its refusal
pub data WholeCalls (n size start : ℕ) (event : Event) (payload : List ℕ) (before : LineWriting)
    (payloads : List (List ℕ)) (made : List Exchange) (after : LineWriting) (lefts : List (List ℕ))
    : Type 0 where
  writes_frame : (between : LineWriting) (finishing : List Exchange)
      → made ≡ record { event = event; answer = pushed } ∷ finishing
      → IsWriterCall n size start before record { event = event; answer = pushed } between
      → FinishCalls n size start between (payload ∷ payloads) finishing after lefts
      → WholeCalls n size start event payload before payloads made after lefts
  writes_none : (why : WriteFault)
      → made ≡ record { event = event; answer = refused why } ∷ []
      → IsWriterCall n size start before record { event = event; answer = refused why } after
      → lefts ≡ payloads
      → WholeCalls n size start event payload before payloads made after lefts

-- nothing is called
abbrev pub NoCalls : LineWriting → List (List ℕ) → List Exchange → LineWriting → List (List ℕ) → Type 0
NoCalls before payloads made after lefts = (made ≡ []) × (after ≡ before) × (lefts ≡ payloads)

-- the calls of one line; for a line of the reader or of a collector there are none
abbrev pub LineCalls : (n size start : ℕ) → Command → LineWriting → List (List ℕ) → List Exchange → LineWriting
    → List (List ℕ) → Type 0
LineCalls n size start (begin_frame cpu moment payload) before payloads made after lefts =
    BeginCalls n size start (pushes moment (length payload)) payload before payloads made after lefts
LineCalls n size start (step_frame cpu count) before payloads made after lefts =
    StepsCalls n size start count before payloads made after lefts
LineCalls n size start (finish_frame cpu) before payloads made after lefts =
    FinishCalls n size start before payloads made after lefts
LineCalls n size start (write cpu moment payload) before payloads made after lefts =
    WholeCalls n size start (pushes moment (length payload)) payload before payloads made after lefts
LineCalls n size start (close cpu) before payloads made after lefts =
    WholeCalls n size start pushes_close [] before payloads made after lefts
LineCalls n size start _ before payloads made after lefts = NoCalls before payloads made after lefts

-- the calls of lines, one line after the other
abbrev pub LinesCalls : (n size start : ℕ) → List Command → LineWriting → List (List ℕ) → List Exchange
    → LineWriting → List (List ℕ) → Type 0
LinesCalls n size start [] before payloads made after lefts = NoCalls before payloads made after lefts
LinesCalls n size start (line ∷ lines) before payloads made after lefts =
    (own others : List Exchange) × (made ≡ own ++ others)
    × (between : LineWriting) × (middle : List (List ℕ))
    × LineCalls n size start line before payloads own between middle
    × LinesCalls n size start lines between middle others after lefts

-- the frames on the stack are finished, the top one first, this number of them
abbrev pub RestCalls : (n size start count : ℕ) → LineWriting → List (List ℕ) → List Exchange → LineWriting
    → List (List ℕ) → Type 0
RestCalls n size start zero before payloads made after lefts = NoCalls before payloads made after lefts
RestCalls n size start (suc count) before payloads made after lefts =
    (own others : List Exchange) × (made ≡ own ++ others)
    × (between : LineWriting) × (middle : List (List ℕ))
    × FinishCalls n size start before payloads own between middle
    × RestCalls n size start count between middle others after lefts

-- From the writer of a new ring to this one: the calls of the lines, one line after the other, and then those that
-- finish the frames which are left.
pub record IsReachedByLines (n size start : ℕ) (lines : List Command) (last : LineWriting) : Type 0 where
  pub behind : LineWriting
  pub payloads : List (List ℕ)
  pub by_lines : List Exchange
  pub calls : LinesCalls n size start lines (first_writer start) [] by_lines behind payloads
  pub count : ℕ
  pub lefts : List (List ℕ)
  pub by_rest : List Exchange
  pub rest : RestCalls n size start count behind payloads by_rest last lefts

-- the exchanges of all these calls, in order
abbrev pub exchanges_to : {n size start : ℕ} {lines : List Command} {last : LineWriting}
    → IsReachedByLines n size start lines last → List Exchange
exchanges_to reached = reached.by_lines ++ reached.by_rest
