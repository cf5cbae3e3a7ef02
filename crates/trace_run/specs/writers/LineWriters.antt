-- A writer with the payloads of its frames, and what its calls and lines make of both.
use Rattle.std.specs.Prelude.{◌≡◌, ℕ, ◌<◌, List, [], ◌∷◌, ◌++◌, length, map, reverse, take, Bool, true, false}
use Rattle.trace_model.specs.declared.limits.TheConstants.{MAX_FRAMES}
use Rattle.trace_model.specs.Frames.{WriteFault}
use Rattle.trace_model.specs.Steps.{Event, pushes, pushed, refused, Exchange}
use Rattle.text_model.specs.Script.{Command}
use Rattle.world_model.specs.Lanes.{FitFrames, event_on_top, payloads_left}
use Rattle.line_model.specs.WriterCalls.{LineWriting, IsWriterCall, WholeCalls, LineCalls, LinesCalls, RestCalls}
use Rattle.ring_steps.specs.Views.{Writing}
use Rattle.ring_shared.specs.Value.{SameWriter}
use Rattle.ring_shared.specs.Calls.{IsWriter}
use Rattle.trace_run.specs.declared.writers.writer.LineWriter.{LineWriter}
use Rattle.trace_run.specs.writers.Distance.{distance}

-- the part of a ring that its writer alone changes, as far as lines are concerned
abbrev pub writer_in : Writing → LineWriting
writer_in w = record { frames = w.frames; history = w.history; done = w.done; opened = w.opened }

-- the exchanges that the writer of this part has made, in order
abbrev pub made_in : Writing → List Exchange
made_in w = map (λ made. made.exchange) w.made

-- the payload of each frame, the top one's first
abbrev pub payloads_of : LineWriter → List (List ℕ)
payloads_of w = reverse (map (λ payload. payload.now) (take (length w.writer.part.frames) w.payloads))

-- The writer is that of a ring, and there is room for a payload of each frame. Each frame has a payload of the length
-- that it was pushed for.
pub record IsLineWriter (w : LineWriter) : Type 0 where
  pub writer : IsWriter w.writer
  pub room : length w.payloads ≡ MAX_FRAMES
  pub fit : FitFrames w.writer.part.frames (payloads_of w)

-- a call of a writer, of a ring of its shape
abbrev pub Calls : LineWriter → Exchange → LineWriter → Type 0
Calls old x new =
    IsWriterCall old.writer.shape.pages old.writer.shape.size old.writer.shape.start (writer_in old.writer.part) x
    (writer_in new.writer.part)

-- the writer has made these exchanges more
abbrev pub HasMade : LineWriter → List Exchange → LineWriter → Type 0
HasMade old made new = made_in new.writer.part ≡ made_in old.writer.part ++ made

-- ---- single calls

-- A frame is pushed with this payload, or refused; no fill is closed.
pub record Pushes (event : Event) (payload : List ℕ) (old : LineWriter) (stands : Bool) (new : LineWriter)
    : Type 0 where
  pub is : IsLineWriter new
  pub same : SameWriter old.writer new.writer
  pub done_is : new.writer.part.done ≡ old.writer.part.done
  pub has_pushed : stands ≡ true
      → Calls old record { event = event; answer = pushed } new
      × HasMade old (record { event = event; answer = pushed } ∷ []) new
      × (payloads_of new ≡ payload ∷ payloads_of old)
  pub has_refused : stands ≡ false
      → (why : WriteFault)
      × Calls old record { event = event; answer = refused why } new
      × HasMade old (record { event = event; answer = refused why } ∷ []) new
      × (payloads_of new ≡ payloads_of old)

-- A call for the frame on top: it ends with its payload if its record is reserved, or else makes a step. If it stays on
-- the stack, it is nearer to its end.
pub record CallsTop (old new : LineWriter) : Type 0 where
  pub is : IsLineWriter new
  pub same : SameWriter old.writer new.writer
  pub x : Exchange
  pub event_is : x.event ≡ event_on_top old.writer.part.frames (payloads_of old)
  pub call : Calls old x new
  pub has_made : HasMade old (x ∷ []) new
  pub lefts_are : payloads_of new ≡ payloads_left new.writer.part.frames (payloads_of old)
  pub closer : length new.writer.part.frames ≡ length old.writer.part.frames
      → distance new.writer < distance old.writer

-- ---- lines

-- Calls of this kind, some or none, lead from one to the other, and the writer has made their exchanges more.
pub record MakesCalls
    (calls : (n size start : ℕ) → LineWriting → List (List ℕ) → List Exchange → LineWriting → List (List ℕ) → Type 0)
    (old new : LineWriter)
    : Type 0 where
  pub is : IsLineWriter new
  pub same : SameWriter old.writer new.writer
  pub exchanges : List Exchange
  pub made : calls old.writer.shape.pages old.writer.shape.size old.writer.shape.start
      (writer_in old.writer.part) (payloads_of old) exchanges (writer_in new.writer.part) (payloads_of new)
  pub has_made : HasMade old exchanges new

-- the calls of a line
abbrev pub MakesLine : Command → LineWriter → LineWriter → Type 0
MakesLine command old new =
    MakesCalls (λ n size start before payloads made after lefts.
    LineCalls n size start command before payloads made after lefts) old new

-- a record frame of this moment and payload is pushed and finished, or its push is refused
abbrev pub WritesWhole : (moment : ℕ) → (payload : List ℕ) → LineWriter → LineWriter → Type 0
WritesWhole moment payload old new =
    MakesCalls (λ n size start before payloads made after lefts.
    WholeCalls n size start (pushes moment (length payload)) payload before payloads made after lefts) old new

-- the calls of lines, one line after the other
abbrev pub MakesLines : List Command → LineWriter → LineWriter → Type 0
MakesLines lines old new =
    MakesCalls (λ n size start before payloads made after lefts.
    LinesCalls n size start lines before payloads made after lefts) old new

-- the frames are finished, the top one first, this number of them
abbrev pub MakesRest : ℕ → LineWriter → LineWriter → Type 0
MakesRest count old new =
    MakesCalls (λ n size start before payloads made after lefts.
    RestCalls n size start count before payloads made after lefts) old new

-- all frames are finished
pub record FinishesRest (old new : LineWriter) : Type 0 where
  pub count : ℕ
  pub makes : MakesRest count old new
  pub none : new.writer.part.frames ≡ []
