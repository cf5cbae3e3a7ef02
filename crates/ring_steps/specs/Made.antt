-- What each end made of a run: its steps, in their order, each with the end's part of the state after it.
-- docs/MODEL.md, "The running ring".
use Rattle.std.specs.Prelude.{◌≡◌, ℕ, List, [], ◌∷◌, Bool, true, false}
use Rattle.trace_model.specs.History.{HistoryEvent}
use Rattle.trace_model.specs.Links.{Link}
use Rattle.trace_model.specs.Frames.{Frame}
use Rattle.trace_model.specs.Ring.{Reader, Core}
use Rattle.trace_model.specs.Steps.{Event, pushes, pushes_close, steps, ends, reads, wishes, Exchange, Run}
use Rattle.ring_model.specs.Reached.{IsReached}
use Rattle.ring_model.specs.Seats.{PrivateRun}

-- ---- single steps

-- A step of the writer: what was asked and answered, and the writer's part of the state after it.
pub record WriterMade : Type 0 where
  pub exchange : Exchange
  pub frames : List Frame
  pub open_pages : List ℕ
  pub history : List HistoryEvent
  pub done : ℕ
  pub opened : ℕ

-- A step of the reader: what was asked and answered, and the reader's part of the state after it.
pub record ReaderMade : Type 0 where
  pub exchange : Exchange
  pub order : List ℕ
  pub spare : ℕ
  pub spare_link : Link
  pub reader : Reader
  pub wish : ℕ

-- that of a step which led to this state
abbrev pub writer_made : Exchange → Core → WriterMade
writer_made x c = record {
  exchange = x;
  frames = c.frames;
  open_pages = c.open_pages;
  history = c.history;
  done = c.done;
  opened = c.opened;
}

abbrev pub reader_made : Exchange → Core → ReaderMade
reader_made x c = record {
  exchange = x;
  order = c.order;
  spare = c.spare;
  spare_link = c.spare_link;
  reader = c.reader;
  wish = c.wish;
}

-- ---- runs

-- what a run goes through: each exchange, and the state after it
abbrev pub Trace : Type 0
Trace = List (Exchange × Core)

abbrev pub trace_of : (n size : ℕ) (before : Core) (exchanges : List Exchange) (after : Core)
    → Run n size before exchanges after → Trace
trace_of n size before [] after run = []
trace_of n size before (x ∷ exchanges) after (between, step, run) =
    (x, between) ∷ trace_of n size between exchanges after run

-- ---- whose a step is

abbrev pub is_by_reader : Event → Bool
is_by_reader (pushes moment len) = false
is_by_reader pushes_close = false
is_by_reader steps = false
is_by_reader (ends payload) = false
is_by_reader reads = true
is_by_reader wishes = true

abbrev pub is_by_writer : Event → Bool
is_by_writer (pushes moment len) = true
is_by_writer pushes_close = true
is_by_writer steps = true
is_by_writer (ends payload) = true
is_by_writer reads = false
is_by_writer wishes = false

abbrev pub kept_if : {Made : Type 0} → Bool → Made → List Made → List Made
kept_if true one others = one ∷ others
kept_if false one others = others

-- what one end made of this, in its order
abbrev pub made_by : {Made : Type 0} → (is : Event → Bool) → (made : Exchange → Core → Made) → Trace → List Made
made_by is made [] = []
made_by is made ((x, after) ∷ trace) = kept_if (is x.event) (made x after) (made_by is made trace)

abbrev pub by_writer : Trace → List WriterMade
by_writer trace = made_by is_by_writer writer_made trace

abbrev pub by_reader : Trace → List ReaderMade
by_reader trace = made_by is_by_reader reader_made trace

-- The trace is made of the steps of both ends, each end's in its own order, and of no others. At each step of an
-- end, the state after it has this end's part as it was then.
pub record AreMadeByBoth (writers : List WriterMade) (readers : List ReaderMade) (trace : Trace) : Type 0 where
  pub by_writer_are : by_writer trace ≡ writers
  pub by_reader_are : by_reader trace ≡ readers

-- ---- states that steps reach

-- what the run goes through by which a state is reached
abbrev pub trace_to : {n size start : ℕ} {c : Core} → IsReached n size start c → Trace
trace_to {n} {size} {start} {c} reached = trace_of n size reached.from reached.exchanges c reached.run

-- what each end made of it
abbrev pub writer_made_of : {n size start : ℕ} {c : Core} → IsReached n size start c → List WriterMade
writer_made_of reached = by_writer (trace_to reached)

abbrev pub reader_made_of : {n size start : ℕ} {c : Core} → IsReached n size start c → List ReaderMade
reader_made_of reached = by_reader (trace_to reached)

-- what the writer made by private steps
abbrev pub privately_made : (n size : ℕ) (before : Core) (exchanges : List Exchange) (after : Core)
    → PrivateRun n size before exchanges after → List WriterMade
privately_made n size before [] after run = []
privately_made n size before (x ∷ exchanges) after (own, between, step, run) =
    writer_made x between ∷ privately_made n size between exchanges after run
