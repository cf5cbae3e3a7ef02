-- What a threaded run leaves.
use Rattle.std.specs.Prelude.{◌≡◌, ℕ, ◌+◌, ◌<◌, ◌≤◌, Bool, List, [], filter, length, Some, vec_len}
use Rattle.std.specs.List.{slice_get}
use Rattle.trace_model.specs.declared.limits.TheConstants.{LINK_FILLS}
use Rattle.trace_model.specs.History.{HistoryEvent, IsHistory, committed_records}
use Rattle.trace_model.specs.Packing.{IsPacked}
use Rattle.trace_model.specs.Ring.{Core, IsStart, TakenFill}
use Rattle.trace_model.specs.Steps.{Event, Exchange, Run}
use Rattle.text_model.specs.Script.{Command, Script}
use Rattle.line_model.specs.Lines.{writer_lines, IsMadeByLines}
use Rattle.line_model.specs.WriterCalls.{LineWriting, IsReachedByLines, exchanges_to}
use Rattle.line_model.specs.WrittenRecords.{AllWriteOrClose, records_of_lines}
use Rattle.line_model.specs.ReplayedLines.{commands_of}
use Rattle.ring_steps.specs.declared.rule.Shape.{Shape}
use Rattle.ring_steps.specs.Made.{is_by_reader, is_by_writer}
use Rattle.trace_run.specs.writers.LineWriters.{made_in}
use Rattle.trace_run.specs.declared.ledgers.ledger.Ledger.{Ledger}
use Rattle.trace_run.specs.ledgers.Headline.{AreOfRings}
use Rattle.trace_run.specs.readers.TakesMade.{AreTakes}
use Rattle.trace_run.specs.readers.Ledgers.{writer_in, reader_in, IsLedger}
use Rattle.trace_run.specs.declared.threaded.running.Ran.{Ran}

-- the shape of the rings of a script
abbrev pub shape_of : Script → Shape
shape_of script = record { pages = script.pages; size = script.size; start = script.start }

-- the lines of a CPU's writer
abbrev pub lines_of : Script → (cpu : ℕ) → List Command
lines_of script cpu = writer_lines cpu (commands_of script.commands)

-- The history keeps the discipline of the stack, is packed in pages of the ring's size, and is made by the lines of the
-- CPU's writer: it is that of a writer without frames that the calls of these lines, and those that finish the frames
-- which are left, lead to. With `w` and `c` lines alone, at most as many as there are numbers left for fills, the
-- committed records are exactly those of the `w` lines that are neither too long nor too late, in order, moments
-- raised.
pub record IsRunHistory (script : Script) (cpu : ℕ) (history : List HistoryEvent) : Type 0 where
  pub allowed : IsHistory history
  pub packed : IsPacked history script.size
  pub last : LineWriting
  pub calls : IsReachedByLines script.pages script.size script.start (lines_of script cpu) last
  pub at_rest : last.frames ≡ []
  pub history_is : last.history ≡ history
  pub made : IsMadeByLines script.pages script.size script.start (lines_of script cpu) history
  pub committed : AllWriteOrClose (lines_of script cpu)
      → script.start + length (lines_of script cpu) + script.pages ≤ LINK_FILLS
      → committed_records history ≡ records_of_lines script.size 0 (lines_of script cpu)

-- those of these exchanges whose events are such ones
abbrev pub exchanges_by : (Event → Bool) → List Exchange → List Exchange
exchanges_by is exchanges = filter (λ x. is x.event) exchanges

-- One run of the model, from a new ring to this state: what its writer asks, with the answers, are the calls of these
-- lines and then those that finish the frames which are left; what its reader asks are takes, which are answered these
-- pages.
pub record IsOneRunOf (script : Script) (calls : List Exchange) (taken : List TakenFill) (last : Core) : Type 0 where
  pub from : Core
  pub exchanges : List Exchange
  pub is_new : IsStart script.pages script.start from
  pub run : Run script.pages script.size from exchanges last
  pub by_lines : exchanges_by is_by_writer exchanges ≡ calls
  pub by_takes : AreTakes (exchanges_by is_by_reader exchanges) taken

-- The ledger of a CPU: its ring has a history of that CPU's lines, the parcels are what the ring's reader took, all of
-- it and in order, and the ring is settled. So they and then the page that is left cut the committed records of the
-- history. What its writer made are exactly the calls of the lines, and those that finish the frames which are left:
-- the one run of the ring's two ends is a run of these calls and of takes.
pub record IsRunLedger (script : Script) (cpu : ℕ) (ledger : Ledger) : Type 0 where
  pub history : IsRunHistory script cpu (writer_in ledger).history
  pub is_ledger : IsLedger cpu (shape_of script) ledger
  pub has_made : made_in (writer_in ledger) ≡ exchanges_to history.calls
  pub one_run : IsOneRunOf script (exchanges_to history.calls) (reader_in ledger).reader.taken
      is_ledger.settled.one_run.last
  pub same_run : one_run.exchanges ≡ is_ledger.settled.one_run.exchanges

-- the state of the ring when it was settled, in which that run ends
abbrev pub ring_of : {script : Script} {cpu : ℕ} {ledger : Ledger} → IsRunLedger script cpu ledger → Core
ring_of run = run.is_ledger.settled.one_run.last

-- A run leaves as many collectors as its script has, and a ledger for each CPU, in their order. The ledgers are those
-- of rings, whose last states are these: so the headline holds of each collector that is audited against them.
pub record IsRunOfScript (script : Script) (ran : Ran) : Type 0 where
  pub collectors : vec_len ran.collectors ≡ script.collectors
  pub cpus : vec_len ran.ledgers ≡ script.cpus
  pub rings : ℕ → Core
  pub each : (cpu : ℕ) (ledger : Ledger)
      → slice_get ran.ledgers.items cpu ≡ Some ledger
      → (run : IsRunLedger script cpu ledger) × (rings cpu ≡ ring_of run)
  pub are_of_rings : AreOfRings script.pages script.size script.start rings ran.ledgers.items
  pub histories : (cpu : ℕ) → cpu < script.cpus → IsRunHistory script cpu (rings cpu).history
