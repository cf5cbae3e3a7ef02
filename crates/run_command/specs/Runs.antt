-- What the command `run` prints for a text, with which exit status.
use Rattle.std.specs.Prelude.{◌≡◌, ℕ, ◌+◌, ◌<◌, ◌≤◌, ◌⊎◌, ◌↔◌, List, length, Some, Contains}
use Rattle.std.specs.List.{slice_get, AllZip}
use Rattle.trace_model.specs.Ring.{Core}
use Rattle.trace_model.specs.Window.{RingEvent, history_events_of}
use Rattle.ring_model.specs.RunsAsEvents.{fills_taken}
use Rattle.text_model.specs.Script.{Script, ParsesScript}
use Rattle.world_model.specs.RunEvents.{AreEventsOfSteps}
use Rattle.line_model.specs.WriterCalls.{exchanges_to}
use Rattle.line_model.specs.Shown.{IsShownOf}
use Rattle.trace_run.specs.ledgers.Audit.{taken_in}
use Rattle.trace_run.specs.threaded.Runs.{IsRunHistory, IsOneRunOf, IsRunOfScript}
use Rattle.trace_run.specs.declared.threaded.running.Ran.{Ran}
use Rattle.run_command.specs.text.Verdicts.{yes}
use Rattle.run_command.specs.text.Printing.{AuditedShown, IsAuditedPrintOf, printed_run}
use Rattle.command_io.specs.declared.output.TheConstants.{THREAD_LINE}
use Rattle.command_io.specs.declared.status.TheConstants.{DONE, END_FAILED}
use Rattle.replay_command.specs.Commands.{PrintsFault}

-- These bytes are the printing of what a run of the script left: of each collector what its parcels have and miss, and
-- what its audit against the parcels of the run's ledgers answers.
pub record IsRunPrinting (script : Script) (bytes : List ℕ) : Type 0 where
  pub ran : Ran
  pub of_script : IsRunOfScript script ran
  pub shown : List AuditedShown
  pub reported : AllZip (IsAuditedPrintOf (taken_in ran.ledgers.items)) ran.collectors.items shown
  pub printed : bytes ≡ printed_run shown

-- the printing of a run of the script, or the line that reports that a thread could not be started
abbrev pub IsRunOutput : Script → List ℕ → ℕ → Type 0
IsRunOutput script bytes status =
    (IsRunPrinting script bytes × (status ≡ DONE)) ⊎ ((bytes ≡ THREAD_LINE.now) × (status ≡ END_FAILED))

-- the text spells a script, and these bytes are an output of its run
pub record PrintsRun (text bytes : List ℕ) (status : ℕ) : Type 0 where
  pub script : Script
  pub spelled : ParsesScript text script
  pub output : IsRunOutput script bytes status

-- What `run` gives for a text. A text spells a script or has a first fault, and never both.
abbrev pub RunGives : List ℕ → List ℕ → ℕ → Type 0
RunGives text bytes status = PrintsRun text bytes status ⊎ PrintsFault text bytes status

-- ---- what is printed above the lines `audit yes`, by the rings of the CPUs alone

-- One run of the ring's model, of the calls of that CPU's lines and of takes, leads from a new ring to this last state.
-- The events are those of its steps, one step after the other: what its frames did among them is a history of these
-- lines. Each closed fill was taken, or is lost: the fill one round of the ring's pages after it is begun.
pub record IsRingRun (script : Script) (cpu : ℕ) (events : List RingEvent) : Type 0 where
  pub last : Core
  pub history : IsRunHistory script cpu (history_events_of events)
  pub one_run : IsOneRunOf script (exchanges_to history.calls) last.reader.taken last
  pub each_step : AreEventsOfSteps script.pages script.size one_run.from one_run.exchanges events last
  pub none_unread : (f : ℕ)
      → script.start ≤ f
      → f < last.done
      → Contains (fills_taken script.start events) f ⊎ (f + script.pages < last.opened)

-- Of each CPU these are the events of its ring, and the fills are those that were taken, each with its CPU. A
-- collector with the verdict yes is shown as that of exactly these fills: each committed record of one of them has its
-- line, under its own CPU and number, and no other line is there; and the missing runs are those of the numbers that
-- were overwritten unread before one of them.
pub record IsRunHeadline (script : Script) (bytes : List ℕ) : Type 0 where
  pub events : ℕ → List RingEvent
  pub rings : (cpu : ℕ) → cpu < script.cpus → IsRingRun script cpu (events cpu)
  pub fills : List (ℕ × ℕ)
  pub taken : (cpu fill : ℕ)
      → Contains fills (cpu, fill)
      ↔ ((cpu < script.cpus) × Contains (fills_taken script.start (events cpu)) fill)
  pub shown : List AuditedShown
  pub collectors : length shown ≡ script.collectors
  pub exact : (collector : ℕ) (own : AuditedShown)
      → slice_get shown collector ≡ Some own
      → own.verdict ≡ yes
      → IsShownOf script.start events fills own.collector
  pub printed : bytes ≡ printed_run shown

-- The text spells a script, and the headline holds of what is printed.
abbrev pub HeadlineGives : (text bytes : List ℕ) (status : ℕ) → Type 0
HeadlineGives text bytes status = (script : Script) × ParsesScript text script × IsRunHeadline script bytes
