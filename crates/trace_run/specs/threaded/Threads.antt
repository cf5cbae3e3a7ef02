-- The two threads of each ring, and what they leave.
use Rattle.std.specs.Prelude.{◌≡◌, ℕ, suc, ◌<◌, Bool, false, List, [], ◌∷◌, length, Some}
use Rattle.std.specs.List.{slice_get}
use Rattle.text_model.specs.Script.{Script}
use Rattle.trace_script.specs.declared.replay_fault.ReplayFault.{ReplayFault}
use Rattle.trace_script.specs.declared.replay_fault.ReplayFault.TheVariants.{GateShut}
use Rattle.line_model.specs.WriterCalls.{exchanges_to}
use Rattle.page_numbers.specs.Parcels.{as_parcels}
use Rattle.ring_shared.specs.Value.{WriterValue}
use Rattle.ring_shared.specs.Calls.{IsWriter}
use Rattle.trace_run.specs.declared.ledgers.ledger.Ledger.{Ledger}
use Rattle.trace_run.specs.declared.writers.gate.Who.{Who}
use Rattle.trace_run.specs.writers.LineWriters.{made_in}
use Rattle.trace_run.specs.writers.Asking.{HavePassed}
use Rattle.trace_run.specs.writers.Obeying.{AreLinesOf}
use Rattle.trace_run.specs.readers.Value.{ReaderEndValue}
use Rattle.trace_run.specs.threaded.Runs.{shape_of, IsRunHistory}
use Rattle.trace_run.specs.threaded.Asked.{HaveReadersPassed, IsPassedLedger}

-- For each CPU of the script, these are the indexes of its writer's lines.
pub record AreIndexes (script : Script) (indexes : List (List ℕ)) : Type 0 where
  pub count : length indexes ≡ script.cpus
  pub each : (cpu : ℕ) (own : List ℕ) → slice_get indexes cpu ≡ Some own → AreLinesOf cpu script.commands own

-- What contracts see of the two threads of a CPU's ring.
pub record RunningValue (Gate : Type 0) : Type 0 where
  pub cpu : ℕ
  pub script : Script
  pub gate : Gate

-- If a run of the CPUs below `cpus` ends with this fault, and it says that the gate was shut, then the gate may answer
-- false to an end of the ring of one of them.
abbrev pub IsByGate : {Gate : Type 0} (answers : Gate → Who → (cpu fill : ℕ) → Bool → Type 0) → Gate → (cpus : ℕ)
    → ReplayFault → Type 0
IsByGate answers gate cpus fault = fault ≡ GateShut
    → (who : Who) × (cpu : ℕ) × (fill : ℕ) × (cpu < cpus) × answers gate who cpu fill false

-- Both ends are those of one ring, after all lines of its CPU.
pub record IsJoined (script : Script) (cpu : ℕ) (ends : WriterValue × ReaderEndValue) : Type 0 where
  pub is_writer : IsWriter ends.0
  pub shape_is : ends.0.shape ≡ shape_of script
  pub at_rest : ends.0.part.frames ≡ []
  pub history : IsRunHistory script cpu ends.0.part.history
  pub has_made : made_in ends.0.part ≡ exchanges_to history.calls
  pub known : cpu < script.cpus
  pub cpu_is : ends.1.cpu ≡ cpu
  pub one_ring : ends.1.reader.table ≡ ends.0.table

-- these are the threads of this CPU in the run of a script
abbrev pub IsRunningAt : {Gate : Type 0} → Script → Gate → (cpu : ℕ) → RunningValue Gate → Type 0
IsRunningAt script gate cpu threads = (threads.cpu ≡ cpu) × (threads.script ≡ script) × (threads.gate ≡ gate)

-- these are the threads of the CPUs from this one on, in their order
abbrev pub AreRunning : {Gate : Type 0} → Script → Gate → (cpu : ℕ) → List (RunningValue Gate) → Type 0
AreRunning script gate cpu [] = Unit {0}
AreRunning script gate cpu (threads ∷ others) =
    IsRunningAt script gate cpu threads × AreRunning script gate (suc cpu) others

-- and these are their ledgers
abbrev pub AreRunLedgers : {Gate : Type 0} (answers : Gate → Who → (cpu fill : ℕ) → Bool → Type 0) → Gate
    → Script → (cpu : ℕ) → List Ledger → Type 0
AreRunLedgers answers gate script cpu [] = Unit {0}
AreRunLedgers answers gate script cpu (ledger ∷ ledgers) =
    IsPassedLedger answers gate script cpu ledger × AreRunLedgers answers gate script (suc cpu) ledgers

-- both ends were let pass wherever they asked, from the first fill on
abbrev pub ArePassedEnds : {Gate : Type 0} (answers : Gate → Who → (cpu fill : ℕ) → Bool → Type 0) → Gate
    → Script → (cpu : ℕ) → WriterValue × ReaderEndValue → Type 0
ArePassedEnds answers gate script cpu ends = HavePassed answers gate cpu script.start ends.0.part.done
    × HaveReadersPassed answers gate cpu (as_parcels ends.1.taken)
