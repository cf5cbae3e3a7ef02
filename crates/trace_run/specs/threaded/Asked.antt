-- Where the gate let the ends of a run's rings pass.
use Rattle.std.specs.Prelude.{◌≡◌, ℕ, Bool, true, List, Contains, Some}
use Rattle.std.specs.List.{slice_get}
use Rattle.trace_model.specs.Parcel.{Parcel}
use Rattle.text_model.specs.Script.{Script}
use Rattle.trace_run.specs.declared.ledgers.ledger.Ledger.{Ledger}
use Rattle.trace_run.specs.ledgers.Audit.{taken_of}
use Rattle.trace_run.specs.declared.writers.gate.Who.{Who}
use Rattle.trace_run.specs.declared.writers.gate.Who.TheVariants as who
use Rattle.trace_run.specs.writers.Asking.{HavePassed}
use Rattle.trace_run.specs.declared.threaded.running.Ran.{Ran}
use Rattle.trace_run.specs.threaded.Runs.{IsRunLedger, ring_of}

-- the reader was let pass at each of these pages
abbrev pub HaveReadersPassed : {Gate : Type 0} (answers : Gate → Who → (cpu fill : ℕ) → Bool → Type 0) → Gate
    → (cpu : ℕ) → List Parcel → Type 0
HaveReadersPassed answers gate cpu taken = (parcel : Parcel)
    → Contains taken parcel
    → answers gate who.Reader cpu parcel.fill true

-- It is the ledger of a CPU's ring, whose writer was let pass at each fill that it closed, and whose reader at each
-- page that it took.
abbrev pub IsPassedLedger : {Gate : Type 0} (answers : Gate → Who → (cpu fill : ℕ) → Bool → Type 0) → Gate
    → Script → (cpu : ℕ) → Ledger → Type 0
IsPassedLedger answers gate script cpu ledger = (run : IsRunLedger script cpu ledger)
    × HavePassed answers gate cpu script.start (ring_of run).done
    × HaveReadersPassed answers gate cpu (taken_of ledger)

-- so are all ledgers of a run
abbrev pub HaveAllPassed : {Gate : Type 0} (answers : Gate → Who → (cpu fill : ℕ) → Bool → Type 0) → Gate
    → Script → Ran → Type 0
HaveAllPassed answers gate script ran = (cpu : ℕ) (ledger : Ledger)
    → slice_get ran.ledgers.items cpu ≡ Some ledger
    → IsPassedLedger answers gate script cpu ledger
