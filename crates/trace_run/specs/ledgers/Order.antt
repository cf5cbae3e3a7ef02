-- The order in which a run leaves its ledgers.
use Rattle.std.specs.Prelude.{◌≡◌, ℕ, List, Some}
use Rattle.std.specs.List.{slice_get}
use Rattle.page_numbers.specs.Parcels.{AreOfCpu}
use Rattle.collector.specs.deliveries.Deliveries.{AreRising}
use Rattle.trace_run.specs.declared.ledgers.ledger.Ledger.{Ledger}
use Rattle.trace_run.specs.ledgers.Audit.{taken_of}

-- each ledger has parcels of its own CPU alone
abbrev pub AreOwn : List Ledger → Type 0
AreOwn ledgers = (cpu : ℕ) (ledger : Ledger) → slice_get ledgers cpu ≡ Some ledger → AreOfCpu (taken_of ledger) cpu

-- so it is, and their fills rise
pub record AreInOrder (ledgers : List Ledger) : Type 0 where
  pub own : AreOwn ledgers
  pub rising : (cpu : ℕ) (ledger : Ledger) → slice_get ledgers cpu ≡ Some ledger → AreRising (taken_of ledger)
