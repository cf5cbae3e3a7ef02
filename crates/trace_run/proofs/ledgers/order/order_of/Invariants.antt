use Rattle.std.proofs.Common.{◌≡◌, ℕ, ◌<◌, Some}
use Rattle.std.specs.List.{slice_get}
use Rattle.trace_run.specs.declared.ledgers.ledger.Ledger.{Ledger}
use Rattle.trace_run.specs.ledgers.Audit.{taken_of}
use Rattle.page_numbers.specs.Parcels.{AreOfCpu}
use Rattle.collector.specs.deliveries.Deliveries.{AreRising}
use Rattle.trace_run.proofs.ledgers.order.order_of.Given as goal

abbrev pub invariant-loop-cpu : goal.invariant-loop-cpu
invariant-loop-cpu l =
    (k : ℕ) (ledger : Ledger) → k < l.cpu → slice_get l.ledgers k ≡ Some ledger
    → AreOfCpu (taken_of ledger) k × AreRising (taken_of ledger)
