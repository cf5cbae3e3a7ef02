use Rattle.std.proofs.Common.{take}
use Rattle.std.specs.Prelude.{Contains}
use Rattle.page_numbers.specs.Parcels.{as_parcel}
use Rattle.trace_run.specs.ledgers.Audit.{taken_in}
use Rattle.trace_run.proofs.ledgers.search.is_among_all.Given as goal

abbrev pub invariant-loop-ledger : goal.invariant-loop-ledger
invariant-loop-ledger l = Contains (taken_in (take l.ledger-index l.ledgers)) (as_parcel l.parcel) → ⊥
