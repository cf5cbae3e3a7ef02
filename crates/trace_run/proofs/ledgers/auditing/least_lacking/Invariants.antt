use Rattle.std.proofs.Common.{[], ◌∷◌, take}
use Rattle.trace_model.specs.Collection.{IsBelow}
use Rattle.trace_run.specs.ledgers.Audit.{taken_in}
use Rattle.trace_run.specs.ledgers.Least.{IsLeastFault}
use Rattle.trace_run.proofs.ledgers.auditing.least_lacking.Given as goal

abbrev pub invariant-loop-ledger : goal.invariant-loop-ledger
invariant-loop-ledger l =
    IsLeastFault (taken_in (take l.ledger-index l.ledgers)) (λ parcel. IsBelow (parcel ∷ []) l.collector) l.found
