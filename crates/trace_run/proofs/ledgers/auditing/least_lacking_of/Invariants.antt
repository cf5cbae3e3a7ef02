use Rattle.std.proofs.Common.{List, [], ◌∷◌, ◌++◌, take}
use Rattle.trace_model.specs.Parcel.{Parcel}
use Rattle.trace_model.specs.Collection.{IsBelow}
use Rattle.page_numbers.specs.Parcels.{as_parcels}
use Rattle.trace_run.specs.ledgers.Least.{IsLeastFault}
use Rattle.trace_run.proofs.ledgers.auditing.least_lacking_of.Given as goal

abbrev pub invariant-loop-parcel : goal.invariant-loop-parcel
invariant-loop-parcel l = (these : List Parcel)
    → IsLeastFault these (λ parcel. IsBelow (parcel ∷ []) l.collector) l.fn.found
    → IsLeastFault (these ++ take l.parcel-index (as_parcels l.taken)) (λ parcel. IsBelow (parcel ∷ []) l.collector)
    l.found
