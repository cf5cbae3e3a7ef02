use Rattle.std.proofs.Common.{take}
use Rattle.std.specs.Prelude.{Contains}
use Rattle.page_numbers.specs.Parcels.{as_parcel, as_parcels}
use Rattle.trace_run.proofs.ledgers.search.is_among.Given as goal

abbrev pub invariant-loop-other : goal.invariant-loop-other
invariant-loop-other l = Contains (take l.other-index (as_parcels l.parcels)) (as_parcel l.parcel) → ⊥
