use Rattle.std.proofs.Common.{take}
use Rattle.std.specs.Prelude.{Contains}
use Rattle.page_numbers.specs.Parcels.{as_parcels}
use Rattle.trace_run.specs.ledgers.Audit.{taken_in}
use Rattle.trace_run.specs.ledgers.Least.{IsLeastFault}
use Rattle.trace_run.proofs.ledgers.auditing.least_stray.Given as goal

abbrev pub invariant-loop-parcel : goal.invariant-loop-parcel
invariant-loop-parcel l = IsLeastFault (take l.parcel-index (as_parcels l.kept)) (Contains (taken_in l.ledgers)) l.found
