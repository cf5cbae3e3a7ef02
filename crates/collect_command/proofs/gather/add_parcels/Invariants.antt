use Rattle.std.proofs.Common.{◌++◌, take}
use Rattle.trace_model.specs.Collection.{IsSame}
use Rattle.page_numbers.specs.Parcels.{as_parcels}
use Rattle.collect_command.proofs.gather.add_parcels.Given as goal

abbrev pub invariant-loop-parcel : goal.invariant-loop-parcel
invariant-loop-parcel l = IsSame l.collector (l.initial.collector ++ as_parcels (take l.parcel-index l.parcels))
