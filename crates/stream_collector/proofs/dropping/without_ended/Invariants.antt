use Rattle.std.proofs.Common.{take}
use Rattle.trace_model.specs.Collection.{IsSame}
use Rattle.collector.specs.Known.{without_ended}
use Rattle.stream_collector.specs.Marks.{bounds_of}
use Rattle.stream_collector.proofs.dropping.without_ended.Given as goal

abbrev pub invariant-loop-parcel : goal.invariant-loop-parcel
invariant-loop-parcel l = IsSame l.kept (without_ended (bounds_of l.marks.cpus.entries) (take l.parcel-index l.parcels))
