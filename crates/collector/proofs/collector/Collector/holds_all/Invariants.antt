use Rattle.std.proofs.Common.{take}
use Rattle.trace_model.specs.Collection.{IsBelow}
use Rattle.collector.proofs.collector.Collector.holds_all.Given as goal

abbrev pub invariant-loop-parcel : goal.invariant-loop-parcel
invariant-loop-parcel l = IsBelow (take l.parcel-index l.other) l.self
