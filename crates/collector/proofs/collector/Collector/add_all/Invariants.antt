use Rattle.std.proofs.Common.{◌++◌, take}
use Rattle.trace_model.specs.Collection.{IsSame}
use Rattle.collector.specs.Merged.{IsMerged}
use Rattle.collector.proofs.collector.Collector.add_all.Given as goal

abbrev pub invariant-loop-parcel : goal.invariant-loop-parcel
invariant-loop-parcel l = record {
  same : IsSame l.self (l.initial.self ++ take l.parcel-index l.other);
  kept : IsMerged l.initial.self (take l.parcel-index l.other) l.self;
}
