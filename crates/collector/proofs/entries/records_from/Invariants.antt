use Rattle.std.proofs.Common.{◌≡◌, ◌-◌, drop}
use Rattle.std.specs.List.{enumerate_from}
use Rattle.page_numbers.specs.Parcels.{as_parcel}
use Rattle.collector.proofs.entries.records_from.Given as goal

abbrev pub invariant-loop-passed : goal.invariant-loop-passed
invariant-loop-passed l =
    l.records ≡ enumerate_from l._passed (drop (l._passed - l.parcel.page.first) (as_parcel l.parcel).records)
