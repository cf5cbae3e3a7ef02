-- The words of the contracts of `collectors`.

-- what parcels have and miss together
pub use Rattle.trace_model.specs.Collection.{Agree, Has, Misses, IsBelow, IsLeastUpperBound, IsSame}
pub use Rattle.collector.specs.Sound.{AreSound}
pub use Rattle.collector.specs.Merged.{IsMerged}
pub use Rattle.collector.specs.Entries.{record_of}
pub use Rattle.collector.specs.Faults.{IsAddFault}
pub use Rattle.collector.specs.declared.added.Added.{Added}
pub use Rattle.collector.specs.declared.fault.AddFault.{AddFault}
-- what is known of numbers, and runs of them
pub use Rattle.collector.specs.Known.{AreCpusOf, IsFinal, IsKnown}
pub use Rattle.collector.specs.Shown.{IsUnknown}
pub use Rattle.collector.specs.FirstRun.{HoldsOfNone, IsFirstRun}
pub use Rattle.collector.specs.Runs.{AreMissingRuns, AreUnknownRuns}
-- records by number, and listings by time
pub use Rattle.collector.specs.Listed.{AreRecordsFrom, AreRecordsOf}
pub use Rattle.trace_model.specs.Listing.{IsListing, Line}
pub use Rattle.time_merge.specs.Lines.{line_seen}
pub use Rattle.time_merge.specs.Walks.{TakesAll}
