-- The words of the contracts of `fleets`; those of one stream are in `Streams`.
pub use Rattle.fleet_collector.specs.Changes.{MarksStream}
pub use Rattle.fleet_collector.specs.Fleet.{AllHaveKnownCpus, HasKnownCpus, KeepsOthers, known_of, stream_at}
pub use Rattle.fleet_collector.specs.Told.{IsFleetOf}
pub use Rattle.fleet_collector.specs.Pieces.{AddsPiece, HasKnownCpu, IsRefusal}
pub use Rattle.fleet_collector.specs.Frontier.{AllForgottenBefore, IsFleetFrontier, SomeForgottenBefore}
pub use Rattle.fleet_collector.specs.Lines.{line_seen}
pub use Rattle.fleet_collector.specs.Listing.{IsFleetListing, IsListingBefore}
pub use Rattle.fleet_collector.specs.Merging.{AllFitTogether, IsFleetMerge, IsFleetMergeFault, IsSameFleet}
pub use Rattle.fleet_collector.specs.Snapshot.{IsSnapshot}
