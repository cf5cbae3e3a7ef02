-- The words of the contracts of `streams`.

-- pieces, as bytes
pub use Rattle.parcel_streams.specs.Pieces.{BeginsWith, IsMark, IsPiece, IsStream, Packed, bytes_of_piece, mark_piece}
pub use Rattle.parcel_streams.specs.Answers.{HasPiece, HasPieceAt, piece_fault, piece_of_parcel, piece_seen}
pub use Rattle.parcel_streams.specs.Answers.{pieces_seen, stream_fault}
pub use Rattle.parcel_streams.specs.Faults.{FirstPieceFault, FirstStreamFault, HasMagic, IsDecided, IsWanted}
pub use Rattle.parcel_streams.specs.Faults.{PieceCause}
-- what is known of a stream
pub use Rattle.stream_collector.specs.Stream.{HasRecord, HasOutcome, IsMissing, IsOpen, IsUndelivered, IsUnknownYet}
pub use Rattle.stream_collector.specs.Stream.{IsUpToEnd, bound_of, end_of}
pub use Rattle.stream_collector.specs.Marks.{AreMarkedCpus}
pub use Rattle.trace_model.specs.Runs.{AreRuns}
-- what a call does
pub use Rattle.stream_collector.specs.Faults.{IsForgotten, IsNotAdded, IsWithinEnd}
pub use Rattle.stream_collector.specs.Forgetting.{AllAccounted, GivesUpBelow, HasBound, IsBoundFault, IsForgetFault}
pub use Rattle.stream_collector.specs.Forgetting.{RaisesBound}
pub use Rattle.stream_collector.specs.Frontier.{IsCut, IsForgottenBefore, IsFrontier}
pub use Rattle.stream_collector.specs.GivenUp.{AllGivenUp, GivesUp, IsUndeliveredFault}
pub use Rattle.stream_collector.specs.Marking.{HasEnd, IsEndFault, IsNotOpen}
pub use Rattle.stream_collector.specs.Merging.{FitTogether, IsMerge, IsMergeFault}
pub use Rattle.stream_collector.specs.Same.{IsSameStream}
