use Rattle.std.proofs.Common.{ℕ, List}
use Rattle.parcel_streams.specs.Pieces.{BeginsWith}
use Rattle.parcel_streams.specs.Answers.{piece_seen}
use Rattle.parcel_streams.specs.declared.piece.Piece.{Piece}
use Rattle.parcel_streams.specs.declared.piece.Piece.TheVariants.{Parcel, Mark}
use Rattle.fleet_collector.specs.Pieces.{HasKnownCpu}
use Rattle.fleet_collector.proofs.laws.what_is_read_may_be_added.Goals as goal

of_known_cpu : (bytes : List ℕ) (piece : Piece) → BeginsWith bytes (piece_seen piece) → HasKnownCpu piece
of_known_cpu bytes (Parcel stream parcel) begins = tt
of_known_cpu bytes (Mark stream cpu mark) begins = begins.sound.cpu_known

pub returns : goal.returns
returns c = of_known_cpu
