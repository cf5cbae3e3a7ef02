use Rattle.std.proofs.Common.{List, subst}
use Rattle.parcel_streams.specs.Pieces.{Packed}
use Rattle.parcel_streams.proofs.Streams.{one_stream}
use Rattle.fleet_collector.specs.Fleet.{stream_at}
use Rattle.fleet_collector.specs.Told.{IsStreamOf}
use Rattle.fleet_collector.proofs.Joined.{told_same}
use Rattle.fleet_collector.proofs.laws.a_snapshot_is_its_stream.Goals as goal

pub returns : goal.returns
returns c id stream bytes pieces fleet snapshot is was =
    told_same pieces id stream (stream_at fleet id)
    (subst (λ (ps : List Packed). IsStreamOf ps id stream) (one_stream bytes snapshot.pieces pieces
    snapshot.is_stream is)
    snapshot.of_stream)
    (was.streams id)
