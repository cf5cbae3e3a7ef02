use Rattle.fleet_collector.specs.Fleet.{stream_at}
use Rattle.fleet_collector.proofs.Joined.{told_same}
use Rattle.fleet_collector.proofs.laws.pieces_have_one_fleet.Goals as goal

pub returns : goal.returns
returns c pieces fleet other was too id =
    told_same pieces id (stream_at fleet id) (stream_at other id) (was.streams id) (too.streams id)
