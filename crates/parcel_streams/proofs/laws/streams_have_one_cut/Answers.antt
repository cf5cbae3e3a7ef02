use Rattle.parcel_streams.proofs.Streams.{one_stream}
use Rattle.parcel_streams.proofs.laws.streams_have_one_cut.Goals as goal

pub returns : goal.returns
returns c = one_stream
