use Rattle.parcel_streams.proofs.Streams.{joined, joined_streams as streams_joined}
use Rattle.parcel_streams.proofs.laws.joined_streams.Goals as goal

pub returns-clause-bytes : goal.returns-clause-bytes
returns-clause-bytes c = joined

pub returns-clause-stream : goal.returns-clause-stream
returns-clause-stream c = streams_joined
