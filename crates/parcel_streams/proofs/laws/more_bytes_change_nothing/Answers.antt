use Rattle.parcel_streams.proofs.Decided.{piece-iff, fault-iff}
use Rattle.parcel_streams.proofs.laws.more_bytes_change_nothing.Goals as goal

pub returns-clause-piece : goal.returns-clause-piece
returns-clause-piece c = piece-iff

pub returns-clause-fault : goal.returns-clause-fault
returns-clause-fault c = fault-iff
