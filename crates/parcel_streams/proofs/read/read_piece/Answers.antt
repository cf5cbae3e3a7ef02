use Rattle.parcel_streams.proofs.Answered.{fault-iff, read_back}
use Rattle.parcel_streams.proofs.read.read_piece.Goals as goal

pub returns-clause-fault : goal.returns-clause-fault
returns-clause-fault c = λ cause. fault-iff c.args.bytes.now c.read.result cause c.read.ensures.piece
    c.read.ensures.fault

pub returns-clause-read_back : goal.returns-clause-read_back
returns-clause-read_back c = λ piece is. read_back c.args.bytes.now c.read.result piece c.read.ensures.piece
    c.read.ensures.fault is
