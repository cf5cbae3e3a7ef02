use Rattle.parcel_streams.proofs.Steps.{cause_reported, fault_reported, stream_reported}
use Rattle.parcel_streams.proofs.read.read_stream.Goals as goal

pub returns-clause-fault : goal.returns-clause-fault
returns-clause-fault c = λ index at cause e. cause_reported c.args.bytes.now c.read_pieces.result index at cause
    c.read_pieces.ensures.fault e

pub returns-clause-faulty : goal.returns-clause-faulty
returns-clause-faulty c = λ index at cause f. fault_reported c.args.bytes.now c.read_pieces.result index at cause
    c.read_pieces.ensures.stream c.read_pieces.ensures.fault f

pub returns-clause-read_back : goal.returns-clause-read_back
returns-clause-read_back c = λ pieces is. stream_reported c.args.bytes.now c.read_pieces.result pieces
    c.read_pieces.ensures.stream c.read_pieces.ensures.fault is
