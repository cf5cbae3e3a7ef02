use Rattle.parcel_streams.proofs.Streams.{stream_no_fault, one_stream_fault, stream_or_fault}
use Rattle.parcel_streams.proofs.laws.bytes_are_a_stream_or_have_a_fault.Goals as goal

pub returns-clause-one : goal.returns-clause-one
returns-clause-one c = stream_or_fault

pub returns-clause-stream_is_no_fault : goal.returns-clause-stream_is_no_fault
returns-clause-stream_is_no_fault c = stream_no_fault

pub returns-clause-one_fault : goal.returns-clause-one_fault
returns-clause-one_fault c = λ bytes index at cause other there reason f g.
    let one = one_stream_fault bytes index other at there cause reason f g in (one.index_is, one.at_is, one.cause_is)
