use Rattle.parcel_streams.proofs.Given.{gives_none, gives_more, gives_again, stream_given, fault_given}
use Rattle.parcel_streams.proofs.source.laws.pieces_given_are_a_stream.Goals as goal

pub returns-clause-none : goal.returns-clause-none
returns-clause-none c = gives_none

pub returns-clause-more : goal.returns-clause-more
returns-clause-more c = gives_more

pub returns-clause-again : goal.returns-clause-again
returns-clause-again c = gives_again

pub returns-clause-stream : goal.returns-clause-stream
returns-clause-stream c = stream_given

pub returns-clause-fault : goal.returns-clause-fault
returns-clause-fault c = fault_given
