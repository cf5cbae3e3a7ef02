use Rattle.trace_model.proofs.laws.words.encoding_len.Goals as goal
use Rattle.trace_model.proofs.words.Lengths.{length-encoding}

pub returns : goal.returns
returns c = record { reckoned = length-encoding }
